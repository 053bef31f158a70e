-- What the engine asks of its units, queue and rows it asks of their bare forms.
use Prim.Native.Nat.{ℕ, suc, ◌-◌}
use mathlib.Core.Path.{◌≡◌, refl, sym, ◌∙◌, ap, ap₂}
use mathlib.Core.Bool.{Bool, true, false, cond, ◌&&◌}
use Rattle.std.specs.Prelude.{Option, None, Some, slice_get, option_map}
use mathlib.Core.List.{List, [], ◌∷◌, ◌++◌, map}
use lib.Dec.{eqb, ltb}
use lib.ListN.{length, drop}
use Rattle.capability.specs.declared.Phase.TheVariants.{Write}
use Rattle.capability.specs.declared.PipelineHazardKind.{PipelineHazardKind}
use Rattle.capability.specs.declared.PipelineInstructionClass.{PipelineInstructionClass}
use Rattle.laws.specs.Lists.{find_at, is_empty, keep, modify}
use Rattle.std.specs.List.{list_any}
use Rattle.laws.specs.Optional.{value_or}
use Rattle.std.specs.Option.{option_or}
use Rattle.laws.specs.Texts.{Text}
use Rattle.model.specs.Config.{UnitSpec, is_memory, is_system}
use Rattle.model.specs.Issue.{free_unit, issuing, unit_cell, wait_trace}
use Rattle.model.specs.Op.{Op}
use Rattle.model.specs.State.{Log, count_stalls, engine, stall_all}
use Rattle.model.specs.Timeline.{Row, Write as CellWrite, add_cell, next_place, open_row, push, push_all, push_all_writes, push_writes, timeline}
use Rattle.model.specs.Traces.{Trace}
use Rattle.model.specs.Units.{FunctionalUnit, idle_unit, in_phase, is_busy, mark_hazard, seq_of, unit_at, units, waits, with_busy}
use Rattle.model.specs.Views.{older, oldest, views}
use Rattle.model.specs.Write.{Blocked, blocked_kind, drain, drain_blocked, insert, mark_blocked, memory, memory_blocked, older_memory, other_busy, put_back, reads, ready_at, take_out, try_one, try_writes, war, war_reader, writable_unit, write_blocked, writing}
use Rattle.laws.proofs.Maps.{any-at-map, any-map, empty-map, find-map, keep-map, length-of, map-append, map-drop, map-swap, modify-map, nth-map, sees-only}
use Rattle.renaming.specs.Recording.{Shows, bare_log, bare_op, bare_row, bare_trace, bare_unit, blank}

-- Every name left out.
abbrev pub hide : Shows
hide n a = blank a

-- ── Units ───────────────────────────────────────────────────────────────────

pub bare-at : (us : List FunctionalUnit) (i : ℕ) → unit_at (map (bare_unit hide) us) i ≡ bare_unit hide (unit_at us i)
unfolding units
bare-at us i = rw (nth-map (bare_unit hide) us i) (go (slice_get us i))
  where
    go : (o : Option FunctionalUnit) → value_or (idle_unit 0 0) (option_map (bare_unit hide) o) ≡ bare_unit hide (value_or (idle_unit 0 0) o)
    go None = refl
    go (Some u) = refl

bare-ready : (i : ℕ) (us : List FunctionalUnit) → ready_at i (map (bare_unit hide) us) ≡ ready_at i us
unfolding writing units
bare-ready i [] = refl
bare-ready i (u ∷ us) =
    ap (λ (l : List (ℕ × ℕ)). cond (in_phase Write u) (insert (seq_of u, i)) (λ qs. qs) l) (bare-ready (suc i) us)

bare-war : (us : List FunctionalUnit) (i : ℕ) (rs : List ℕ) → war_reader (map (bare_unit hide) us) i rs ≡ war_reader us i rs
unfolding writing
bare-war us i [] = refl
bare-war us i (r ∷ rs) =
    ap₂ option_or (ap (option_map (war r)) (find-map (bare_unit hide) (reads i r) (reads i r) (λ j u. refl) 0 us)) (bare-war us i rs)

bare-memory : (us : List FunctionalUnit) (i : ℕ) → memory_blocked (map (bare_unit hide) us) i ≡ memory_blocked us i
unfolding writing units
bare-memory us i =
    ap
    (λ (u : FunctionalUnit). cond (is_memory u.class) (option_map memory (find_at (older_memory i (seq_of u)) 0 (map (bare_unit hide) us))) None)
    (bare-at us i)
    ∙ ap (λ (o : Option ℕ). cond (is_memory (unit_at us i).class) (option_map memory o) None)
    (find-map (bare_unit hide) (older_memory i (seq_of (unit_at us i))) (older_memory i (seq_of (unit_at us i))) (λ j u. refl) 0 us)

bare-drain : (us : List FunctionalUnit) (i : ℕ) → drain_blocked (map (bare_unit hide) us) i ≡ drain_blocked us i
unfolding writing units
bare-drain us i =
    ap₂ (λ (u : FunctionalUnit) (b : Bool). cond (is_system u.class && b) (Some drain) None) (bare-at us i)
    (any-at-map (bare_unit hide) (other_busy i) (other_busy i) (λ j u. refl) 0 us)

bare-blocked : (us : List FunctionalUnit) (i : ℕ) → write_blocked (map (bare_unit hide) us) i ≡ write_blocked us i
unfolding writing
bare-blocked us i =
    ap₂ option_or
    (ap (λ (u : FunctionalUnit). war_reader (map (bare_unit hide) us) i u.destinations) (bare-at us i) ∙ bare-war us i (unit_at us i).destinations)
    (ap₂ option_or (bare-memory us i) (bare-drain us i))

bare-tries : (us : List FunctionalUnit) (qs : List (ℕ × ℕ)) → try_writes (map (bare_unit hide) us) qs ≡ try_writes us qs
unfolding writing
bare-tries us [] = refl
bare-tries us (q ∷ qs) = ap₂ (try_one q.1) (bare-blocked us q.1) (bare-tries us qs)

bare-writable : (us : List FunctionalUnit) → writable_unit (map (bare_unit hide) us) ≡ writable_unit us
unfolding writing
bare-writable us = ap (try_writes (map (bare_unit hide) us)) (bare-ready 0 us) ∙ bare-tries us (ready_at 0 us)

bare-cells : (us : List FunctionalUnit) → map unit_cell (keep is_busy (map (bare_unit hide) us)) ≡ map unit_cell (keep is_busy us)
unfolding issuing units
bare-cells us = ap (map unit_cell) (keep-map (bare_unit hide) is_busy is_busy (λ u. refl) us) ∙ forget (keep is_busy us)
  where
    forget : (l : List FunctionalUnit) → map unit_cell (map (bare_unit hide) l) ≡ map unit_cell l
    forget [] = refl
    forget (u ∷ l) = ap (λ (k : List (ℕ × ℕ)). unit_cell u ∷ k) (forget l)

bare-waits
    : (l : List FunctionalUnit) (ns : List Text) (xs : List FunctionalUnit)
    → map bare_trace (map (wait_trace l ns) (keep waits xs)) ≡ map (λ u. bare_trace (wait_trace [] [] u)) (keep waits (map (bare_unit hide) xs))
unfolding issuing units
bare-waits l ns xs =
    map-swap (wait_trace l ns) (bare_unit hide) bare_trace (λ u. bare_trace (wait_trace [] [] u)) (λ u. refl) (keep waits xs)
    ∙ ap (map (λ u. bare_trace (wait_trace [] [] u))) (sym (keep-map (bare_unit hide) waits waits (λ u. refl) xs))

pub bare-oldest
    : (p : FunctionalUnit → Bool) → ((u : FunctionalUnit) → p (bare_unit hide u) ≡ p u) → (us : List FunctionalUnit)
    → oldest p (map (bare_unit hide) us) ≡ option_map (bare_unit hide) (oldest p us)
unfolding views units
bare-oldest p r [] = refl
bare-oldest p r (u ∷ us) = rw (r u, bare-oldest p r us) (go (p u) (oldest p us))
  where
    pick : (v : FunctionalUnit) (b : Bool) → cond b (Some (bare_unit hide v)) (Some (bare_unit hide u)) ≡ option_map (bare_unit hide) (cond b (Some v) (Some u))
    pick v true = refl
    pick v false = refl

    go
        : (b : Bool) (o : Option FunctionalUnit)
        → cond b (older (bare_unit hide u)) (λ x. x) (option_map (bare_unit hide) o) ≡ option_map (bare_unit hide) (cond b (older u) (λ x. x) o)
    go true None = refl
    go true (Some v) = pick v (ltb (seq_of v) (seq_of u))
    go false None = refl
    go false (Some v) = refl

-- The same, as what two lists with one bare form have in common.
module _ (us vs : List FunctionalUnit) (h : map (bare_unit hide) us ≡ map (bare_unit hide) vs) where
  pub same-writable : writable_unit us ≡ writable_unit vs
  same-writable = sees-only (bare_unit hide) (bare_unit hide) writable_unit writable_unit (bare-writable) (bare-writable) us vs h

  pub same-busy : list_any is_busy us ≡ list_any is_busy vs
  unfolding units
  same-busy =
      sees-only (bare_unit hide) (bare_unit hide) (list_any is_busy) (list_any is_busy) (any-map (bare_unit hide) is_busy is_busy (λ u. refl))
      (any-map (bare_unit hide) is_busy is_busy (λ u. refl)) us vs h

  pub same-free : (ks : List UnitSpec) (c : PipelineInstructionClass) → free_unit ks us c ≡ free_unit ks vs c
  unfolding issuing
  same-free ks c =
      sees-only (bare_unit hide) (bare_unit hide) (λ l. free_unit ks l c) (λ l. free_unit ks l c) (find-map (bare_unit hide) _ _ (λ i u. refl) 0)
      (find-map (bare_unit hide) _ _ (λ i u. refl) 0) us vs h

  pub same_at : (i : ℕ) → bare_unit hide (unit_at us i) ≡ bare_unit hide (unit_at vs i)
  same_at i = sym (bare-at us i) ∙ ap (λ l. unit_at l i) h ∙ bare-at vs i

  pub same-cells : map unit_cell (keep is_busy us) ≡ map unit_cell (keep is_busy vs)
  same-cells =
      sees-only (bare_unit hide) (bare_unit hide) (λ l. map unit_cell (keep is_busy l)) (λ l. map unit_cell (keep is_busy l)) (bare-cells)
      (bare-cells) us vs h

  pub same-mapped
      : (f : FunctionalUnit → FunctionalUnit) → ((u : FunctionalUnit) → bare_unit hide (f u) ≡ f (bare_unit hide u))
      → map (bare_unit hide) (map f us) ≡ map (bare_unit hide) (map f vs)
  same-mapped f r =
      map-swap f (bare_unit hide) (bare_unit hide) f r us ∙ ap (map f) h ∙ sym (map-swap f (bare_unit hide) (bare_unit hide) f r vs)

  pub same-modified
      : (i : ℕ) (f g k : FunctionalUnit → FunctionalUnit) → ((u : FunctionalUnit) → bare_unit hide (f u) ≡ k (bare_unit hide u))
      → ((u : FunctionalUnit) → bare_unit hide (g u) ≡ k (bare_unit hide u)) → map (bare_unit hide) (modify i f us) ≡ map (bare_unit hide) (modify i g vs)
  same-modified i f g k r q =
      modify-map (bare_unit hide) f k r i us ∙ ap (modify i k) h ∙ sym (modify-map (bare_unit hide) g k q i vs)

  pub same-waits
      : (ms ns : List Text) → map bare_trace (map (wait_trace us ms) (keep waits us)) ≡ map bare_trace (map (wait_trace vs ns) (keep waits vs))
  same-waits ms ns =
      bare-waits us ms us ∙ ap (λ l. map (λ u. bare_trace (wait_trace [] [] u)) (keep waits l)) h ∙ sym (bare-waits vs ns vs)

pub same-marked
    : (bs : List (ℕ × Blocked)) (us vs : List FunctionalUnit) → map (bare_unit hide) us ≡ map (bare_unit hide) vs
    → map (bare_unit hide) (mark_blocked bs us) ≡ map (bare_unit hide) (mark_blocked bs vs)
unfolding writing units
same-marked [] us vs h = h
same-marked (b ∷ bs) us vs h =
    same-marked bs (modify b.0 (mark_hazard (blocked_kind b.1)) us) (modify b.0 (mark_hazard (blocked_kind b.1)) vs)
    (same-modified us vs h b.0 _ _ (mark_hazard (blocked_kind b.1)) (λ u. refl) (λ u. refl))

pub same-taken-out
    : (o : Option ℕ) (us vs : List FunctionalUnit) → map (bare_unit hide) us ≡ map (bare_unit hide) vs
    → map (bare_unit hide) (take_out o us) ≡ map (bare_unit hide) (take_out o vs)
unfolding writing
same-taken-out None us vs h = h
same-taken-out (Some i) us vs h =
    same-modified us vs h i (with_busy false) (with_busy false) (with_busy false) (λ u. refl) (λ u. refl)

pub same-put-back
    : (o : Option ℕ) (us vs : List FunctionalUnit) → map (bare_unit hide) us ≡ map (bare_unit hide) vs
    → map (bare_unit hide) (put_back o us) ≡ map (bare_unit hide) (put_back o vs)
unfolding writing
same-put-back None us vs h = h
same-put-back (Some i) us vs h =
    same-modified us vs h i (with_busy true) (with_busy true) (with_busy true) (λ u. refl) (λ u. refl)

-- ── The queue ───────────────────────────────────────────────────────────────

module _ (q r : List Op) (h : map (bare_op hide) q ≡ map (bare_op hide) r) where
  pub same_length : length q ≡ length r
  same_length = sees-only (bare_op hide) (bare_op hide) length length (length-of (bare_op hide)) (length-of (bare_op hide)) q r h

  pub same-empty : is_empty q ≡ is_empty r
  same-empty = sees-only (bare_op hide) (bare_op hide) is_empty is_empty (empty-map (bare_op hide)) (empty-map (bare_op hide)) q r h

  pub same-queued
      : (f : Op → Op) → ((o : Op) → bare_op hide (f o) ≡ f (bare_op hide o)) → map (bare_op hide) (map f q) ≡ map (bare_op hide) (map f r)
  same-queued f e = map-swap f (bare_op hide) (bare_op hide) f e q ∙ ap (map f) h ∙ sym (map-swap f (bare_op hide) (bare_op hide) f e r)

  pub same-front
      : (f : Op → Op) → ((o : Op) → bare_op hide (f o) ≡ f (bare_op hide o))
      → map (bare_op hide) (modify 0 f q) ≡ map (bare_op hide) (modify 0 f r)
  same-front f e = modify-map (bare_op hide) f f e 0 q ∙ ap (modify 0 f) h ∙ sym (modify-map (bare_op hide) f f e 0 r)

  pub same-queue-cells : (f : Op → (ℕ × ℕ)) → ((o : Op) → f (bare_op hide o) ≡ f o) → map f q ≡ map f r
  same-queue-cells f e = sees-only (bare_op hide) (bare_op hide) (map f) (map f) forget forget q r h
    where
      forget : (l : List Op) → map f (map (bare_op hide) l) ≡ map f l
      forget [] = refl
      forget (o ∷ l) = ap₂ (λ (x : ℕ × ℕ) (k : List (ℕ × ℕ)). x ∷ k) (e o) (forget l)

-- ── Rows and the wait list ──────────────────────────────────────────────────

bare-push : (i : ℕ) (rows : List Row) → push i (map bare_row rows) ≡ map bare_row (push i rows)
unfolding timeline
bare-push i [] = refl
bare-push i (r ∷ rows) = rw (bare-push i rows) (go (eqb r.id i))
  where
    go : (b : Bool) → cond b (add_cell (bare_row r) ∷ map bare_row rows) (bare_row r ∷ map bare_row (push i rows)) ≡ map bare_row (cond b (add_cell r ∷ rows) (r ∷ push i rows))
    go true = refl
    go false = refl

bare-push_all : (cs : List (ℕ × ℕ)) (rows : List Row) → push_all cs (map bare_row rows) ≡ map bare_row (push_all cs rows)
unfolding timeline
bare-push_all [] rows = refl
bare-push_all (c ∷ cs) rows = ap (push_all cs) (bare-push c.0 rows) ∙ bare-push_all cs (push c.0 rows)

bare-writes : (n i c : ℕ) (rows : List Row) → push_writes n i c (map bare_row rows) ≡ push_writes n i c rows
unfolding timeline
bare-writes n i c [] = refl
bare-writes n i c (r ∷ rows) = ap (λ (l : List CellWrite). cond (eqb r.id i) ((next_place n r, c ∷ []) ∷ []) l) (bare-writes n i c rows)

bare-all-writes : (n : ℕ) (cs : List (ℕ × ℕ)) (rows : List Row) → push_all_writes n cs (map bare_row rows) ≡ push_all_writes n cs rows
unfolding timeline
bare-all-writes n [] rows = refl
bare-all-writes n (c ∷ cs) rows =
    ap₂ ◌++◌ (bare-writes n c.0 c.1 rows)
    (ap (push_all_writes n cs) (bare-push c.0 rows) ∙ bare-all-writes n cs (push c.0 rows))

bare-open : (n : ℕ) (r : Row) (rows : List Row) → open_row n (bare_row r) (map bare_row rows) ≡ map bare_row (open_row n r rows)
unfolding timeline
bare-open n r rows =
    ap (λ l. drop (length l - n) l) (sym (map-append bare_row rows (r ∷ [])))
    ∙ ap (λ k. drop (k - n) (map bare_row (rows ++ (r ∷ [])))) (length-of bare_row (rows ++ (r ∷ [])))
    ∙ sym (map-drop bare_row (length (rows ++ (r ∷ [])) - n) (rows ++ (r ∷ [])))

module _ (rows rows' : List Row) (h : map bare_row rows ≡ map bare_row rows') where
  pub same-pushed : (cs ds : List (ℕ × ℕ)) → cs ≡ ds → map bare_row (push_all cs rows) ≡ map bare_row (push_all ds rows')
  same-pushed cs ds p = sym (bare-push_all cs rows) ∙ ap₂ push_all p h ∙ bare-push_all ds rows'

  pub same-written : (n m : ℕ) (cs ds : List (ℕ × ℕ)) → n ≡ m → cs ≡ ds → push_all_writes n cs rows ≡ push_all_writes m ds rows'
  same-written n m cs ds e p =
      sym (bare-all-writes n cs rows) ∙ (λ i. push_all_writes (e i) (p i) (h i)) ∙ bare-all-writes m ds rows'

  pub same-opened : (n : ℕ) (r r' : Row) → bare_row r ≡ bare_row r' → map bare_row (open_row n r rows) ≡ map bare_row (open_row n r' rows')
  same-opened n r r' p = sym (bare-open n r rows) ∙ ap₂ (open_row n) p h ∙ bare-open n r' rows'

kinds-bare : (ts : List Trace) → map (λ (t : Trace). t.kind) (map bare_trace ts) ≡ map (λ (t : Trace). t.kind) ts
kinds-bare [] = refl
kinds-bare (t ∷ ts) = ap (λ (l : List PipelineHazardKind). t.kind ∷ l) (kinds-bare ts)

pub same-stalled : (ts us : List Trace) (l k : Log) → map bare_trace ts ≡ map bare_trace us → bare_log l ≡ bare_log k → bare_log (stall_all ts l) ≡ bare_log (stall_all us k)
unfolding engine
same-stalled ts us l k p h =
    ap₂ (λ (a : List PipelineHazardKind) (b : List Trace). stalled a b (bare_log l)) (sym (kinds-bare ts)) (map-append bare_trace l.traces ts)
    ∙ ap₂ (λ (a : List Trace) (b : Log). stalled (map (λ (t : Trace). t.kind) a) (b.traces ++ a) b) p h
    ∙ ap₂ (λ (a : List PipelineHazardKind) (b : List Trace). stalled a b (bare_log k)) (kinds-bare us) (sym (map-append bare_trace k.traces us))
  where
    stalled : List PipelineHazardKind → List Trace → Log → Log
    stalled hs ts l = record { stats = count_stalls hs l.stats; traces = ts; rows = l.rows; status = l.status }
