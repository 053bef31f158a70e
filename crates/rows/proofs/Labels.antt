-- The byte of a cell says the Rust's label, state and role.
use Prim.Native.Nat.{ℕ, zero, suc, ◌+◌, ◌-◌, ◌/◌, ◌%◌, ◌≤◌, ◌<◌}
use native.Mathlib.Omega.{arith}
use mathlib.Core.Path.{◌≡◌, refl, sym, ◌∙◌, ap, subst}
use mathlib.Core.Bool.{Bool, true, false, cond}
use Rattle.std.specs.Prelude.{Option, None, Some, slice_get, is_some}
use mathlib.Core.List.{List, [], ◌∷◌, ◌++◌, map}
use lib.Dec.{eqb, ltb}
use lib.ListN.{length}
use borrow.Author.Tests.{lt-ltb, le-ltb, ne_eqb}
use Rattle.capability.specs.declared.PipelineHazardKind.{PipelineHazardKind}
use Rattle.capability.specs.declared.PipelineStageRole.{PipelineStageRole}
use Rattle.capability.specs.declared.PipelineStageRole.TheVariants as role
use Rattle.capability.specs.declared.PipelineTimelineState.{PipelineTimelineState}
use Rattle.capability.specs.declared.PipelineTimelineState.TheVariants.{Empty, Active, Stalled, Flushed}
use Rattle.capability.specs.declared.Phase.{Phase}
use Rattle.capability.specs.declared.Phase.TheVariants.{Wait, Read, Execute, Write}
use Rattle.laws.specs.Lists.{All, keep, lists, modify, rest}
use Rattle.std.specs.Option.{option_or}
use Rattle.laws.specs.Texts.{Text}
use Rattle.laws.proofs.Maps.{map-append}
use Rattle.model.specs.Config.{UnitSpec, config, spec_name, with_capacity}
use Rattle.model.specs.Op.{Op}
use Rattle.model.specs.Units.{FunctionalUnit, is_busy}
use Rattle.model.specs.State.{State}
use Rattle.model.specs.Issue.{flushed_cell, issuing, phase_label, queue_cell, timeline_cells, unit_cell}
use Rattle.model.specs.Views.{cell_state, label_role, views}
use Rattle.model.specs.Requests.{cell_labels, label_text, requests, spec_names}
use Rattle.runs.proofs.Tracks.{all_append, all_map, all-weaken}
use Rattle.model.specs.RustTimeline.{RustCell, rust_cell_of, phase_index, phase_role, opening_cell, dropped_cell, dropped_cells, queued_cell, recorded_cell, recorded_cells, scheduled_cell, scheduled_label, RustRow, rust_timeline, rust_add, rust_open, rust_push, rust_push_all}
use Rattle.rows.proofs.Places.{nth_past, all_rest}
use Rattle.rows.proofs.Holds.{coded}
use Rattle.rows.proofs.Declared.{Below, Kinds}

-- ── The bytes are the model's ───────────────────────────────────────────────

coded-map
    : {A : Type 0} (f : A → (ℕ × RustCell)) (g : A → (ℕ × ℕ)) → ((x : A) → coded (f x) ≡ g x) → (xs : List A) → map coded (map f xs) ≡ map g xs
coded-map f g h [] = refl
coded-map f g h (x ∷ xs) = λ i. h x i ∷ coded-map f g h xs i

pub coded-dropped : (q : List Op) → map coded (dropped_cells q) ≡ map flushed_cell q
unfolding rust_timeline issuing
coded-dropped q = coded-map (λ (o : Op). (o.core.row, dropped_cell)) flushed_cell (λ o. refl) q

pub coded-recorded : (s : State) → map coded (recorded_cells s) ≡ timeline_cells s
unfolding rust_timeline issuing
coded-recorded s =
    map-append coded (map queued_cell s.queue) (map (scheduled_cell s.machine.specs) (keep is_busy s.units))
    ∙ (λ i. coded-map queued_cell queue_cell (λ o i. (o.core.row, none-added o.core.hazard i)) s.queue i
    ++ coded-map (scheduled_cell s.machine.specs) unit_cell (λ u. refl) (keep is_busy s.units) i)
  where
    none-added : (h : Option PipelineHazardKind) → 0 + cond (is_some h) 32 0 ≡ cond (is_some h) 32 0
    none-added None = refl
    none-added (Some k) = refl

-- ── One cell ────────────────────────────────────────────────────────────────

-- What the byte says, with the kinds ks.
pub record Right (ks : List UnitSpec) (x : RustCell) : Type 0 where
  pub label : label_text ks (x.byte % 32) ≡ Some x.label
  pub state : cell_state x.byte ≡ x.state
  pub role : label_role (x.byte % 32) ≡ x.role

abbrev by-quotient : ℕ → PipelineTimelineState
by-quotient q = cond (eqb q 0) Active (cond (eqb q 1) Stalled (cond (eqb q 2) Flushed Empty))

right-opening : (ks : List UnitSpec) → Right ks opening_cell
unfolding rust_timeline requests views lists
right-opening ks = record { label = refl; state = refl; role = refl }

right-dropped : (ks : List UnitSpec) → Right ks dropped_cell
unfolding rust_timeline requests views lists
right-dropped ks = record { label = refl; state = refl; role = refl }

no_label : (n : ℕ) → 8 ≤ n → slice_get cell_labels n ≡ None
unfolding requests
no_label n l = nth_past cell_labels n (omega arith)

kind-role : (n : ℕ) → 8 ≤ n → n < 24 → label_role n ≡ role.Execute
unfolding views
kind-role n l g =
    rw (
      ne_eqb n 0 (λ e. omega arith),
      ne_eqb n 1 (λ e. omega arith),
      ne_eqb n 2 (λ e. omega arith),
      ne_eqb n 3 (λ e. omega arith),
      lt-ltb 7 n l,
      lt-ltb n 24 g,
    )
    refl

module _ (ks : List UnitSpec) where
  right-recorded
      : (o : Op) (l : Text) (r : PipelineStageRole) (n : ℕ) → n < 32 → label_text ks n ≡ Some l → label_role n ≡ r
      → Right ks (recorded_cell o l r n)
  unfolding rust_timeline views
  right-recorded o l r n small p q = go (is_some o.core.hazard)
    where
      go : (b : Bool) → Right ks (rust_cell_of l (cond b Stalled Active) r (n + cond b 32 0))
      go true =
          let e : (n + 32) % 32 ≡ n = omega arith in
          let d : (n + 32) / 32 ≡ 1 = omega arith in
          record { label = ap (label_text ks) e ∙ p; state = ap by-quotient d; role = ap label_role e ∙ q }
      go false =
          let e : (n + 0) % 32 ≡ n = omega arith in
          let d : (n + 0) / 32 ≡ 0 = omega arith in
          record { label = ap (label_text ks) e ∙ p; state = ap by-quotient d; role = ap label_role e ∙ q }

  right-scheduled : (u : FunctionalUnit) → Below (length ks) u → length ks ≤ 16 → Right ks (scheduled_cell ks u).1
  unfolding rust_timeline requests config lists views issuing
  right-scheduled u l few = go u.phase
    where
      there : (xs : List UnitSpec) (k : ℕ) → k < length xs → spec_names xs k ≡ Some (spec_name xs k)
      there [] k g = absurd (omega arith)
      there (x ∷ xs) zero g = refl
      there (x ∷ xs) (suc k) g = there xs k (omega arith)

      kind-text : label_text ks (8 + u.spec) ≡ Some (spec_name ks u.spec)
      kind-text =
          ap (λ (o : Option Text). option_or o (cond (ltb (8 + u.spec) 8) None (spec_names ks (8 + u.spec - 8)))) (no_label (8 + u.spec) (omega arith))
          ∙ ap (λ (b : Bool). cond b None (spec_names ks (8 + u.spec - 8))) (le-ltb (8 + u.spec) 8 (omega arith))
          ∙ ap (spec_names ks) (omega arith) ∙ there ks u.spec l

      go
          : (p : Phase)
          → Right ks (recorded_cell u.op (scheduled_label ks p u.spec) (phase_role (phase_index p)) (phase_label p u.spec))
      go Wait = right-recorded u.op _ _ 1 (omega arith) refl refl
      go Read = right-recorded u.op _ _ 2 (omega arith) refl refl
      go Execute = right-recorded u.op _ _ (8 + u.spec) (omega arith) kind-text (kind-role (8 + u.spec) (omega arith) (omega arith))
      go Write = right-recorded u.op _ _ 3 (omega arith) refl refl

  right-queued : (o : Op) → Right ks (queued_cell o).1
  unfolding rust_timeline requests views lists
  right-queued o = right-recorded o _ _ 0 (omega arith) refl refl

  -- ── Many cells, and rows ──────────────────────────────────────────────────

  abbrev pub RightPush : (ℕ × RustCell) → Type 0
  RightPush p = Right ks p.1

  abbrev pub RightRow : RustRow → Type 0
  RightRow x = All (Right ks) x.cells

  pub dropped-right : (q : List Op) → All RightPush (dropped_cells q)
  unfolding rust_timeline
  dropped-right [] = tt
  dropped-right (o ∷ q) = (right-dropped ks, dropped-right q)

  pub recorded-right : (s : State) → length ks ≤ 16 → Kinds ks s → All RightPush (recorded_cells s)
  unfolding rust_timeline lists
  recorded-right s few h =
      all_append RightPush (map queued_cell s.queue) (map (scheduled_cell s.machine.specs) (keep is_busy s.units)) (queue s.queue)
      (subst (λ (js : List UnitSpec). All RightPush (map (scheduled_cell js) (keep is_busy s.units))) (sym h.same)
      (all_map (Below (length ks)) RightPush (scheduled_cell ks) (λ u l. right-scheduled u l few) (keep is_busy s.units)
      (kept s.units h.known)))
    where
      queue : (q : List Op) → All RightPush (map queued_cell q)
      queue [] = tt
      queue (o ∷ q) = (right-queued o, queue q)

      kept : (us : List FunctionalUnit) → All (Below (length ks)) us → All (Below (length ks)) (keep is_busy us)
      kept [] p = tt
      kept (u ∷ us) p = go (is_busy u) (kept us p.1)
        where
          go : (b : Bool) → All (Below (length ks)) (keep is_busy us) → All (Below (length ks)) (cond b (u ∷ []) [] ++ keep is_busy us)
          go true x = (p.0, x)
          go false x = x

  right-add : (c : RustCell) (x : RustRow) → Right ks c → RightRow x → RightRow (rust_add c x)
  unfolding rust_timeline
  right-add c x r p = go (ltb 200 (length (x.cells ++ (c ∷ []))))
    where
      all : All (Right ks) (x.cells ++ (c ∷ []))
      all = all_append (Right ks) x.cells (c ∷ []) p (r, tt)

      go : (b : Bool) → All (Right ks) (cond b (rest (x.cells ++ (c ∷ []))) (x.cells ++ (c ∷ [])))
      go true = all_rest (Right ks) (x.cells ++ (c ∷ [])) all
      go false = all

  right-push : (i : ℕ) (c : RustCell) (xs : List RustRow) → Right ks c → All RightRow xs → All RightRow (rust_push i c xs)
  unfolding rust_timeline
  right-push i c [] r p = tt
  right-push i c (x ∷ xs) r p = go (eqb x.id i) (right-push i c xs r p.1)
    where
      go : (b : Bool) → All RightRow (rust_push i c xs) → All RightRow (cond b (rust_add c x ∷ xs) (x ∷ rust_push i c xs))
      go true y = (right-add c x r p.0, p.1)
      go false y = (p.0, y)

  pub right-push_all : (ps : List (ℕ × RustCell)) (xs : List RustRow) → All RightPush ps → All RightRow xs → All RightRow (rust_push_all ps xs)
  unfolding rust_timeline
  right-push_all [] xs r p = p
  right-push_all (q ∷ qs) xs r p = right-push_all qs (rust_push q.0 q.1 xs) r.1 (right-push q.0 q.1 xs r.0 p)

  pub right-open : (h : ℕ) (x : RustRow) (xs : List RustRow) → x.cells ≡ opening_cell ∷ [] → All RightRow xs → All RightRow (rust_open h x xs)
  unfolding rust_timeline
  right-open h x xs e p = go (ltb h (length (xs ++ (x ∷ []))))
    where
      all : All RightRow (xs ++ (x ∷ []))
      all = all_append RightRow xs (x ∷ []) p (subst (All (Right ks)) (sym e) (right-opening ks, tt), tt)

      go : (b : Bool) → All RightRow (cond b (rest (xs ++ (x ∷ []))) (xs ++ (x ∷ [])))
      go true = all_rest RightRow (xs ++ (x ∷ [])) all
      go false = all

-- ── A capacity change keeps the names ───────────────────────────────────────

noted-names : (ks : List UnitSpec) (k n i : ℕ) → spec_names (modify k (with_capacity n) ks) i ≡ spec_names ks i
unfolding requests lists
noted-names [] k n i = refl
noted-names (x ∷ ks) zero n zero = refl
noted-names (x ∷ ks) zero n (suc i) = refl
noted-names (x ∷ ks) (suc k) n zero = refl
noted-names (x ∷ ks) (suc k) n (suc i) = noted-names ks k n i

pub noted-length : (ks : List UnitSpec) (k n : ℕ) → length (modify k (with_capacity n) ks) ≡ length ks
unfolding lists
noted-length [] k n = refl
noted-length (x ∷ ks) zero n = refl
noted-length (x ∷ ks) (suc k) n = ap suc (noted-length ks k n)

pub noted-right
    : (ks : List UnitSpec) (k n : ℕ) (xs : List RustRow) → All (RightRow ks) xs → All (RightRow (modify k (with_capacity n) ks)) xs
unfolding requests
noted-right ks k n xs p =
    all-weaken (RightRow ks) (RightRow (modify k (with_capacity n) ks))
    (λ x q. all-weaken (Right ks) (Right (modify k (with_capacity n) ks)) (λ c r. one c r) x.cells q) xs p
  where
    one : (c : RustCell) → Right ks c → Right (modify k (with_capacity n) ks) c
    one c r =
        record {
          label =
              ap (λ (o : Option Text). option_or (slice_get cell_labels (c.byte % 32)) (cond (ltb (c.byte % 32) 8) None o)) (noted-names ks k n (c.byte % 32 - 8))
              ∙ r.label;
          state = r.state;
          role = r.role;
        }
