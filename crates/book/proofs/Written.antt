-- Write result: what a completed write does to the tables is the book's bookkeeping; a start changes no table.
use Prim.Native.Nat.{ℕ}
use mathlib.Core.Path.{◌≡◌, refl, sym, ◌∙◌, ap, ap₂, subst, fun_ext}
use mathlib.Core.Bool.{Bool, true, false, cond, not, ◌&&◌, false≢true}
use Rattle.std.specs.Prelude.{Option, None, Some, slice_get, option_map}
use mathlib.Core.List.{List, [], ◌∷◌, ◌++◌, map}
use mathlib.Core.Logic.{◌⊎◌, inl, inr, ◌↔◌}
use lib.Dec.{eqb}
use borrow.Author.Tests.{eqb-true, eqb-false}
use Rattle.laws.specs.Lists.{keep, lists, modify}
use Rattle.laws.specs.Optional.{value_or, is_none}
use Rattle.laws.proofs.Choices.{some_inj}
use Rattle.laws.proofs.Maps.{nth-map}
use Rattle.capability.specs.declared.Phase.{Phase}
use Rattle.capability.specs.declared.Phase.TheVariants.{Wait}
use Rattle.model.specs.Issue.{complete_offer, issuing}
use Rattle.model.specs.Registers.{producer_of, release_all}
use Rattle.model.specs.Scoreboard.{close_cycle, closed, scoreboard}
use Rattle.model.specs.State.{State}
use Rattle.model.specs.Units.{FunctionalUnit, clear, clear_hazard, idle_unit, unit_at, units, with_busy, without_waits}
use Rattle.model.specs.Views.{owed, views}
use Rattle.model.specs.Write.{mark_blocked, put_back, start_cycle, take_out, writable_unit, writing}
use Rattle.invariant.specs.Invariant.{Holds, In, Invariant, occupied}
use Rattle.invariant.proofs.Entries.{marked-same, offered-self}
use Rattle.invariant.proofs.Lists.{in-dec, in-keep, nth-image, nth-other, nth-same}
use Rattle.invariant.proofs.Start.{Finished, found-ready}
use Rattle.invariant.proofs.Tables.{releases-gone, releases-owed, releases-owes}
use Rattle.book.specs.Book.{source, Status, status, book, fi_at, do_write, free_row, owes, released, tidy, tidy_row, tidy_source, wake, wake_row}
use Rattle.book.specs.Tables.{is_wait, source_of, row_of, shown_units, book_of}
use Rattle.book.proofs.Lists.{in-elem, map-in, map-two, out-elem, same_places}
use Rattle.book.proofs.Blocking.{busy-holds}
use Rattle.book.proofs.Rows.{fi-holds, fi-in, in-owed, owed-in, row-full, row-idle, rows_all}

-- ── Register result status ──────────────────────────────────────────────────

pub result-same : (s : State) → Invariant s → (r i : ℕ) → ((book_of s).Result r ≡ Some i) ↔ In r (fi_at (book_of s) i)
result-same s h r i = (
  (λ e. let w = h.claimant r i e in subst (In r) (sym (fi-holds s i w.0 w.1)) w.2),
  (λ m. let w = fi-in s i r m in h.claimed i w.0 r w.1 w.2),
)

-- ── The waits for one unit are taken off ────────────────────────────────────

abbrev others : ℕ → (ℕ × ℕ) → Bool
others i p = not (eqb p.1 i)

owed-kept : (i r k : ℕ) (ws : List (ℕ × ℕ)) → owed ws r ≡ Some k → (k ≡ i → ⊥) → owed (keep (others i) ws) r ≡ Some k
unfolding views lists
owed-kept i r k [] h n = h
owed-kept i r k (w ∷ ws) h n = go (λ z. owed-kept i r k ws z n) (eqb w.0 r) refl (eqb w.1 i) refl h
  where
    go
        : (owed ws r ≡ Some k → owed (keep (others i) ws) r ≡ Some k) → (a : Bool) → eqb w.0 r ≡ a → (b : Bool) → eqb w.1 i ≡ b
        → cond a (Some w.1) (owed ws r) ≡ Some k → owed (keep (others i) (w ∷ ws)) r ≡ Some k
    go ih true e true f z = absurd (n (sym (some_inj w.1 k z) ∙ eqb-true w.1 i f))
    go ih true e false f z =
        ap (λ (x : Bool). owed (cond (not x) (w ∷ []) [] ++ keep (others i) ws) r) f
        ∙ ap (λ (x : Bool). cond x (Some w.1) (owed (keep (others i) ws) r)) e ∙ z
    go ih false e true f z = ap (λ (x : Bool). owed (cond (not x) (w ∷ []) [] ++ keep (others i) ws) r) f ∙ ih z
    go ih false e false f z =
        ap (λ (x : Bool). owed (cond (not x) (w ∷ []) [] ++ keep (others i) ws) r) f
        ∙ ap (λ (x : Bool). cond x (Some w.1) (owed (keep (others i) ws) r)) e ∙ ih z

-- What is left, where all waits for a register name one unit.
owed-left
    : (i r : ℕ) (ws : List (ℕ × ℕ)) → ((k m : ℕ) → In {A = ℕ × ℕ} (r, k) ws → In {A = ℕ × ℕ} (r, m) ws → k ≡ m)
    → owed (keep (others i) ws) r ≡ cond (owes i (owed ws r)) None (owed ws r)
owed-left i r ws one = go (owed ws r) refl (owed (keep (others i) ws) r) refl
  where
    kept_in : (k : ℕ) → owed (keep (others i) ws) r ≡ Some k → In {A = ℕ × ℕ} (r, k) ws × (not (eqb k i) ≡ true)
    kept_in k h = in-keep (others i) (r, k) ws (owed-in r k (keep (others i) ws) h)

    at
        : (k : ℕ) → owed ws r ≡ Some k → (b : Bool) → eqb k i ≡ b → (q : Option ℕ) → owed (keep (others i) ws) r ≡ q
        → owed (keep (others i) ws) r ≡ cond b None (Some k)
    at k e true z None f = f
    at k e true z (Some m) f =
        let y = kept_in m f in
        let km : k ≡ m = one k m (owed-in r k ws e) y.0 in
        absurd (false≢true (sym (ap not (ap (λ (x : ℕ). eqb x i) (sym km) ∙ z)) ∙ y.1))
    at k e false z q f = owed-kept i r k ws e (eqb-false k i z)

    go
        : (o : Option ℕ) → owed ws r ≡ o → (q : Option ℕ) → owed (keep (others i) ws) r ≡ q
        → owed (keep (others i) ws) r ≡ cond (owes i (owed ws r)) None (owed ws r)
    go None e None f = f ∙ sym (ap (λ (x : Option ℕ). cond (owes i x) None x) e)
    go None e (Some k) f = absurd (in-owed r k ws (kept_in k f).0 e)
    go (Some k) e q f = at k e (eqb k i) refl q f ∙ sym (ap (λ (x : Option ℕ). cond (owes i x) None x) e)

woken
    : (i r : ℕ) (u : FunctionalUnit)
    → ((k m : ℕ) → In {A = ℕ × ℕ} (r, k) u.pending → In {A = ℕ × ℕ} (r, m) u.pending → k ≡ m)
    → ((k : ℕ) → In {A = ℕ × ℕ} (r, k) u.pending → u.phase ≡ Wait)
    → source_of (without_waits i u) r ≡ tidy_source (wake i (source_of u r))
unfolding units
woken i r u one early =
    ap (λ (q : Option ℕ). source r q (is_wait u.phase && is_none q)) (owed-left i r u.pending one) ∙ go (owed u.pending r) refl
  where
    none-either : (b : Bool) → source r None b ≡ source r (cond b None None) b
    none-either true = refl
    none-either false = refl

    held : (p : Bool) (k : ℕ) → source r (Some k) (p && false) ≡ source r (cond (p && false) None (Some k)) (p && false)
    held true k = refl
    held false k = refl

    at
        : (k : ℕ) → u.phase ≡ Wait → (b : Bool)
        → source r (cond b None (Some k)) (is_wait u.phase && is_none (cond b None (Some k)))
        ≡ source r (cond (cond b true (is_wait u.phase && false)) None (Some k)) (cond b true (is_wait u.phase && false))
    at k p true = ap (λ (x : Phase). source r None (is_wait x && true)) p
    at k p false = held (is_wait u.phase) k

    go
        : (q : Option ℕ) → owed u.pending r ≡ q
        → source r (cond (owes i (owed u.pending r)) None (owed u.pending r)) (is_wait u.phase && is_none (cond (owes i (owed u.pending r)) None (owed u.pending r)))
        ≡ tidy_source (wake i (source r (owed u.pending r) (is_wait u.phase && is_none (owed u.pending r))))
    go None e =
        ap (λ (x : Option ℕ). source r (cond (owes i x) None x) (is_wait u.phase && is_none (cond (owes i x) None x))) e
        ∙ none-either (is_wait u.phase && true)
        ∙ sym (ap (λ (x : Option ℕ). tidy_source (wake i (source r x (is_wait u.phase && is_none x)))) e)
    go (Some k) e =
        ap (λ (x : Option ℕ). source r (cond (owes i x) None x) (is_wait u.phase && is_none (cond (owes i x) None x))) e
        ∙ at k (early k (owed-in r k u.pending e)) (eqb k i)
        ∙ sym (ap (λ (x : Option ℕ). tidy_source (wake i (source r x (is_wait u.phase && is_none x)))) e)

-- ── The result on offer is written ──────────────────────────────────────────

module _ (s : State) (h : Invariant s) (i : ℕ) (w : s.offer.writing ≡ Some i) where
  there : (u : FunctionalUnit) × Holds s i u
  there =
      let a = (h.offer_unit i w).1 in
      (a.0, record { there = a.1; in_flight = ap (λ (x : Option ℕ). occupied x i a.0) w ∙ offered-self i a.0 })

  here-at : unit_at s.units i ≡ there.0
  unfolding units
  here-at = ap (value_or (idle_unit 0 0)) there.1.there

  row-woken : (j : ℕ) (u : FunctionalUnit) → slice_get s.units j ≡ Some u → row_of (without_waits i u) ≡ tidy_row (wake_row i (row_of u))
  unfolding units
  row-woken j u e = go u.busy refl
    where
      go : (b : Bool) → u.busy ≡ b → row_of (without_waits i u) ≡ tidy_row (wake_row i (row_of u))
      go false b = row-idle (without_waits i u) b ∙ sym (ap (λ (f : Status). tidy_row (wake_row i f)) (row-idle u b))
      go true b =
          let k = busy-holds s j u e b in
          row-full (without_waits i u) b
          ∙ ap (status true u.class u.destinations)
          (map-in (source_of (without_waits i u)) (λ x. tidy_source (wake i (source_of u x))) u.sources
          (λ x n.
          woken i x u
          (λ a c p q. some_inj a c (sym (h.waits j u x a k p).1 ∙ (h.waits j u x c k q).1))
          (λ a p. (h.waits j u x a k p).3))
          ∙ sym (ap (map tidy_source) (map-two (source_of u) (wake i) u.sources) ∙ map-two (λ x. wake i (source_of u x)) tidy_source u.sources))
          ∙ sym (ap (λ (f : Status). tidy_row (wake_row i f)) (row-full u b))

  abbrev rows-after : List Status
  rows-after = map row_of (map (without_waits i) (modify i clear s.units))

  abbrev rows-woken : List Status
  rows-woken = map (wake_row i) (map row_of (modify i (with_busy true) s.units))

  rows_written : rows-after ≡ map tidy_row (modify i free_row rows-woken)
  unfolding units
  rows_written = same_places rows-after (map tidy_row (modify i free_row rows-woken)) (λ j. left j ∙ at j (eqb j i) refl ∙ sym (nth-map tidy_row (modify i free_row rows-woken) j))
    where
      left : (j : ℕ) → slice_get rows-after j ≡ option_map row_of (option_map (without_waits i) (slice_get (modify i clear s.units) j))
      left j =
          nth-map row_of (map (without_waits i) (modify i clear s.units)) j
          ∙ ap (option_map row_of) (nth-map (without_waits i) (modify i clear s.units) j)

      woken-at : (j : ℕ) → slice_get rows-woken j ≡ option_map (wake_row i) (option_map row_of (slice_get (modify i (with_busy true) s.units) j))
      woken-at j =
          nth-map (wake_row i) (map row_of (modify i (with_busy true) s.units)) j
          ∙ ap (option_map (wake_row i)) (nth-map row_of (modify i (with_busy true) s.units) j)

      freed
          : (o : Option FunctionalUnit)
          → option_map row_of (option_map (without_waits i) (option_map clear o))
          ≡ option_map tidy_row (option_map free_row (option_map (wake_row i) (option_map row_of (option_map (with_busy true) o))))
      freed None = refl
      freed (Some u) = refl

      other
          : (j : ℕ) (o : Option FunctionalUnit) → slice_get s.units j ≡ o
          → option_map row_of (option_map (without_waits i) o) ≡ option_map tidy_row (option_map (wake_row i) (option_map row_of o))
      other j None e = refl
      other j (Some u) e = ap (λ (x : Status). Some x) (row-woken j u e)

      at
          : (j : ℕ) (b : Bool) → eqb j i ≡ b
          → option_map row_of (option_map (without_waits i) (slice_get (modify i clear s.units) j)) ≡ option_map tidy_row (slice_get (modify i free_row rows-woken) j)
      at j true z =
          subst
          (λ (k : ℕ). option_map row_of (option_map (without_waits i) (slice_get (modify i clear s.units) k)) ≡ option_map tidy_row (slice_get (modify i free_row rows-woken) k))
          (sym (eqb-true j i z))
          (ap (λ (o : Option FunctionalUnit). option_map row_of (option_map (without_waits i) o)) (nth-same clear s.units i)
          ∙ freed (slice_get s.units i)
          ∙ sym
          (ap (option_map tidy_row)
          (nth-same free_row rows-woken i
          ∙ ap (option_map free_row)
          (woken-at i
          ∙ ap (λ (o : Option FunctionalUnit). option_map (wake_row i) (option_map row_of o)) (nth-same (with_busy true) s.units i)))))
      at j false z =
          let n = eqb-false j i z in
          ap (λ (o : Option FunctionalUnit). option_map row_of (option_map (without_waits i) o)) (nth-other clear s.units i j n)
          ∙ other j (slice_get s.units j) refl
          ∙ sym
          (ap (option_map tidy_row)
          (nth-other free_row rows-woken i j n ∙ woken-at j
          ∙ ap (λ (o : Option FunctionalUnit). option_map (wake_row i) (option_map row_of o)) (nth-other (with_busy true) s.units i j n)))

  abbrev ds : List ℕ
  ds = (unit_at s.units i).destinations

  fi-is : fi_at (book_of s) i ≡ ds
  fi-is = fi-holds s i there.0 there.1 ∙ ap (λ (u : FunctionalUnit). u.destinations) (sym here-at)

  result-released : (x : ℕ) → producer_of (release_all i s.producer ds) x ≡ released (fi_at (book_of s) i) (producer_of s.producer) x
  result-released x =
      go (in-dec x ds) (producer_of (release_all i s.producer ds) x) refl
      ∙ sym (ap (λ (l : List ℕ). released l (producer_of s.producer) x) fi-is)
    where
      owner : (k : ℕ) → In x ds → producer_of s.producer x ≡ Some k → k ≡ i
      owner k n e =
          some_inj k i (sym e ∙ h.claimed i there.0 x there.1 (subst (λ (u : FunctionalUnit). In x u.destinations) here-at n))

      held_in : (k : ℕ) → producer_of s.producer x ≡ Some k → k ≡ i → In x ds
      held_in k e z = subst (In x) fi-is ((result-same s h x i).0 (e ∙ ap (λ (m : ℕ). Some m) z))

      same_after
          : (o : Option ℕ) → producer_of s.producer x ≡ o → (In x ds → ⊥) → (q : Option ℕ) → producer_of (release_all i s.producer ds) x ≡ q
          → producer_of (release_all i s.producer ds) x ≡ producer_of s.producer x
      same_after None e n None f = f ∙ sym e
      same_after None e n (Some k) f = f ∙ sym (releases-owes i ds s.producer x k f)
      same_after (Some k) e n q f = releases-owed i ds s.producer x k e (λ z. n (held_in k e z)) ∙ sym e

      go
          : In x ds ⊎ (In x ds → ⊥) → (q : Option ℕ) → producer_of (release_all i s.producer ds) x ≡ q
          → producer_of (release_all i s.producer ds) x ≡ released ds (producer_of s.producer) x
      go (inl n) None f = f ∙ sym (ap (λ (b : Bool). cond b None (producer_of s.producer x)) (in-elem x ds n))
      go (inl n) (Some k) f = absurd (releases-gone i ds s.producer x k n f (owner k n (releases-owes i ds s.producer x k f)))
      go (inr n) q f =
          same_after (producer_of s.producer x) refl n q f
          ∙ sym (ap (λ (b : Bool). cond b None (producer_of s.producer x)) (out-elem x ds n))

  shown-back : shown_units s ≡ modify i (with_busy true) s.units
  unfolding writing
  shown-back = ap (λ (x : Option ℕ). put_back x s.units) w

  pub written-tables : book_of (closed s) ≡ tidy (do_write i (book_of s))
  unfolding scoreboard issuing writing
  written-tables =
      ap (λ (x : Option ℕ). book_of (close_cycle (complete_offer x s))) w
      ∙ ap₂ book
      (rows_written ∙ ap (λ (l : List FunctionalUnit). map tidy_row (modify i free_row (map (wake_row i) (map row_of l)))) (sym shown-back))
      (fun_ext result-released)

-- Nothing is on offer, nothing is written.
pub unwritten_tables : (s : State) → s.offer.writing ≡ None → book_of (closed s) ≡ book_of s
unfolding scoreboard issuing writing
unwritten_tables s n = ap (λ (x : Option ℕ). book_of (close_cycle (complete_offer x s))) n

-- ── A start ─────────────────────────────────────────────────────────────────

-- It marks hazards, which no table shows, and the unit of the offer is shown as if it were put back.
module _ (s : State) (n : s.offer.writing ≡ None) where
  abbrev cleared : List FunctionalUnit
  cleared = map clear_hazard s.units

  taken_out
      : (f : Option ℕ) (us : List FunctionalUnit) → ((i : ℕ) → f ≡ Some i → Finished us i)
      → map row_of (put_back f (take_out f us)) ≡ map row_of us
  unfolding writing
  taken_out None us r = refl
  taken_out (Some i) us r =
      same_places (map row_of (modify i (with_busy true) (modify i (with_busy false) us))) (map row_of us)
      (λ j.
      nth-map row_of (modify i (with_busy true) (modify i (with_busy false) us)) j ∙ at j (eqb j i) refl ∙ sym (nth-map row_of us j))
    where
      u : Finished us i
      u = r i refl

      at : (j : ℕ) (b : Bool) → eqb j i ≡ b → option_map row_of (slice_get (modify i (with_busy true) (modify i (with_busy false) us)) j) ≡ option_map row_of (slice_get us j)
      at j true z =
          subst (λ (k : ℕ). option_map row_of (slice_get (modify i (with_busy true) (modify i (with_busy false) us)) k) ≡ option_map row_of (slice_get us k))
          (sym (eqb-true j i z))
          (ap (option_map row_of) (nth-same (with_busy true) (modify i (with_busy false) us) i ∙ ap (option_map (with_busy true)) (nth-same (with_busy false) us i ∙ ap (option_map (with_busy false)) u.1))
          ∙ sym (ap (option_map row_of) u.1 ∙ ap (λ (f : Status). Some f) (row-full u.0 u.2)))
      at j false z =
          let m = eqb-false j i z in
          ap (option_map row_of)
          (nth-other (with_busy true) (modify i (with_busy false) us) i j m ∙ nth-other (with_busy false) us i j m)

  pub start-same : book_of (start_cycle s) ≡ book_of s
  unfolding writing units
  start-same =
      let t = writable_unit cleared in
      ap (λ (l : List Status). book l (producer_of s.producer))
      (taken_out t.found (mark_blocked t.turned_away cleared) finished
      ∙ marked-same row_of (λ x u. refl) t.turned_away cleared
      ∙ map-two clear_hazard row_of s.units ∙ sym (rows_all s n))
    where
      part : FunctionalUnit → (Bool × Phase)
      part u = (u.busy, u.phase)

      finished : (i : ℕ) → (writable_unit cleared).found ≡ Some i → Finished (mark_blocked (writable_unit cleared).turned_away cleared) i
      finished i e =
          let f = (found-ready cleared i e).0 in
          let v = nth-image part (mark_blocked (writable_unit cleared).turned_away cleared) cleared i f.0
          (marked-same part (λ x u. refl) (writable_unit cleared).turned_away cleared) f.1 in
          (v.0, v.1, ap (λ (z : Bool × Phase). z.0) v.2 ∙ f.2, ap (λ (z : Bool × Phase). z.1) v.2 ∙ f.3)
