-- Write result: a start offers the oldest of the writable units.
use Prim.Native.Nat.{ℕ, suc, ◌+◌, ◌≤◌}
use native.Mathlib.Omega.{arith}
use mathlib.Core.Path.{◌≡◌, refl, sym, ◌∙◌, ap, ap₂, subst}
use mathlib.Core.Bool.{Bool, true, false, cond, ◌&&◌}
use Rattle.std.specs.Prelude.{Option, None, Some, slice_get, option_map}
use mathlib.Core.List.{List, [], ◌∷◌, map}
use mathlib.Core.Logic.{◌⊎◌, inl, inr, ◌↔◌}
use lib.Dec.{eqb, ltb}
use borrow.Author.Tests.{ltb-true, ltb-false}
use Rattle.laws.specs.Lists.{find_at, lists}
use Rattle.laws.specs.Numbers.{max64}
use Rattle.laws.specs.Optional.{value_or}
use Rattle.std.specs.Option.{option_or}
use Rattle.laws.proofs.Choices.{none-some, some_inj}
use Rattle.laws.proofs.Maps.{any-at-map, find-map, nth-map}
use Rattle.capability.specs.Numbers.{numbers, phase_number}
use Rattle.capability.specs.declared.Phase.TheVariants.{Write}
use Rattle.model.specs.Config.{is_memory, is_system}
use Rattle.model.specs.State.{State}
use Rattle.model.specs.Units.{FunctionalUnit, clear_hazard, idle_unit, in_phase, seq_of, unit_at, units}
use Rattle.model.specs.Write.{Blocked, Tried, drain, drain_blocked, insert, memory, memory_blocked, older_memory, other_busy, reads, ready_at, start_cycle, try_one, try_writes, war, war_reader, writable_unit, write_blocked, writing}
use Rattle.invariant.specs.Invariant.{In, Invariant}
use Rattle.invariant.proofs.Start.{found-ready}
use Rattle.invariant.proofs.Ready.{in-ready, try-some}
use Rattle.book.specs.Conditions.{Writable}
use Rattle.book.proofs.Blocking.{busy-holds, holds-busy, unblocked-writable, writable-unblocked}

-- ── A hazard decides nothing ────────────────────────────────────────────────

abbrev part : FunctionalUnit → (Bool × Bool × ℕ × List ℕ)
part u = (is_memory u.class, is_system u.class, seq_of u, u.destinations)

module _ (us : List FunctionalUnit) where
  unit-part : (i : ℕ) → part (unit_at (map clear_hazard us) i) ≡ part (unit_at us i)
  unfolding units
  unit-part i = ap (λ (o : Option FunctionalUnit). part (value_or (idle_unit 0 0) o)) (nth-map clear_hazard us i) ∙ go (slice_get us i)
    where
      go : (o : Option FunctionalUnit) → part (value_or (idle_unit 0 0) (option_map clear_hazard o)) ≡ part (value_or (idle_unit 0 0) o)
      go None = refl
      go (Some u) = refl

  war-cleared : (i : ℕ) (rs : List ℕ) → war_reader (map clear_hazard us) i rs ≡ war_reader us i rs
  unfolding writing units
  war-cleared i [] = refl
  war-cleared i (r ∷ rs) =
      ap₂ option_or (ap (option_map (war r)) (find-map clear_hazard (reads i r) (reads i r) (λ j u. refl) 0 us)) (war-cleared i rs)

  memory-cleared : (i : ℕ) → memory_blocked (map clear_hazard us) i ≡ memory_blocked us i
  unfolding writing units
  memory-cleared i =
      ap (λ (p : Bool × Bool × ℕ × List ℕ). cond p.0 (option_map memory (find_at (older_memory i p.2) 0 (map clear_hazard us))) None) (unit-part i)
      ∙ ap (λ (o : Option ℕ). cond (is_memory (unit_at us i).class) (option_map memory o) None)
      (find-map clear_hazard (older_memory i (seq_of (unit_at us i))) (older_memory i (seq_of (unit_at us i))) (λ j u. refl) 0 us)

  drain-cleared : (i : ℕ) → drain_blocked (map clear_hazard us) i ≡ drain_blocked us i
  unfolding writing units
  drain-cleared i =
      ap₂ (λ (a b : Bool). cond (a && b) (Some drain) None) (ap (λ (p : Bool × Bool × ℕ × List ℕ). p.1) (unit-part i))
      (any-at-map clear_hazard (other_busy i) (other_busy i) (λ j u. refl) 0 us)

  blocked-cleared : (i : ℕ) → write_blocked (map clear_hazard us) i ≡ write_blocked us i
  unfolding writing
  blocked-cleared i =
      ap₂ option_or
      (ap (λ (p : Bool × Bool × ℕ × List ℕ). war_reader (map clear_hazard us) i p.3) (unit-part i) ∙ war-cleared i (unit_at us i).destinations)
      (ap₂ option_or (memory-cleared i) (drain-cleared i))

  tries-cleared : (qs : List (ℕ × ℕ)) → try_writes (map clear_hazard us) qs ≡ try_writes us qs
  unfolding writing
  tries-cleared [] = refl
  tries-cleared (q ∷ qs) = ap₂ (try_one q.1) (blocked-cleared q.1) (tries-cleared qs)

ready-cleared : (i : ℕ) (us : List FunctionalUnit) → ready_at i (map clear_hazard us) ≡ ready_at i us
unfolding writing units
ready-cleared i [] = refl
ready-cleared i (u ∷ us) =
    ap (λ (l : List (ℕ × ℕ)). cond (in_phase Write u) (insert (seq_of u, i)) (λ (qs : List (ℕ × ℕ)). qs) l) (ready-cleared (suc i) us)

pub tried-cleared : (us : List FunctionalUnit) → writable_unit (map clear_hazard us) ≡ writable_unit us
unfolding writing
tried-cleared us = ap (try_writes (map clear_hazard us)) (ready-cleared 0 us) ∙ tries-cleared us (ready_at 0 us)

pub start-found : (s : State) → (start_cycle s).offer.writing ≡ (writable_unit s.units).found
unfolding writing
start-found s = ap (λ (t : Tried). t.found) (tried-cleared s.units)

-- ── Finished units, oldest first ────────────────────────────────────────────

Sorted : List (ℕ × ℕ) → Type 0
Sorted [] = Unit {0}
Sorted (q ∷ qs) = ((p : ℕ × ℕ) → In p qs → q.0 ≤ p.0) × Sorted qs

in_insert : (p q : ℕ × ℕ) (qs : List (ℕ × ℕ)) → In p (insert q qs) → (p ≡ q) ⊎ In p qs
unfolding writing
in_insert p q [] h = h
in_insert p q (x ∷ qs) h = go (in_insert p q qs) (ltb x.0 q.0) h
  where
    up : (p ≡ q) ⊎ In p qs → (p ≡ q) ⊎ In p (x ∷ qs)
    up (inl e) = inl e
    up (inr m) = inr (inr m)

    go : (In p (insert q qs) → (p ≡ q) ⊎ In p qs) → (b : Bool) → In p (cond b (x ∷ insert q qs) (q ∷ x ∷ qs)) → (p ≡ q) ⊎ In p (x ∷ qs)
    go ih true (inl e) = inr (inl e)
    go ih true (inr k) = up (ih k)
    go ih false k = k

insert-sorted : (q : ℕ × ℕ) (qs : List (ℕ × ℕ)) → Sorted qs → Sorted (insert q qs)
unfolding writing Sorted
insert-sorted q [] h = ((λ p n. absurd n), tt)
insert-sorted q (x ∷ qs) h = go (insert-sorted q qs h.1) (ltb x.0 q.0) refl
  where
    go : Sorted (insert q qs) → (b : Bool) → ltb x.0 q.0 ≡ b → Sorted (cond b (x ∷ insert q qs) (q ∷ x ∷ qs))
    go ih true e = ((λ p n. at p (in_insert p q qs n)), ih)
      where
        at : (p : ℕ × ℕ) → (p ≡ q) ⊎ In p qs → x.0 ≤ p.0
        at p (inl z) =
            let a = ltb-true x.0 q.0 e in
            let b : p.0 ≡ q.0 = ap (λ (y : ℕ × ℕ). y.0) z in
            omega arith
        at p (inr n) = h.0 p n
    go ih false e = ((λ p n. at p n), h)
      where
        low : q.0 ≤ x.0
        low = ltb-false x.0 q.0 e

        at : (p : ℕ × ℕ) → In p (x ∷ qs) → q.0 ≤ p.0
        at p (inl z) =
            let a = low in
            let b : p.0 ≡ x.0 = ap (λ (y : ℕ × ℕ). y.0) z in
            omega arith
        at p (inr n) =
            let a = low in
            let b = h.0 p n in
            omega arith

ready-sorted : (i : ℕ) (us : List FunctionalUnit) → Sorted (ready_at i us)
unfolding writing Sorted
ready-sorted i [] = tt
ready-sorted i (u ∷ us) = go (in_phase Write u) (ready-sorted (suc i) us)
  where
    go : (b : Bool) → Sorted (ready_at (suc i) us) → Sorted (cond b (insert (seq_of u, i)) (λ (qs : List (ℕ × ℕ)). qs) (ready_at (suc i) us))
    go true h = insert-sorted (seq_of u, i) (ready_at (suc i) us) h
    go false h = h

-- The number of a finished unit is its operation's.
abbrev Numbered : ℕ → List FunctionalUnit → ℕ → ℕ → Type 0
Numbered i us n k = (m : ℕ) × (k ≡ i + m) × ((u : FunctionalUnit) × (slice_get us m ≡ Some u) × (n ≡ seq_of u))

ready-numbered : (i : ℕ) (us : List FunctionalUnit) (n k : ℕ) → In {A = ℕ × ℕ} (n, k) (ready_at i us) → Numbered i us n k
unfolding writing lists
ready-numbered i [] n k h = absurd h
ready-numbered i (u ∷ us) n k h = go (ready-numbered (suc i) us n k) (in_phase Write u) h
  where
    further : Numbered (suc i) us n k → Numbered i (u ∷ us) n k
    further (m, e, x) = (suc m, omega arith, x)

    pick
        : (In {A = ℕ × ℕ} (n, k) (ready_at (suc i) us) → Numbered (suc i) us n k)
        → (◌≡◌ {A = ℕ × ℕ} (n, k) (seq_of u, i)) ⊎ In {A = ℕ × ℕ} (n, k) (ready_at (suc i) us) → Numbered i (u ∷ us) n k
    pick ih (inl q) =
        let ki : k ≡ i = ap (λ (z : ℕ × ℕ). z.1) q in
        (0, omega arith, (u, refl, ap (λ (z : ℕ × ℕ). z.0) q))
    pick ih (inr y) = further (ih y)

    go
        : (In {A = ℕ × ℕ} (n, k) (ready_at (suc i) us) → Numbered (suc i) us n k) → (b : Bool)
        → In {A = ℕ × ℕ} (n, k) (cond b (insert (seq_of u, i)) (λ (qs : List (ℕ × ℕ)). qs) (ready_at (suc i) us)) → Numbered i (u ∷ us) n k
    go ih true x = pick ih (in_insert (n, k) (seq_of u, i) (ready_at (suc i) us) x)
    go ih false x = further (ih x)

-- The unit found is the first that is not blocked, so the oldest.
pub record First (us : List FunctionalUnit) (qs : List (ℕ × ℕ)) (i : ℕ) : Type 0 where
  pub number : ℕ
  pub tried : In {A = ℕ × ℕ} (number, i) qs
  pub oldest : (m j : ℕ) → In {A = ℕ × ℕ} (m, j) qs → write_blocked us j ≡ None → number ≤ m

try-first : (us : List FunctionalUnit) (qs : List (ℕ × ℕ)) (i : ℕ) → Sorted qs → (try_writes us qs).found ≡ Some i → First us qs i
unfolding writing Sorted
try-first us [] i h e = none-some i e
try-first us (q ∷ qs) i h e = go (try-first us qs i h.1) (write_blocked us q.1) refl e
  where
    go
        : ((try_writes us qs).found ≡ Some i → First us qs i) → (o : Option Blocked) → write_blocked us q.1 ≡ o
        → (try_one q.1 o (try_writes us qs)).found ≡ Some i → First us (q ∷ qs) i
    go ih None f r =
        record {
          number = q.0;
          tried = inl (ap (λ (m : ℕ). (q.0, m)) (sym (some_inj q.1 i r)));
          oldest = λ m j n b. at m j n;
        }
      where
        at : (m j : ℕ) → In {A = ℕ × ℕ} (m, j) (q ∷ qs) → q.0 ≤ m
        at m j (inl z) = let a : m ≡ q.0 = ap (λ (y : ℕ × ℕ). y.0) z in omega arith
        at m j (inr n) = h.0 (m, j) n
    go ih (Some b) f r =
        let w = ih r in
        record { number = w.number; tried = inr w.tried; oldest = λ m j n c. at w m j n c }
      where
        at : (w : First us qs i) (m j : ℕ) → In {A = ℕ × ℕ} (m, j) (q ∷ qs) → write_blocked us j ≡ None → w.number ≤ m
        at w m j (inl z) c =
            none-some b (sym c ∙ ap (write_blocked us) (ap (λ (y : ℕ × ℕ). y.1) z) ∙ f)
        at w m j (inr n) c = w.oldest m j n c

-- ── A start ─────────────────────────────────────────────────────────────────

module _ (s : State) (h : Invariant s) (n : s.offer.writing ≡ None) where
  finished-in : (j : ℕ) (v : FunctionalUnit) → Writable s j v → In {A = ℕ × ℕ} (v.op.core.seq, j) (ready_at 0 s.units)
  unfolding units numbers
  finished-in j v w =
      let b = holds-busy s n j v w.holds in
      let z : 0 + j ≡ j = omega arith in
      let k : seq_of v ≡ v.op.core.seq = ap (λ (c : Bool). cond c v.op.core.seq max64) b in
      let p : in_phase Write v ≡ true = ap₂ ◌&&◌ b (ap (λ q. eqb (phase_number q) 3) w.finished) in
      subst (λ (x : ℕ × ℕ). In x (ready_at 0 s.units)) (ap₂ (λ (a c : ℕ). (a, c)) k z) (in-ready 0 s.units j v w.holds.there p)

  found-writable
      : (i : ℕ) → (writable_unit s.units).found ≡ Some i
      → (u : FunctionalUnit) × Writable s i u × ((j : ℕ) (v : FunctionalUnit) → Writable s j v → u.op.core.seq ≤ v.op.core.seq)
  unfolding writing units
  found-writable i e =
      let f = found-ready s.units i e in
      let u = f.0.0 in
      let k = busy-holds s i u f.0.1 f.0.2 in
      let t = try-first s.units (ready_at 0 s.units) i (ready-sorted 0 s.units) e in
      let a = ready-numbered 0 s.units t.number i t.tried in
      let z : a.0 ≡ i = omega (arith, a.1) in
      let same : a.2.0 ≡ u = some_inj a.2.0 u (sym a.2.1 ∙ ap (slice_get s.units) z ∙ f.0.1) in
      let m : t.number ≡ u.op.core.seq
      = a.2.2 ∙ ap seq_of same ∙ ap (λ (c : Bool). cond c u.op.core.seq max64) f.0.2 in (
        u,
        unblocked-writable s n i u k f.0.3 f.1,
        (λ j v w.
            let l = t.oldest v.op.core.seq j (finished-in j v w) (writable-unblocked s n j v w.holds w) in
            omega arith),
      )

  pub offers-same
      : (i : ℕ)
      → ((start_cycle s).offer.writing ≡ Some i)
      ↔ ((u : FunctionalUnit) × Writable s i u × ((j : ℕ) (v : FunctionalUnit) → Writable s j v → u.op.core.seq ≤ v.op.core.seq))
  unfolding writing
  offers-same i = (
    (λ e. found-writable i (sym (start-found s) ∙ e)),
    (λ w.
        let u = w.0 in
        let a = try-some s.units (ready_at 0 s.units) u.op.core.seq i (finished-in i u w.1) (writable-unblocked s n i u w.1.holds w.1) in
        let k = found-writable a.0 a.1 in
        let lo = k.2 i u w.1 in
        let up = w.2 a.0 k.0 k.1 in
        let z : a.0 ≡ i = h.number_distinct a.0 i k.0 u k.1.holds w.1.holds (omega arith) in
        start-found s ∙ a.1 ∙ ap (λ (x : ℕ). Some x) z),
  )
