-- The operations in flight stay consistent when a cycle opens, and when an offer is taken back.
use Prim.Native.Nat.{ℕ, suc, ◌+◌, ◌≤◌}
use native.Mathlib.Omega.{arith}
use mathlib.Core.Path.{◌≡◌, refl, sym, ◌∙◌, ap, subst}
use mathlib.Core.Bool.{Bool, true, false, cond, true≢false, false≢true}
use Rattle.std.specs.Prelude.{Option, None, Some, slice_get, option_map}
use mathlib.Core.List.{List, [], ◌∷◌, map}
use mathlib.Core.Logic.{◌⊎◌, inl, inr}
use lib.Dec.{eqb, ltb}
use lib.ListN.{length}
use Rattle.laws.specs.Lists.{modify}
use Rattle.laws.specs.Texts.{Text}
use Rattle.laws.proofs.Choices.{none-some, some_inj}
use Rattle.capability.specs.Numbers.{numbers, phase_number}
use Rattle.capability.specs.declared.Phase.{Phase}
use Rattle.capability.specs.declared.Phase.TheVariants.{Execute, Read, Wait, Write}
use Rattle.model.specs.Op.{with_hazard}
use Rattle.model.specs.Registers.{producer_of}
use Rattle.model.specs.State.{State}
use Rattle.model.specs.Units.{FunctionalUnit, clear_hazard, in_phase, seq_of, units, with_busy}
use Rattle.model.specs.Write.{Blocked, insert, mark_blocked, put_back, ready_at, retry, start_cycle, take_out, try_one, try_writes, writable_unit, write_blocked, writing}
use Rattle.invariant.specs.Invariant.{In, OnOffer, front_number}
use Rattle.invariant.proofs.Lists.{nth-image, nth-same}
use Rattle.invariant.proofs.Entries.{marked-same, entry_at, in_flight, Flight, consistent-as, front-mapped, rising-mapped, entry-map, entry-marked, entry-out, entry-back}
use Rattle.invariant.proofs.Bools.{and_both}

-- ── Start ───────────────────────────────────────────────────────────────────

in_insert : (p q : ℕ × ℕ) (qs : List (ℕ × ℕ)) → In p (insert q qs) → (p ≡ q) ⊎ In p qs
unfolding writing
in_insert p q [] h = h
in_insert p q (x ∷ qs) h = go (λ k. in_insert p q qs k) (ltb x.0 q.0) h
  where
    go : (In p (insert q qs) → (p ≡ q) ⊎ In p qs) → (b : Bool) → In p (cond b (x ∷ insert q qs) (q ∷ x ∷ qs)) → (p ≡ q) ⊎ In p (x ∷ qs)
    go ih true (inl e) = inr (inl e)
    go ih true (inr k) = up (ih k)
      where
        up : (p ≡ q) ⊎ In p qs → (p ≡ q) ⊎ In p (x ∷ qs)
        up (inl e) = inl e
        up (inr m) = inr (inr m)
    go ih false k = k

abbrev Ready : ℕ → List FunctionalUnit → ℕ → ℕ → Type 0
Ready i us n k = (m : ℕ) × (k ≡ i + m) × ((u : FunctionalUnit) × (slice_get us m ≡ Some u) × (in_phase Write u ≡ true) × (n ≡ seq_of u))

ready-in : (i : ℕ) (us : List FunctionalUnit) (n k : ℕ) → In {A = ℕ × ℕ} (n, k) (ready_at i us) → Ready i us n k
unfolding writing
ready-in i [] n k h = absurd h
ready-in i (u ∷ us) n k h = go (ready-in (suc i) us n k) (in_phase Write u) refl h
  where
    further : Ready (suc i) us n k → Ready i (u ∷ us) n k
    further (m, e, x) = (suc m, omega arith, x)

    go
        : (In {A = ℕ × ℕ} (n, k) (ready_at (suc i) us) → Ready (suc i) us n k) → (b : Bool) → in_phase Write u ≡ b
        → In {A = ℕ × ℕ} (n, k) (cond b (insert (seq_of u, i)) (λ qs. qs) (ready_at (suc i) us)) → Ready i (u ∷ us) n k
    go ih true e x = pick (in_insert (n, k) (seq_of u, i) (ready_at (suc i) us) x)
      where
        pick : (◌≡◌ {A = ℕ × ℕ} (n, k) (seq_of u, i)) ⊎ In {A = ℕ × ℕ} (n, k) (ready_at (suc i) us) → Ready i (u ∷ us) n k
        pick (inl q) =
            let ki : k ≡ i = ap (λ (z : ℕ × ℕ). z.1) q in
            (0, omega arith, (u, refl, e, ap (λ (z : ℕ × ℕ). z.0) q))
        pick (inr y) = further (ih y)
    go ih false e x = further (ih x)

-- The unit found was tried, and is not blocked.
try-found
    : (us : List FunctionalUnit) (qs : List (ℕ × ℕ)) (i : ℕ) → (try_writes us qs).found ≡ Some i
    → ((n : ℕ) × In {A = ℕ × ℕ} (n, i) qs) × (write_blocked us i ≡ None)
unfolding writing
try-found us [] i h = none-some i h
try-found us (q ∷ qs) i h = go (try-found us qs i) (write_blocked us q.1) refl h
  where
    go
        : ((try_writes us qs).found ≡ Some i → ((n : ℕ) × In {A = ℕ × ℕ} (n, i) qs) × (write_blocked us i ≡ None)) → (o : Option Blocked)
        → write_blocked us q.1 ≡ o → (try_one q.1 o (try_writes us qs)).found ≡ Some i
        → ((n : ℕ) × In {A = ℕ × ℕ} (n, i) (q ∷ qs)) × (write_blocked us i ≡ None)
    go ih None e r =
        let z : q.1 ≡ i = some_inj q.1 i r in
        ((q.0, inl (ap (λ (m : ℕ). (q.0, m)) (sym z))), subst (λ (m : ℕ). write_blocked us m ≡ None) z e)
    go ih (Some b) e r = let w = ih r in ((w.0.0, inr w.0.1), w.1)

phase-write : (p : Phase) → eqb (phase_number p) 3 ≡ true → p ≡ Write
unfolding numbers
phase-write Wait h = absurd (false≢true h)
phase-write Read h = absurd (false≢true h)
phase-write Execute h = absurd (false≢true h)
phase-write Write h = refl

-- Unit i is busy, in phase Write.
abbrev pub Finished : List FunctionalUnit → ℕ → Type 0
Finished us i = (u : FunctionalUnit) × (slice_get us i ≡ Some u) × (u.busy ≡ true) × (u.phase ≡ Write)

-- The unit that is offered was finished, and nothing blocked it.
pub found-ready : (us : List FunctionalUnit) (i : ℕ) → (writable_unit us).found ≡ Some i → Finished us i × (write_blocked us i ≡ None)
unfolding writing units numbers
found-ready us i h =
    let t = try-found us (ready_at 0 us) i h in
    let r = ready-in 0 us t.0.0 i t.0.1 in
    let u = r.2.0 in
    let m : r.0 ≡ i = omega (arith, r.1) in
    let a = and_both u.busy (eqb (phase_number u.phase) 3) r.2.2 in
    ((u, subst (λ (z : ℕ). slice_get us z ≡ Some u) m r.2.1, a.0, phase-write u.phase a.1), t.1)

-- What the marks of a start leave of a unit.
abbrev Part : Type 0
Part = Bool × Phase

abbrev part : FunctionalUnit → Part
part u = (u.busy, u.phase)

pub no-cycle : (s : State) → Flight s → s.front.in_cycle ≡ false → s.offer.writing ≡ None
no-cycle s h c = go s.offer.writing refl
  where
    go : (w : Option ℕ) → s.offer.writing ≡ w → s.offer.writing ≡ None
    go None e = e
    go (Some i) e = absurd (true≢false (sym (h.offers i e).0 ∙ c))

-- The marks of a start leave a finished unit finished.
finished-marked : (bs : List (ℕ × Blocked)) (us : List FunctionalUnit) (i : ℕ) → Finished us i → Finished (mark_blocked bs us) i
unfolding units
finished-marked bs us i (u, e, b, p) =
    let w = nth-image part (mark_blocked bs us) us i u (marked-same part (λ x v. refl) bs us) e in
    (w.0, w.1, ap (λ (z : Part). z.0) w.2 ∙ b, ap (λ (z : Part). z.1) w.2 ∙ p)

start-entry-at
    : (f : Option ℕ) (us : List FunctionalUnit) → ((i : ℕ) → f ≡ Some i → Finished us i) → (j : ℕ)
    → entry_at f j (slice_get (take_out f us) j) ≡ entry_at None j (slice_get us j)
unfolding writing
start-entry-at None us r j = refl
start-entry-at (Some i) us r j = let w = r i refl in entry-out us i w.0 w.1 w.2 j

start-offer
    : (f : Option ℕ) (us : List FunctionalUnit) → ((i : ℕ) → f ≡ Some i → Finished us i) → (i : ℕ) → f ≡ Some i
    → OnOffer (take_out f us) i
unfolding writing
start-offer None us r i e = none-some i e
start-offer (Some k) us r i e =
    let w = r i e in
    let q : slice_get (modify k (with_busy false) us) i ≡ Some (with_busy false w.0)
    = subst (λ (z : ℕ). slice_get (modify z (with_busy false) us) i ≡ Some (with_busy false w.0)) (sym (some_inj k i e))
    (nth-same (with_busy false) us i ∙ ap (option_map (with_busy false)) w.1) in
    (with_busy false w.0, q, refl, w.3)

-- What the units hold stays.
module _ (s : State) (c : s.front.in_cycle ≡ false) (h : Flight s) where
  abbrev cleared : List FunctionalUnit
  cleared = map clear_hazard s.units

  start-finished
      : (i : ℕ) → (writable_unit cleared).found ≡ Some i → Finished (mark_blocked (writable_unit cleared).turned_away cleared) i
  start-finished i e = finished-marked (writable_unit cleared).turned_away cleared i (found-ready cleared i e).0

  pub start-in_flight : (j : ℕ) → in_flight (start_cycle s) j ≡ in_flight s j
  unfolding units writing
  start-in_flight j =
      let t = writable_unit cleared in
      start-entry-at t.found (mark_blocked t.turned_away cleared) start-finished j ∙ entry-marked None t.turned_away cleared j
      ∙ entry-map clear_hazard (λ u. refl) (λ u. refl) None j s.units
      ∙ sym (ap (λ (w : Option ℕ). entry_at w j (slice_get s.units j)) (no-cycle s h c))

  pub flight-start : Flight (start_cycle s)
  unfolding units writing
  flight-start =
      let t = writable_unit cleared in
      let n = s.front.next_seq in
      record {
        core =
            consistent-as (in_flight s) (in_flight (start_cycle s)) (producer_of s.producer) (producer_of s.producer)
            s.marks.branch s.marks.system (front_number s.queue n) (front_number (map (with_hazard None) s.queue) n)
            start-in_flight (λ r. refl) (front-mapped None s.queue n) h.core;
        rising = rising-mapped None s.queue n h.rising;
        offers = λ i e. (refl, start-offer t.found (mark_blocked t.turned_away cleared) start-finished i e);
      }

-- At most as many units are turned away as there are.
insert-length : (p : ℕ × ℕ) (qs : List (ℕ × ℕ)) → length (insert p qs) ≡ suc (length qs)
unfolding writing
insert-length p [] = refl
insert-length p (q ∷ qs) = go (ltb q.0 p.0) (insert-length p qs)
  where
    go
        : (b : Bool) → length (insert p qs) ≡ suc (length qs)
        → length (cond b (q ∷ insert p qs) (p ∷ q ∷ qs)) ≡ suc (suc (length qs))
    go true e = ap suc e
    go false e = refl

ready-length : (i : ℕ) (us : List FunctionalUnit) → length (ready_at i us) ≤ length us
unfolding writing
ready-length i [] = omega arith
ready-length i (u ∷ us) = go (in_phase Write u) (ready-length (suc i) us)
  where
    go
        : (b : Bool) → length (ready_at (suc i) us) ≤ length us
        → length (cond b (insert (seq_of u, i)) (λ qs. qs) (ready_at (suc i) us)) ≤ suc (length us)
    go true h = omega (arith, h, insert-length (seq_of u, i) (ready_at (suc i) us))
    go false h = omega arith

tried-length : (us : List FunctionalUnit) (qs : List (ℕ × ℕ)) → length (try_writes us qs).turned_away ≤ length qs
unfolding writing
tried-length us [] = omega arith
tried-length us (q ∷ qs) = go (write_blocked us q.1) (tried-length us qs)
  where
    go
        : (o : Option Blocked) → length (try_writes us qs).turned_away ≤ length qs
        → length (try_one q.1 o (try_writes us qs)).turned_away ≤ suc (length qs)
    go None h = omega arith
    go (Some b) h = omega arith

pub turned_away-few : (us : List FunctionalUnit) → length (writable_unit us).turned_away ≤ length us
unfolding writing
turned_away-few us = omega (arith, tried-length us (ready_at 0 us), ready-length 0 us)

-- ── Retry ───────────────────────────────────────────────────────────────────

pub retry-entry-at : (w : Option ℕ) (us : List FunctionalUnit) (j : ℕ) → entry_at None j (slice_get (put_back w us) j) ≡ entry_at w j (slice_get us j)
unfolding writing
retry-entry-at None us j = refl
retry-entry-at (Some i) us j = entry-back us i j

pub flight-retry : (x : Text) (s : State) → Flight s → Flight (retry x s)
unfolding writing
flight-retry x s h =
    let n = front_number s.queue s.front.next_seq in
    record {
      core =
          consistent-as (in_flight s) (in_flight (retry x s)) (producer_of s.producer) (producer_of s.producer) s.marks.branch
          s.marks.system n n (retry-entry-at s.offer.writing s.units) (λ r. refl) refl h.core;
      rising = h.rising;
      offers = λ i e. none-some i e;
    }
