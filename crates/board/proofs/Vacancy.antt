-- A unit that is free has no place of the pool: which steps keep it.
use Prim.Native.Nat.{ℕ, zero, suc, ◌<◌}
use mathlib.Core.Path.{◌≡◌, refl, sym, subst, ap, ◌∙◌}
use mathlib.Core.Bool.{Bool, true, false}
use mathlib.Core.Logic.{◌⊎◌, inl, inr, ⊎_elim}
use Rattle.std.specs.Prelude.{Option, None, Some}
use mathlib.Core.List.{List, [], ◌∷◌, map}
use native.Mathlib.Omega.{arith}
use native.Mathlib.Nat.{not-suc-le-zero, le_of_suc-le-suc}
use lib.Dec.{eqb}
use lib.ListN.{length, get_or, set, replicate}
use lib.Seq.{get_or-set_same, get_or-set_other}
use borrow.Author.Tests.{eqb-true, eqb-false}
use Rattle.laws.specs.Optional.{value_or}
use Rattle.laws.specs.Lists.{modify}
use Rattle.laws.proofs.Choices.{none-some, some_inj}
use Rattle.laws.proofs.Tests.{true-or-false}
use Rattle.laws.proofs.Slices.{nth-modify-other}
use Rattle.model.specs.Units.{FunctionalUnit, with_busy, idle_unit, clear, clear_hazard, mark_hazard, unit_at, without_waits, tick, begin, read_one}
use Rattle.model.specs.Write.{Blocked, blocked_kind, mark_blocked, take_out}
use Rattle.flight.specs.View.{Legend}
use Rattle.bank.specs.declared.Units.{Units}
use Rattle.bank.specs.View.{view_units, places, UnitsOk, UnitsAre}
use Rattle.bank.proofs.Steps.{units-so, units-length, places-length, step, steps}
use Rattle.board.specs.declared.Board.{Board}
use Rattle.board.specs.Promises.{Vacant}

-- The same of units, their places, and the unit of the offer. Vacant b is this of its parts.
abbrev pub Empty : Units → Option ℕ → Type 0
Empty us w = (g : Legend) (i : ℕ) → (unit_at (view_units g us) i).busy ≡ false → (w ≡ Some i) ⊎ (get_or (places us) i 80 ≡ 80)

-- ── No places ───────────────────────────────────────────────────────────────

all-eighty : (n i : ℕ) → ◌≡◌ {A = ℕ} (get_or (replicate n 80) i 80) 80
all-eighty zero i = refl
all-eighty (suc n) zero = refl
all-eighty (suc n) (suc i) = all-eighty n i

pub none-placed : (us : Units) (n : ℕ) → places us ≡ replicate n 80 → (w : Option ℕ) → Empty us w
none-placed us n e w g i t = inr (ap (λ l. get_or l i 80) e ∙ all-eighty n i)

-- Nothing is on offer.
pub no_offer : (us : Units) (w : Option ℕ) → Empty us None → Empty us w
no_offer us w e g i t = ⊎_elim (λ d. none-some i d) inr (e g i t)

-- ── Each unit stays as busy as it was ───────────────────────────────────────

module _ (f : FunctionalUnit → FunctionalUnit) (h : (u : FunctionalUnit) → (f u).busy ≡ u.busy) where
  map-busy : (us : List FunctionalUnit) (i : ℕ) → (unit_at (map f us) i).busy ≡ (unit_at us i).busy
  unfolding unit_at
  map-busy [] i = refl
  map-busy (u ∷ us) zero = h u
  map-busy (u ∷ us) (suc i) = map-busy us i

pub clear_hazard-busy : (u : FunctionalUnit) → (clear_hazard u).busy ≡ u.busy
unfolding clear_hazard
clear_hazard-busy u = refl

pub without_waits-busy : (i : ℕ) (u : FunctionalUnit) → (without_waits i u).busy ≡ u.busy
unfolding without_waits
without_waits-busy i u = refl

pub step-busy : (u : FunctionalUnit) → (read_one (begin (tick u))).busy ≡ u.busy
unfolding read_one begin tick
step-busy u = refl

-- The units by f, in their places.
pub empty-map : (us : Units) {r : Units} (f : FunctionalUnit → FunctionalUnit) → ((u : FunctionalUnit) → (f u).busy ≡ u.busy)
    → UnitsAre r (λ g. map f (view_units g us)) (places us) → (w : Option ℕ) → Empty us w → Empty r w
empty-map us f h e w v g i t =
    subst (λ l. (w ≡ Some i) ⊎ (get_or l i 80 ≡ 80)) (sym e.places)
    (v g i (sym (map-busy f h (view_units g us) i) ∙ ap (λ l. (unit_at l i).busy) (sym (e.is g)) ∙ t))

-- ── One unit changes ────────────────────────────────────────────────────────

other_busy : (f : FunctionalUnit → FunctionalUnit) (us : List FunctionalUnit) {i j : ℕ} → (j ≡ i → ⊥)
    → (unit_at (modify i f us) j).busy ≡ (unit_at us j).busy
unfolding unit_at
other_busy f us n = ap (λ o. (value_or (idle_unit 0 0) o).busy) (nth-modify-other f us n)

own-busy : (f : FunctionalUnit → FunctionalUnit) (us : List FunctionalUnit) {b : Bool} {i : ℕ} → i < length us → ((u : FunctionalUnit) → (f u).busy ≡ b)
    → (unit_at (modify i f us) i).busy ≡ b
unfolding unit_at modify
own-busy f [] h k = absurd (not-suc-le-zero h)
own-busy f (u ∷ us) {i = zero} h k = k u
own-busy f (u ∷ us) {i = suc i} h k = own-busy f us (le_of_suc-le-suc h) k

-- The unit of the offer is busy again.
pub empty_back : {us r : Units} {at : ℕ} → UnitsOk us → at < us.len → UnitsAre r (λ g. modify at (with_busy true) (view_units g us)) (places us)
    → (w : Option ℕ) → Empty us (Some at) → Empty r w
empty_back {us} {r} {at} ok h e w v g i t = ⊎_elim same other (true-or-false (eqb i at))
  where
    back : (unit_at (modify at (with_busy true) (view_units g us)) i).busy ≡ false
    back = ap (λ l. (unit_at l i).busy) (sym (e.is g)) ∙ t

    same : eqb i at ≡ true → (w ≡ Some i) ⊎ (get_or (places r) i 80 ≡ 80)
    same d =
        absurd
        (let y = own-busy (with_busy true) (view_units g us) {i = at} (let z : at < length (view_units g us) = omega (arith, units-length ok g) in z) (λ u. refl) in
        let x = ap (λ k. (unit_at (modify at (with_busy true) (view_units g us)) k).busy) (sym (eqb-true i at d)) ∙ back in
        let z : ◌≡◌ {A = ℕ} 0 1 = cc in omega arith)

    other : eqb i at ≡ false → (w ≡ Some i) ⊎ (get_or (places r) i 80 ≡ 80)
    other d =
        let n = eqb-false i at d in
        ⊎_elim (λ q. absurd (n (sym (some_inj at i q)))) (λ q. inr (ap (λ l. get_or l i 80) e.places ∙ q)) (v g i (sym (other_busy (with_busy true) (view_units g us) n) ∙ back))

-- The unit of the offer goes free, and has no place any more.
pub empty_left : {us r : Units} {at : ℕ} → UnitsOk us → at < us.len
    → UnitsAre r (λ g. map (without_waits at) (modify at clear (view_units g us))) (set (places us) at 80)
    → (w : Option ℕ) → Empty us (Some at) → Empty r w
empty_left {us} {r} {at} ok h e w v g i t = ⊎_elim same other (true-or-false (eqb i at))
  where
    same : eqb i at ≡ true → (w ≡ Some i) ⊎ (get_or (places r) i 80 ≡ 80)
    same d =
        inr
        (ap (λ l. get_or l i 80) e.places ∙ ap (λ k. get_or (set (places us) at 80) k 80) (eqb-true i at d)
        ∙ get_or-set_same (places us) at 80 80 (let z : at < length (places us) = omega (arith, places-length ok) in z))

    other : eqb i at ≡ false → (w ≡ Some i) ⊎ (get_or (places r) i 80 ≡ 80)
    other d =
        let n = eqb-false i at d in
        ⊎_elim (λ q. absurd (n (sym (some_inj at i q)))) (λ q. inr (ap (λ l. get_or l i 80) e.places ∙ get_or-set_other (places us) at i 80 80 n ∙ q))
        (v g i
        (sym (other_busy clear (view_units g us) n) ∙ sym (map-busy (without_waits at) (without_waits-busy at) (modify at clear (view_units g us)) i)
        ∙ ap (λ l. (unit_at l i).busy) (sym (e.is g))
        ∙ t))

modify-busy : (f : FunctionalUnit → FunctionalUnit) → ((u : FunctionalUnit) → (f u).busy ≡ u.busy) → (j : ℕ) (us : List FunctionalUnit) (i : ℕ)
    → (unit_at (modify j f us) i).busy ≡ (unit_at us i).busy
unfolding unit_at modify
modify-busy f h j [] i = refl
modify-busy f h zero (u ∷ us) zero = h u
modify-busy f h zero (u ∷ us) (suc i) = refl
modify-busy f h (suc j) (u ∷ us) zero = refl
modify-busy f h (suc j) (u ∷ us) (suc i) = modify-busy f h j us i

marked-busy : (bs : List (ℕ × Blocked)) (us : List FunctionalUnit) (i : ℕ) → (unit_at (mark_blocked bs us) i).busy ≡ (unit_at us i).busy
unfolding mark_blocked mark_hazard
marked-busy [] us i = refl
marked-busy (b ∷ bs) us i =
    marked-busy bs (modify b.0 (mark_hazard (blocked_kind b.1)) us) i
    ∙ modify-busy (mark_hazard (blocked_kind b.1)) (λ u. refl) b.0 us i

-- Some units are marked, and w is the unit whose result is on offer now: it may keep its place.
pub empty-offered : (us : Units) {r : Units} (bs : List (ℕ × Blocked)) (w : Option ℕ)
    → UnitsAre r (λ g. take_out w (mark_blocked bs (view_units g us))) (places us) → Empty us w → Empty r w
unfolding take_out
empty-offered us bs None e v g i t =
    subst (λ l. (None ≡ Some i) ⊎ (get_or l i 80 ≡ 80)) (sym e.places)
    (v g i (sym (marked-busy bs (view_units g us) i) ∙ ap (λ l. (unit_at l i).busy) (sym (e.is g)) ∙ t))
empty-offered us {r} bs (Some w) e v g i t = ⊎_elim (λ d. inl (ap Some (sym (eqb-true i w d)))) other (true-or-false (eqb i w))
  where
    marked : List FunctionalUnit
    marked = mark_blocked bs (view_units g us)

    other : eqb i w ≡ false → (Some w ≡ Some i) ⊎ (get_or (places r) i 80 ≡ 80)
    other d =
        let n = eqb-false i w d in
        subst (λ l. (Some w ≡ Some i) ⊎ (get_or l i 80 ≡ 80)) (sym e.places)
        (v g i
        (sym (other_busy (with_busy false) marked n ∙ marked-busy bs (view_units g us) i) ∙ ap (λ l. (unit_at l i).busy) (sym (e.is g)) ∙ t))

-- The three steps of a cycle.
pub empty-stepped : (us : Units) {r : Units} → UnitsAre r (λ g. map read_one (map begin (map tick (view_units g us)))) (places us)
    → (w : Option ℕ) → Empty us w → Empty r w
empty-stepped us e = empty-map us step step-busy (units-so e (λ g. steps (view_units g us)) refl)

-- The same units, and the same offer.
pub vacant-same : (b r : Board) → r.units ≡ b.units → r.offer ≡ b.offer → Vacant b → Vacant r
vacant-same b r e f v g i h =
    subst (λ o. (o.writing ≡ Some i) ⊎ (get_or (places r.units) i 80 ≡ 80)) (sym f)
    (subst (λ u. (b.offer.writing ≡ Some i) ⊎ (get_or (places u) i 80 ≡ 80)) (sym e)
    (v g i (subst (λ u. (unit_at (view_units g u) i).busy ≡ false) e h)))
