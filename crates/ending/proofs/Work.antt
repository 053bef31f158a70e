-- The cycles that an operation in flight needs if nothing holds it up: no step of its unit adds to them.
use Prim.Native.Nat.{ℕ, zero, suc, ◌+◌, ◌-◌, ◌≤◌, ◌<◌}
use native.Mathlib.Omega.{arith}
use mathlib.Core.Path.{◌≡◌, refl, ap, ap₂}
use mathlib.Core.Bool.{Bool, true, false, cond, ◌&&◌, true≢false}
use mathlib.Core.List.{List, [], ◌∷◌, map}
use lib.Dec.{eqb}
use borrow.Author.Tests.{eqb-true}
use Rattle.laws.specs.Lists.{is_empty}
use Rattle.capability.specs.Numbers.{numbers, phase_number}
use Rattle.capability.specs.declared.Phase.{Phase}
use Rattle.capability.specs.declared.Phase.TheVariants.{Execute, Read, Wait, Write}
use Rattle.model.specs.Op.{Op}
use Rattle.model.specs.Units.{FunctionalUnit, begin, read_one, tick, units}

-- ── One operation ───────────────────────────────────────────────────────────

-- In a phase, with so many cycles left: one to leave each phase, but for Execute one for each cycle left and one more.
unfoldable pub phase-work : Phase → ℕ → ℕ
phase-work Wait c = 4 + (c - 1)
phase-work Read c = 3 + (c - 1)
phase-work Execute c = 2 + c
phase-work Write c = 1

unfoldable pub unit-work : FunctionalUnit → ℕ
unit-work u = cond u.busy (phase-work u.phase u.op.core.cycles_left) 0

-- Queued, it is still to issue.
unfoldable pub op-work : Op → ℕ
op-work o = 5 + (o.core.cycles_left - 1)

-- ── Execute, read and begin, of one unit ────────────────────────────────────

work-tick : (u : FunctionalUnit) → unit-work (tick u) ≤ unit-work u
unfolding units numbers unit-work phase-work
work-tick u = go u.busy u.phase u.op.core.cycles_left
  where
    ended : (c : ℕ) (b : Bool) → eqb c 0 ≡ b → phase-work (cond b Write Execute) (c - 1) ≤ phase-work Execute c
    ended c true e = omega arith
    ended zero false e = absurd (true≢false e)
    ended (suc c) false e = omega arith

    go
        : (b : Bool) (p : Phase) (c : ℕ)
        → cond b (phase-work (cond ((b && eqb (phase_number p) 2) && eqb c 0) Write p) (cond (b && eqb (phase_number p) 2) (c - 1) c)) 0
        ≤ cond b (phase-work p c) 0
    go false p c = omega arith
    go true Wait c = omega arith
    go true Read c = omega arith
    go true Execute c = ended c (eqb c 0) refl
    go true Write c = omega arith

work-begin : (u : FunctionalUnit) → unit-work (begin u) ≤ unit-work u
unfolding units numbers unit-work phase-work
work-begin u = go u.busy u.phase u.op.core.cycles_left
  where
    go
        : (b : Bool) (p : Phase) (c : ℕ)
        → cond b (phase-work (cond (b && eqb (phase_number p) 1) Execute p) (cond (b && eqb (phase_number p) 1) (c - 1) c)) 0
        ≤ cond b (phase-work p c) 0
    go false p c = omega arith
    go true Wait c = omega arith
    go true Read c = omega arith
    go true Execute c = omega arith
    go true Write c = omega arith

work-read : (u : FunctionalUnit) → unit-work (read_one u) ≤ unit-work u
unfolding units numbers unit-work phase-work
work-read u = go u.busy u.phase u.op.core.cycles_left (is_empty u.pending)
  where
    go
        : (b : Bool) (p : Phase) (c : ℕ) (e : Bool)
        → cond b (phase-work (cond ((b && eqb (phase_number p) 0) && e) Read p) c) 0 ≤ cond b (phase-work p c) 0
    go false p c e = omega arith
    go true Wait c false = omega arith
    go true Wait c true = omega arith
    go true Read c e = omega arith
    go true Execute c e = omega arith
    go true Write c e = omega arith

-- The three in a row, by what they read of a unit: busy, phase, cycles left, no waits.
abbrev begun-and-read : Bool → Phase → ℕ → Bool → ℕ
begun-and-read b p c e =
    cond b
    (phase-work (cond ((b && eqb (phase_number (cond (b && eqb (phase_number p) 1) Execute p)) 0) && e) Read (cond (b && eqb (phase_number p) 1) Execute p))
    (cond (b && eqb (phase_number p) 1) (c - 1) c))
    0

abbrev worked : Bool → Phase → ℕ → Bool → ℕ
worked b p c e =
    begun-and-read b (cond ((b && eqb (phase_number p) 2) && eqb c 0) Write p) (cond (b && eqb (phase_number p) 2) (c - 1) c) e

abbrev pub three : FunctionalUnit → FunctionalUnit
three u = read_one (begin (tick u))

pub work-three : (u : FunctionalUnit) → unit-work (three u) ≤ unit-work u
work-three u = omega (arith, work-read (begin (tick u)), work-begin (tick u), work-tick u)

-- A busy unit that is not finished, and waits for nothing, needs one cycle less.
pub work_less
    : (u : FunctionalUnit) → u.busy ≡ true → u.pending ≡ [] → (u.phase ≡ Write → ⊥) → unit-work (three u) < unit-work u
unfolding units numbers unit-work phase-work is_empty
work_less u b w n =
    let c = u.op.core.cycles_left in
    let x : unit-work (three u) ≡ worked true u.phase c true
    = ap₂ (λ (t : Bool) (e : Bool). worked t u.phase c e) b (ap is_empty w) in
    let y : unit-work u ≡ phase-work u.phase c = ap (λ (t : Bool). cond t (phase-work u.phase c) 0) b in
    omega (arith, x, y, go u.phase c n)
  where
    run : (c : ℕ) (d : Bool) → eqb c 0 ≡ d → begun-and-read true (cond d Write Execute) (c - 1) true < phase-work Execute c
    run c true e = omega arith
    run zero false e = absurd (true≢false e)
    run (suc c) false e = omega arith

    go : (p : Phase) (c : ℕ) → (p ≡ Write → ⊥) → worked true p c true < phase-work p c
    go Wait c k = omega arith
    go Read c k = omega arith
    go Execute c k = run c (eqb c 0) refl
    go Write c k = absurd (k refl)

-- No unit needs more than one cycle less.
pub work-slow : (u : FunctionalUnit) → unit-work u ≤ suc (unit-work (three u))
unfolding units numbers unit-work phase-work
work-slow u = go u.busy u.phase u.op.core.cycles_left (is_empty u.pending)
  where
    run : (c : ℕ) (d e : Bool) → eqb c 0 ≡ d → phase-work Execute c ≤ suc (begun-and-read true (cond d Write Execute) (c - 1) e)
    run c true e q = let z : c ≡ 0 = eqb-true c 0 q in omega arith
    run c false e q = omega arith

    go : (b : Bool) (p : Phase) (c : ℕ) (e : Bool) → cond b (phase-work p c) 0 ≤ suc (worked b p c e)
    go false p c e = omega arith
    go true Wait c true = omega arith
    go true Wait c false = omega arith
    go true Read c e = omega arith
    go true Execute c e = run c (eqb c 0) e refl
    go true Write c e = omega arith

pub map-three : (us : List FunctionalUnit) → map read_one (map begin (map tick us)) ≡ map three us
map-three [] = refl
map-three (u ∷ us) = ap (λ (l : List FunctionalUnit). three u ∷ l) (map-three us)
