use mathlib.Core.Path.{refl}
use mathlib.Core.List.{[]}
use native.Mathlib.Omega.{arith}
use Rattle.bank.proofs.Steps.{places-length, slots_length, slot-place}
use Rattle.places.proofs.Marks.{marked-none, mark-there, unit_place, marking-next, marking-last}
use Rattle.places.proofs.Places.of_units.Goals as goal

pub bounds-places-unit : goal.bounds-places-unit
bounds-places-unit c = mark-there (unit_place c.requires _ c.as_slice-unit-items.ensures c.loop-unit-test.true)

pub loop-unit-preserved : goal.loop-unit-preserved
loop-unit-preserved c =
    let ok = c.requires in
    let e = c.as_slice-unit-items.ensures in
    marking-next c.loop-unit.invariant (slot-place ok e _ c.loop-unit-test.true) (unit_place ok _ e c.loop-unit-test.true)

pub returns : goal.returns
returns c =
    let ok = c.requires in
    marking-last c.loop-unit.invariant
    (omega (arith, places-length ok, slots_length ok c.as_slice-unit-items.ensures, c.loop-unit-test.false)) [] (marked-none refl)
