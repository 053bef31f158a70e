use Rattle.bank.specs.View.{places}
use Rattle.places.proofs.Marks.{Marking}
use Rattle.places.proofs.Places.of_units.Given as goal

abbrev pub invariant-loop-unit : goal.invariant-loop-unit
invariant-loop-unit l = Marking (places l.units) l.units.len l.initial.places l.places l.unit-index
