-- After i turns the first i kinds stand.
use Rattle.std.proofs.Common.{map}
use Rattle.config.specs.View.{view_unit_spec}
use Rattle.decoding.specs.Machine.{kind_at}
use Rattle.decoding.proofs.Places.{Filled}
use Rattle.decoding.proofs.machine.kinds_at.Given as goal

abbrev pub invariant-loop-i : goal.invariant-loop-i
invariant-loop-i l = Filled kind_at 28 l.list 107 (map view_unit_spec l.initial.kinds) (map view_unit_spec l.kinds) 16 l.i
