use Rattle.telling.proofs.Tell.{Telling, waits-from}
use Rattle.telling.proofs.list_waits.Given as goal

abbrev pub invariant-loop-u : goal.invariant-loop-u
invariant-loop-u l = Telling l.units l.initial.log l.log (waits-from l.units 0) (waits-from l.units l.u-index) l.u-index
