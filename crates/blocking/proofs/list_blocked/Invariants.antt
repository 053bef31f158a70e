use Rattle.telling.proofs.Tell.{Telling}
use Rattle.blocking.proofs.Turned.{blocked-from}
use Rattle.blocking.proofs.list_blocked.Given as goal

abbrev pub invariant-loop-turned : goal.invariant-loop-turned
invariant-loop-turned l = Telling l.units l.initial.log l.log (blocked-from l.units l.tried 0) (blocked-from l.units l.tried l.turned-index) l.turned-index
