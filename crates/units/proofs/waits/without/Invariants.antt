use Rattle.units.proofs.Pending.{Without}
use Rattle.units.proofs.waits.without.Given as goal

abbrev pub invariant-loop-owed : goal.invariant-loop-owed
invariant-loop-owed l = Without l.producer l.owed-items l.kept l.owed-index
