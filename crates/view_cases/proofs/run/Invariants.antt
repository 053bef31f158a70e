-- The engine is valid.
use Rattle.scoreboard.specs.Valid.{Valid}
use Rattle.view_cases.proofs.run.Given as goal

abbrev pub invariant-loop : goal.invariant-loop
invariant-loop l = Valid l.engine
