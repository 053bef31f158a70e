use Rattle.registers.specs.View.{view_claims}
use Rattle.registers.proofs.Owing.{Waiting}
use Rattle.registers.proofs.Claims.waits_on.Given as goal

abbrev pub invariant-loop-r : goal.invariant-loop-r
invariant-loop-r l = Waiting (view_claims l.self) l.sources l.waits l.r-index
