use Rattle.registers.proofs.Owing.{Taking}
use Rattle.model.specs.Registers.{claim_all}
use Rattle.registers.proofs.Claims.claim_all.Given as goal

abbrev pub invariant-loop-r : goal.invariant-loop-r
invariant-loop-r l = Taking (claim_all l.unit) l.initial.self l.registers l.self l.r-index
