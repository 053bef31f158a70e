-- After i turns the first i flags stand.
use Rattle.std.proofs.Common.{refl, arith}
use Rattle.decoding.proofs.Places.{filled-first, filled_next, filled-last}
use Rattle.decoding.proofs.machine.ten_flags.Goals as goal

pub loop-i-init : goal.loop-i-init
loop-i-init c = filled-first (omega arith)

pub loop-i-preserved : goal.loop-i-preserved
loop-i-preserved c = filled_next c.loop-i.invariant c.loop-i-test.true (omega arith) c.flag_at.ensures refl

pub returns : goal.returns
returns c = filled-last c.loop-i.invariant refl c.loop-i-test.false
