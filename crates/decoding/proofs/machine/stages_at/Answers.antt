-- After i turns the first i roles stand.
use Rattle.std.proofs.Common.{refl, arith}
use Rattle.config.specs.View.{view_stage}
use Rattle.decoding.proofs.Places.{filled-first, filled-view, filled-last}
use Rattle.decoding.proofs.machine.stages_at.Goals as goal

pub loop-i-init : goal.loop-i-init
loop-i-init c = filled-first (omega arith)

pub loop-i-preserved : goal.loop-i-preserved
unfolding view_stage
loop-i-preserved c = filled-view c.loop-i.invariant view_stage c.loop-i.stages (record { role = c.role_at.result }) refl
    c.loop-i-test.true (omega arith) c.role_at.ensures

pub returns : goal.returns
returns c = filled-last c.loop-i.invariant refl c.loop-i-test.false
