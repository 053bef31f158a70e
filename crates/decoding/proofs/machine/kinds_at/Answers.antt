-- After i turns the first i kinds stand.
use Rattle.std.proofs.Common.{refl, arith}
use Rattle.config.specs.View.{view_unit_spec}
use Rattle.decoding.proofs.Places.{filled-first, filled-view, filled-last}
use Rattle.decoding.proofs.machine.kinds_at.Goals as goal

pub loop-i-init : goal.loop-i-init
loop-i-init c = filled-first (omega arith)

pub loop-i-preserved : goal.loop-i-preserved
loop-i-preserved c = filled-view c.loop-i.invariant view_unit_spec c.loop-i.kinds c.kind_at.result refl c.loop-i-test.true refl c.kind_at.ensures

pub returns : goal.returns
returns c = filled-last c.loop-i.invariant refl c.loop-i-test.false
