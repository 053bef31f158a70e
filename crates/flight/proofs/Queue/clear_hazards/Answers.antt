use Rattle.std.proofs.Common.{refl, le_refl}
use Rattle.laws.proofs.Map.{changed-first, changed-next}
use Rattle.flight.specs.View.{entries}
use Rattle.flight.proofs.Entries.{cleared, whole-changed}
use Rattle.flight.proofs.Queue.clear_hazards.Goals as goal

pub loop-op-init : goal.loop-op-init
loop-op-init c = changed-first (le_refl _)

pub loop-op-preserved : goal.loop-op-preserved
loop-op-preserved c = changed-next c.loop-op.invariant _ c.loop-op-test.true refl refl

pub returns : goal.returns
unfolding entries
returns c = cleared c.requires (whole-changed c.loop-op.auto.op-items c.loop-op.invariant c.loop-op-test.false)
