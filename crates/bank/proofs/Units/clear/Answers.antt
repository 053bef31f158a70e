use Rattle.std.proofs.Common.{refl}
use Rattle.bank.specs.View.{slots}
use Rattle.bank.proofs.Steps.{each_first, each_read, each_next, each_last, units-so, places-none}
use Rattle.bank.proofs.Units.clear.Goals as goal

pub loop-unit-init : goal.loop-unit-init
unfolding slots
loop-unit-init c = each_first c.requires

pub clear-requires : goal.clear-requires
unfolding slots
clear-requires c = each_read c.requires c.loop-unit.invariant _ c.loop-unit-test.true

pub loop-unit-preserved : goal.loop-unit-preserved
unfolding slots
loop-unit-preserved c = each_next c.requires c.loop-unit.invariant _ c.loop-unit-test.true c.clear.ensures

pub returns : goal.returns
unfolding slots
returns c = let ok = c.requires in units-so (each_last ok c.loop-unit.invariant c.loop-unit-test.false) (λ g. refl) (places-none ok)
