use Rattle.std.proofs.Common.{refl}
use mathlib.Core.List.{map-id}
use Rattle.bank.specs.View.{slots}
use Rattle.bank.proofs.Steps.{each_first, each_read, each_next, each_last, units-so}
use Rattle.bank.proofs.Units.clear_hazards.Goals as goal

pub loop-unit-init : goal.loop-unit-init
unfolding slots
loop-unit-init c = each_first c.requires

pub clear_hazard-requires : goal.clear_hazard-requires
unfolding slots
clear_hazard-requires c = each_read c.requires c.loop-unit.invariant _ c.loop-unit-test.true

pub loop-unit-preserved : goal.loop-unit-preserved
unfolding slots
loop-unit-preserved c = each_next c.requires c.loop-unit.invariant _ c.loop-unit-test.true c.clear_hazard.ensures

pub returns : goal.returns
unfolding slots
returns c = units-so (each_last c.requires c.loop-unit.invariant c.loop-unit-test.false) (λ g. refl) (map-id _)
