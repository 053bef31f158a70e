use Rattle.std.proofs.Common.{refl, sym}
use mathlib.Core.List.{map-id}
use Rattle.bank.specs.View.{slots, view_units}
use Rattle.bank.proofs.Steps.{steps, each_first, each_read, each_next, each_last, units-so}
use Rattle.bank.proofs.Units.step.Goals as goal

pub loop-unit-init : goal.loop-unit-init
unfolding slots
loop-unit-init c = each_first c.requires

pub step-requires : goal.step-requires
unfolding slots
step-requires c = each_read c.requires c.loop-unit.invariant _ c.loop-unit-test.true

pub loop-unit-preserved : goal.loop-unit-preserved
unfolding slots
loop-unit-preserved c = each_next c.requires c.loop-unit.invariant _ c.loop-unit-test.true c.step.ensures

pub returns : goal.returns
unfolding slots
returns c = units-so (each_last c.requires c.loop-unit.invariant c.loop-unit-test.false) (λ g. sym (steps (view_units g _))) (map-id _)
