use Rattle.std.specs.Prelude.{ℕ}
use Rattle.model.specs.Units.{clear_hazard}
use Rattle.bank.proofs.Steps.{Each}
use Rattle.bank.proofs.Units.clear_hazards.Given as goal

abbrev pub invariant-loop-unit : goal.invariant-loop-unit
invariant-loop-unit l = Each clear_hazard (λ (p : ℕ). p) l.initial.unit-items l.unit-items l.unit-index
