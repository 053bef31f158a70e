use Rattle.std.proofs.Common.{ℕ}
use Rattle.model.specs.Units.{clear}
use Rattle.bank.proofs.Steps.{Each}
use Rattle.bank.proofs.Units.clear.Given as goal

abbrev pub invariant-loop-unit : goal.invariant-loop-unit
invariant-loop-unit l = Each clear (λ (p : ℕ). 80) l.initial.unit-items l.unit-items l.unit-index
