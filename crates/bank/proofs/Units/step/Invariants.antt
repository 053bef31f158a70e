use Rattle.std.specs.Prelude.{ℕ}
use Rattle.bank.proofs.Steps.{Each, step}
use Rattle.bank.proofs.Units.step.Given as goal

abbrev pub invariant-loop-unit : goal.invariant-loop-unit
invariant-loop-unit l = Each step (λ (p : ℕ). p) l.initial.unit-items l.unit-items l.unit-index
