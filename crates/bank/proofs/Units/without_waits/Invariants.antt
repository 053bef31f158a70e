use Rattle.std.specs.Prelude.{ℕ}
use Rattle.model.specs.Units.{without_waits}
use Rattle.bank.proofs.Steps.{Each}
use Rattle.bank.proofs.Units.without_waits.Given as goal

abbrev pub invariant-loop-unit : goal.invariant-loop-unit
invariant-loop-unit l = Each (without_waits l.producer) (λ (p : ℕ). p) l.initial.unit-items l.unit-items l.unit-index
