use mathlib.Core.Path.{refl}
use native.Mathlib.Omega.{arith}
use Rattle.std.specs.Prelude.{ℕ, Option, Some}
use Rattle.model.specs.Registers.{claim}
use Rattle.registers.proofs.Owing.{claims-set, claims-keep}
use Rattle.registers.proofs.Claims.claim.Goals as goal

pub returns-then-register-self-clause-after : goal.returns-then-register-self-clause-after
unfolding claim
returns-then-register-self-clause-after c = claims-set c.requires (λ (old : Option ℕ). Some c.args.unit) c.if-register-self.true refl

pub returns-else-register-self-clause-after : goal.returns-else-register-self-clause-after
unfolding claim
returns-else-register-self-clause-after c = claims-keep c.requires (λ (old : Option ℕ). Some c.args.unit) (λ h. absurd (omega arith))
