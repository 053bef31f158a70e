use native.Mathlib.Omega.{arith}
use Rattle.model.specs.Registers.{release, release_held}
use Rattle.registers.proofs.Owing.{claims-set, claims-keep, release_own, release_other}
use Rattle.registers.proofs.Claims.release.Goals as goal

pub returns-then-eq : goal.returns-then-eq
unfolding release
returns-then-eq c = claims-set c.requires (release_held c.args.unit) c.if-register-self.true (grind (arith, release_own))

pub returns-else-register-self : goal.returns-else-register-self
unfolding release
returns-else-register-self c = claims-keep c.requires (release_held c.args.unit) (λ h. grind (arith, release_other))
