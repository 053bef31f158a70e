use Rattle.registers.proofs.Owing.{cleared}
use Rattle.registers.proofs.Claims.clear_claims.Goals as goal

pub returns : goal.returns
returns c = cleared c.requires
