use Rattle.registers.proofs.Owing.{padded}
use Rattle.registers.proofs.Claims.pad.Goals as goal

pub returns : goal.returns
returns c = padded c.requires.claims_ok c.requires.len_bound c.max-self.ensures
