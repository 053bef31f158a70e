use Rattle.registers.proofs.NameTable.{lowered}
use Rattle.registers.proofs.RegisterTable.forget.Goals as goal

pub returns : goal.returns
returns c = lowered c.requires
