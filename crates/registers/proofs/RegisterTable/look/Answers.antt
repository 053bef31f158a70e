use Rattle.std.proofs.Common.{arith}
use Rattle.registers.proofs.NameTable.{raised}
use Rattle.registers.proofs.RegisterTable.look.Goals as goal

pub returns : goal.returns
returns c = raised c.requires _ (omega arith)
