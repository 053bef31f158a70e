use Rattle.registers.proofs.NameTable.{empty-table}
use Rattle.registers.proofs.RegisterTable.new.Goals as goal

pub returns : goal.returns
returns c = empty-table _ c.empty.ensures
