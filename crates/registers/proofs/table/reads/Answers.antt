use Rattle.registers.proofs.Resolving.{sources-listed}
use Rattle.registers.proofs.table.reads.Goals as goal

pub returns : goal.returns
returns c = sources-listed c.args.op.now c.requires.op_value c.requires.op_value_2 c.first.ensures.size c.first.ensures.is
