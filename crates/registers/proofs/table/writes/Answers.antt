use Rattle.registers.proofs.Resolving.{writes-listed}
use Rattle.registers.proofs.table.writes.Goals as goal

pub returns : goal.returns
returns c = writes-listed c.args.op.now c.requires.op_value c.requires.op_value_2 c.first.ensures.size c.first.ensures.is
