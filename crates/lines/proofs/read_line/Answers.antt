-- The next line starts beyond this one's byte 10, or at the end.
use Rattle.lines.proofs.Lines.{line-next, line-last}
use Rattle.lines.proofs.read_line.Goals as goal

pub returns-then-end-rest : goal.returns-then-end-rest
returns-then-end-rest c = line-next _ _ _ c.read_op-op.result c.place_of-end.ensures c.read_op-op.ensures c.requires c.if-end-rest.true

pub returns-else-end-rest : goal.returns-else-end-rest
returns-else-end-rest c = line-last _ _ _ c.read_op-op.result c.place_of-end.ensures c.read_op-op.ensures c.requires c.if-end-rest.false
