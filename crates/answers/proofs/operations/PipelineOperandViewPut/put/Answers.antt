-- The register, and who owes it.
use Rattle.traces.proofs.Written.{laid_next}
use Rattle.inspect.specs.View.{view_operand}
use Rattle.answers.specs.Bytes.{index_part, operand_bytes}
use Rattle.answers.proofs.operations.PipelineOperandViewPut.put.Goals as goal

pub returns-clause-laid : goal.returns-clause-laid
unfolding operand_bytes index_part view_operand
returns-clause-laid c = laid_next c.put-a.ensures.laid c.put_part.ensures.laid
