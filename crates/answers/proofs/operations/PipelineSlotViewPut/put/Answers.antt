-- By its parts.
use Rattle.std.proofs.Common.{rules}
use Rattle.traces.proofs.Written.{laid_next}
use Rattle.occupants.specs.View.{view_slot}
use Rattle.answers.specs.Bytes.{flag_byte, slot_bytes}
use Rattle.answers.proofs.Laid.{laid_same}
use Rattle.answers.proofs.operations.PipelineSlotViewPut.put.Goals as goal

pub returns-clause-laid : goal.returns-clause-laid
unfolding flag_byte slot_bytes view_slot
returns-clause-laid c = laid_same (laid_next c.put-a.ensures.laid (laid_next c.put-b.ensures (laid_next c.put_part-c.ensures.laid c.put.ensures))) (search rules)
