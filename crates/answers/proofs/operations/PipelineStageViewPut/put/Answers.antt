-- The role, and the slot.
use Rattle.std.proofs.Common.{rules}
use Rattle.traces.proofs.Written.{laid_next}
use Rattle.inspect.specs.View.{view_stage}
use Rattle.answers.specs.Bytes.{slot_bytes, slot_part, stage_bytes}
use Rattle.occupants.specs.View.{view_slot}
use Rattle.answers.proofs.Laid.{laid_same}
use Rattle.answers.proofs.Lengths.{part_map}
use Rattle.answers.proofs.operations.PipelineStageViewPut.put.Goals as goal

pub returns-clause-laid : goal.returns-clause-laid
unfolding stage_bytes slot_part view_stage
returns-clause-laid c =
    let slot = part_map 17 slot_bytes view_slot c.args.self.slot in
    laid_same (laid_next c.put-a.ensures.laid c.put_part.ensures.laid) (search (rules, slot))
