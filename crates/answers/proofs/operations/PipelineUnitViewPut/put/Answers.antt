-- Two numbers, the slot, and two bytes.
use Rattle.std.proofs.Common.{rules}
use Rattle.traces.proofs.Written.{laid_next}
use Rattle.inspect.specs.View.{view_kind}
use Rattle.answers.specs.Bytes.{kind_bytes, slot_bytes, slot_part}
use Rattle.occupants.specs.View.{view_slot}
use Rattle.answers.proofs.Laid.{laid_same}
use Rattle.answers.proofs.Lengths.{part_map}
use Rattle.answers.proofs.operations.PipelineUnitViewPut.put.Goals as goal

pub returns-clause-laid : goal.returns-clause-laid
unfolding kind_bytes slot_part view_kind
returns-clause-laid c =
    let slot = part_map 17 slot_bytes view_slot c.args.self.first in
    laid_same
    (laid_next c.put-a.ensures.laid (laid_next c.put-b.ensures.laid (laid_next c.put_part-c.ensures.laid c.put.ensures)))
    (search (rules, slot))
