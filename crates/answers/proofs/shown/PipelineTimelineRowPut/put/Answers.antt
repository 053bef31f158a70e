-- By its parts.
use Rattle.std.proofs.Common.{rules}
use Rattle.traces.proofs.Written.{laid_next}
use Rattle.timeline.specs.View.{view_row}
use Rattle.answers.specs.Bytes.{flag_byte, row_bytes}
use Rattle.answers.proofs.Laid.{laid_same}
use Rattle.answers.proofs.shown.PipelineTimelineRowPut.put.Goals as goal

pub returns-clause-laid : goal.returns-clause-laid
unfolding flag_byte row_bytes view_row
returns-clause-laid c =
    laid_same
    (laid_next c.put-a.ensures.laid
    (laid_next c.put-b.ensures.laid
    (laid_next c.put-c.ensures.laid (laid_next c.put-d.ensures.laid c.put.ensures))))
    (search rules)
