-- Past the end none; else what stands in the row's slot.
use Rattle.std.proofs.Common.{rules, arith}
use Rattle.timeline.specs.View.{shown}
use Rattle.timeline.proofs.Shows.{shows_no_row, shows_read}
use Rattle.timeline.proofs.row.Goals as goal

pub returns-then-window-index : goal.returns-then-window-index
returns-then-window-index c = search (rules, arith, shows_no_row)

pub returns : goal.returns
unfolding shown
returns c = search (rules, arith, shows_read)
