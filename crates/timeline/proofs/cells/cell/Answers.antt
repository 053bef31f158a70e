-- Past the cells, with a short memory, or there.
use Rattle.std.proofs.Common.{rules, arith}
use Rattle.timeline.specs.Cells.{cell_answer}
use Rattle.timeline.proofs.Shows.{cell-past, cell-short, cell-here}
use Rattle.timeline.proofs.cells.cell.Goals as goal

pub returns-then-row-index : goal.returns-then-row-index
unfolding cell_answer
returns-then-row-index c = search (rules, arith, cell-past)

pub returns-then-cells-window : goal.returns-then-cells-window
unfolding cell_answer
returns-then-cells-window c = search (rules, arith, cell-short)

pub returns : goal.returns
unfolding cell_answer
returns c = rw c.cell_view.ensures (search (rules, arith, cell-here))
