-- The first i cells stand, of at most 10 bytes each.
use Rattle.model.specs.Forecast.{lent_of, cells_text}
use Rattle.timeline.specs.Cells.{bare}
use Rattle.pages.proofs.Cells.{LaidOf}
use Rattle.pages.proofs.put_cells.Given as goal

abbrev pub invariant-loop-i : goal.invariant-loop-i
invariant-loop-i l = LaidOf l.machine l.at (λ s. cells_text (lent_of s l.cells) (bare l.row) l.i) l.initial.page l.page l.next
