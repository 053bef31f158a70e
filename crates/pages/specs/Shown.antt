-- The text of a cell and of a row, by what a view shows of them.
use Rattle.std.specs.Prelude.{None, Option, Some, ◌≤◌, cond, List, [], ◌++◌, eqb}
use Rattle.timeline.specs.declared.PipelineTimelineRow.{PipelineTimelineRow}
use Rattle.laws.specs.Optional.{value_or}
use Rattle.laws.specs.Texts.{Text, bytes}
use Rattle.capability.specs.declared.PipelineTimelineState.TheVariants as cell
use Rattle.capability.specs.Numbers.{state_number}
use Rattle.model.specs.Config.{UnitSpec}
use Rattle.model.specs.Views.{CellView}
use Rattle.model.specs.Requests.{label_text}
use Rattle.model.specs.Forecast.{Lent, row_text}
use Rattle.timeline.specs.Cells.{bare}

-- Forecast.cell_text, of the cell that a byte shows as.
unfoldable pub shown_text : List UnitSpec → CellView → Text
shown_text ks v =
    bytes " " ++ (value_or [] (label_text ks v.label) ++ cond (eqb (state_number v.state) (state_number cell.Stalled)) (bytes "*") [])

-- At most 200 cells.
abbrev pub FewCells : Option PipelineTimelineRow → Type 0
FewCells (Some r) = r.cells ≤ 200
FewCells None = Unit {0}

unfoldable pub shown_row_text : Lent → Option PipelineTimelineRow → Text
shown_row_text e (Some r) = row_text e (bare r)
shown_row_text e None = []
