-- The view of a cell, from the lent memory.
use Rattle.std.specs.Prelude.{ℕ, ◌*◌, ◌&&◌, List, [], ◌∷◌, ltb, length, Option, Result, Ok, Err, option_map}
use Rattle.laws.specs.Optional.{when_some}
use Rattle.capability.specs.declared.PipelineTimelineState.{PipelineTimelineState}
use Rattle.capability.specs.declared.PipelineStageRole.{PipelineStageRole}
use Rattle.model.specs.Timeline.{Row, row_of, cell_at}
use Rattle.model.specs.Views.{CellView, cell_view}
use Rattle.model.specs.Calls.{Answer, refused, shown_cell, first_of}
use Rattle.timeline.specs.declared.PipelineTimelineRow.{PipelineTimelineRow}
use Rattle.timeline.specs.declared.cells.PipelineTimelineCell.{PipelineTimelineCell}
use Rattle.capability.specs.declared.Refusal.{Refusal}
use Rattle.capability.specs.Refusals.{refusal_number}

abbrev pub cell_of : ℕ → PipelineTimelineState → PipelineStageRole → CellView
cell_of n s r = record { label = n; state = s; role = r }

unfoldable pub view_cell : PipelineTimelineCell → CellView
view_cell c = cell_of c.label c.state c.role

-- The row that a view shows, with no text: its cells do not depend on it.
abbrev pub bare : PipelineTimelineRow → Row
bare v = row_of v.id v.address [] v.class v.first_cycle v.atomic v.oldest v.cells

-- The view timeline-cell, of cell c of a row: 13 where the cell is there and the memory is short.
unfoldable pub cell_reply : ℕ → Row → List ℕ → ℕ → Answer
cell_reply history r m c =
    when_some (first_of ((13, ltb c r.count && ltb (length m) (history * 200)) ∷ []))
    (shown_cell (option_map cell_view (cell_at history r m c)))
    refused

-- As the model answers it.
unfoldable pub cell_answer : Result (Option PipelineTimelineCell) Refusal → Answer
cell_answer (Ok c) = shown_cell (option_map view_cell c)
cell_answer (Err r) = refused (refusal_number r)
