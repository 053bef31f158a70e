-- No row of `forecast`'s timeline comes near the 200 cells that it has room for: none ever has more than 95, and so none loses a cell.
use Rattle.std.specs.Prelude.{ℕ, ◌≤◌, max, ◌≡◌, List, [], ◌∷◌, replicate}
use Rattle.laws.specs.Lists.{All}
use Rattle.laws.specs.Texts.{Text, bytes}
use Rattle.model.specs.Timeline.{Row}
use Rattle.model.specs.Forecast.{Lent, Run, not_made, line_refused, finished, going, cycle, forecast_run, forecast_of}
use Rattle.ending.specs.Ending.{begun}

-- ── Rows ────────────────────────────────────────────────────────────────────

-- A cell is lost only to one that comes when there are 200; then the oldest stands at another byte of the row's slot than the first.
pub record RowShort (r : Row) : Type 0 where
  pub cells_few : r.count ≤ 95
  pub none_lost : r.oldest_at ≡ 0

abbrev pub RowsShort : Lent → Type 0
RowsShort e = All RowShort e.engine.log.rows

-- A run that is not made has no rows. One whose line was refused shows none: see `in_a_turn`.
abbrev pub RunShort : Run → Type 0
RunShort (not_made r m) = Unit {0}
RunShort (line_refused n r m) = Unit {0}
RunShort (finished e) = RowsShort e
RunShort (going e rest n) = RowsShort e

-- ── The statement ───────────────────────────────────────────────────────────

pub record Spans (input : Text) (cells : List ℕ) : Type 0 where
  -- After k turns, and at the end.
  pub between_turns : (k : ℕ) → RunShort (forecast_run k (begun input cells))
  pub at_the_end : RunShort (forecast_of input cells)
  -- In the turn after k, also where its line is refused: after the cycle, which adds a cell for each operation in flight. (A start and a
  -- retirement add none; a fetch adds a row of one cell.)
  pub in_a_turn
      : (k : ℕ) (e : Lent) (rest : Text) (n : ℕ) → forecast_run k (begun input cells) ≡ going e rest n → RowsShort (cycle e)

-- ── A long row ──────────────────────────────────────────────────────────────

-- The most cells of a row.
unfoldable pub most_cells : List Row → ℕ
most_cells [] = 0
most_cells (r ∷ rs) = max r.count (most_cells rs)

abbrev pub longest : Run → ℕ
longest (not_made r m) = 0
longest (line_refused n r m) = 0
longest (finished e) = most_cells e.engine.log.rows
longest (going e rest n) = most_cells e.engine.log.rows

-- The last of these waits for three divisions, one after the other: its row has 90 cells.
abbrev pub LongRow : Type 0
LongRow =
    longest (forecast_of (bytes "A 4 - x1 add\nD 4 x1 x1 divide\nD 4 x1 x2 divide\nD 4 x2 x2 divide\nD 4 x2 x2 divide") (replicate 51200 255)) ≡ 90
