-- What a run of `forecast` in code means to the model, and what its steps say.
use Rattle.std.specs.Prelude.{ℕ, suc, ◌≤◌, ◌≡◌, List, length, drop}
use Rattle.laws.specs.Texts.{Text}
use Rattle.capability.specs.Refusals.{refusal_number}
use Rattle.model.specs.Forecast.{Run, line_refused, finished, going, Lent, lent_of, parse, first_line, other_lines, take_parsed, cycle}
use Rattle.scoreboard.specs.declared.ScoreboardPipeline.{ScoreboardPipeline}
use Rattle.scoreboard.specs.View.{view_engine}
use Rattle.scoreboard.specs.Valid.{Valid}
use Rattle.driving.specs.declared.Standing.{Standing}
use Rattle.driving.specs.declared.Standing.TheVariants.{Running, Finished, Refused}
use Rattle.driving.specs.declared.Going.{Going}

-- By how it stands, with the input, the engine and the lent cells.
unfoldable pub run_by : Standing → Text → ScoreboardPipeline → Going → List ℕ → Run
run_by Running input e g cells = going (lent_of (view_engine e) cells) (drop g.at input) g.lines
run_by Finished input e g cells = finished (lent_of (view_engine e) cells)
run_by (Refused r) input e g cells = line_refused g.lines (refusal_number r) cells

unfoldable pub view_run : Text → ScoreboardPipeline → Going → List ℕ → Run
view_run input e g cells = run_by g.stands input e g cells

-- A cycle up to its invitation, with the cells m before and n after it.
pub record Cycles (e : ScoreboardPipeline) (m : List ℕ) (r : ScoreboardPipeline) (n : List ℕ) : Type 0 where
  pub is : lent_of (view_engine r) n ≡ cycle (lent_of (view_engine e) m)
  pub valid : Valid r

-- It goes on.
pub record Runs (input : Text) (g : Going) : Type 0 where
  pub stands : g.stands ≡ Running
  pub at : g.at ≤ length input
  pub lines : g.lines ≤ g.at

-- The line at a place of the input, after so many, is taken.
abbrev pub line_taken : Text → ℕ → ℕ → Lent → Run
line_taken input at lines e =
    take_parsed (parse (first_line (drop at input))) e.engine.front.fetch_pc (other_lines (drop at input)) (suc lines) e

-- The run is this one of the model's, with the cells m; no more lines were taken than there are bytes before the rest of the input.
pub record Goes (input : Text) (run : Run) (e : ScoreboardPipeline) (g : Going) (m : List ℕ) : Type 0 where
  pub is : view_run input e g m ≡ run
  pub valid : Valid e
  pub at : g.at ≤ length input
  pub lines : g.lines ≤ g.at
