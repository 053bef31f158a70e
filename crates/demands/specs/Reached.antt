-- The engines that a user can reach: those that making hands out, and those that calls leave.
use Rattle.std.specs.Prelude.{ℕ, Ok}
use Rattle.model.specs.Config.{PipelineShape}
use Rattle.model.specs.Calls.{Call, Answer}
use Rattle.scoreboard.specs.declared.ScoreboardPipeline.{ScoreboardPipeline}
use Rattle.scoreboard.specs.Valid.{Valid}
use Rattle.scoreboard.specs.Calls.{Makes, Does}

-- What `new` hands out and a call leaves is any engine that their contracts allow: they fix it up to the view.
pub data Reached : ScoreboardPipeline → Type 0 where
  made : (d : PipelineShape) (entry lent : ℕ) (e : ScoreboardPipeline) → Makes d entry lent (Ok e) → Reached e
  called : (e : ScoreboardPipeline) (c : Call) (a : Answer) (r : ScoreboardPipeline) → Reached e → Does e c a r → Reached r

pub record Reaches : Type 0 where
  -- The premise of every call holds of each.
  pub valid : (e : ScoreboardPipeline) → Reached e → Valid e
  -- There are such engines.
  pub one : (e : ScoreboardPipeline) × Reached e
