-- What making and a call say: answer and engine are the model's, and the engine is valid again. Lent memory stands beside it in each contract.
use Rattle.std.specs.Prelude.{ℕ, ◌≡◌, false, [], None, Result, IfOk}
use Rattle.capability.specs.declared.Refusal.{Refusal}
use Rattle.capability.specs.Refusals.{refusal_of}
use Rattle.model.specs.Config.{PipelineShape, Machine}
use Rattle.model.specs.Units.{build_units}
use Rattle.model.specs.State.{no_stats, marks, offer_of, front_of, log_of, State, state, new}
use Rattle.model.specs.Calls.{Call, Answer, make_refusal}
use Rattle.engine.specs.Calls as engine
use Rattle.scoreboard.specs.declared.ScoreboardPipeline.{ScoreboardPipeline}
use Rattle.scoreboard.specs.View.{parts, view_engine}
use Rattle.scoreboard.specs.Valid.{Valid}

-- State.new, of the machine
unfoldable pub new_state : Machine → ℕ → State
new_state m entry =
    state m (build_units 0 m.specs) [] [] [] (marks false false) (offer_of None false)
    (front_of false false false false false entry 0 0) (log_of no_stats [] [] None)

-- Of a machine, and an entry address.
pub record Made (d : PipelineShape) (entry : ℕ) (e : ScoreboardPipeline) : Type 0 where
  pub engine : view_engine e ≡ new d entry
  pub valid : Valid e

-- Also of so many bytes of cell memory.
pub record Makes (d : PipelineShape) (entry lent : ℕ) (r : Result ScoreboardPipeline Refusal) : Type 0 where
  pub refused : refusal_of r ≡ make_refusal d lent
  pub made : IfOk r (λ (e : ScoreboardPipeline). Made d entry e)

-- Of an engine, a call, its answer, and the engine after it. A refusal leaves the very engine.
abbrev pub Does : ScoreboardPipeline → Call → Answer → ScoreboardPipeline → Type 0
Does e c a r = engine.Does (parts e) c a (parts r)
