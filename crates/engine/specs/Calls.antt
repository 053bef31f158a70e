-- What a call says: answer and engine are the model's, and the engine is valid again. What it does to lent memory stands beside it in each contract.
use Rattle.std.specs.Prelude.{ℕ, ◌≡◌, List, Some}
use Rattle.model.specs.Calls.{Call, Answer, refusal, answer, after}
use Rattle.engine.specs.Engine.{Engine}
use Rattle.engine.specs.View.{view_engine}
use Rattle.engine.specs.Valid.{Valid}

-- Of an engine, a call, its answer, and the engine after it. A refusal leaves the very engine.
pub record Does (e : Engine) (c : Call) (a : Answer) (r : Engine) : Type 0 where
  pub answer : (m : List ℕ) → a ≡ answer (view_engine e) m c
  pub engine : view_engine r ≡ after (view_engine e) c
  pub valid : Valid r
  pub refused : (n : ℕ) → refusal (view_engine e) c ≡ Some n → r ≡ e
