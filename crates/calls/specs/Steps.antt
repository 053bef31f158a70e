-- What playing calls says of the engine, the cell memory and the answers' bytes.
use Rattle.std.specs.Prelude.{ℕ, ◌+◌, ◌≤◌, ◌≡◌, Bool, true, false, List, length, Some}
use Rattle.model.specs.Timeline.{splice}
use Rattle.model.specs.Calls.{
  Call,
  start,
  retire,
  retry,
  resolve,
  advance,
  fetch,
  capacity,
  overlap,
  halt,
  fault,
  reset,
  redirect,
  view,
  cell,
  text,
  refusal,
  answer,
  after,
  memory_after,
}
use Rattle.decoding.specs.Calls.{call_at, formed_at}
use Rattle.decoding.specs.Script.{calls_at, all_formed}
use Rattle.answers.specs.Encode.{encode}
use Rattle.answers.specs.Size.{size}
use Rattle.scoreboard.specs.declared.ScoreboardPipeline.{ScoreboardPipeline}
use Rattle.scoreboard.specs.View.{view_engine}
use Rattle.scoreboard.specs.Valid.{Valid}
use Rattle.calls.specs.Play.{lent_of, most_lent, all_sizes}

-- The calls from a place on, and whether they are of their form.
abbrev pub from : List ℕ → ℕ → List Call
from l at = calls_at (length l) l at

abbrev pub good : List ℕ → ℕ → Bool
good l at = all_formed (length l) l at

-- The call at a place is of its form, as much cell memory as it is lent is there, and its answer has room from b on.
pub record Playable (l : List ℕ) (at : ℕ) (m : List ℕ) (b : ℕ) (out : List ℕ) : Type 0 where
  pub formed : formed_at l at ≡ true
  pub lent : lent_of (call_at l at) ≤ length m
  pub room : b + size (call_at l at) ≤ length out

-- All calls are, with answers from byte 17 on.
pub record AllPlayable (l m out : List ℕ) : Type 0 where
  pub formed : good l 555 ≡ true
  pub lent : most_lent (from l 555) ≤ length m
  pub room : 17 + all_sizes (from l 555) ≤ length out

-- A view or a text.
abbrev pub shows_only : Call → Bool
shows_only start = false
shows_only retire = false
shows_only (retry reason) = false
shows_only (resolve a) = false
shows_only (advance r lent) = false
shows_only (fetch g lent) = false
shows_only (capacity k n) = false
shows_only (overlap b) = false
shows_only halt = false
shows_only (fault note) = false
shows_only (reset a lent) = false
shows_only (redirect a) = false
shows_only (view v) = true
shows_only (cell r c lent) = true
shows_only (text t room) = true

-- The call c is played: the engine and the lent cell memory before and after it, and its answer laid from b on. One that is refused, a view and a text
-- leave the very engine.
pub record Plays (c : Call) (b : ℕ) (e : ScoreboardPipeline) (m out : List ℕ) (e' : ScoreboardPipeline) (m' out' : List ℕ) : Type 0 where
  pub engine : view_engine e' ≡ after (view_engine e) c
  pub valid : Valid e'
  pub refused : (n : ℕ) → refusal (view_engine e) c ≡ Some n → e' ≡ e
  pub shown : shows_only c ≡ true → e' ≡ e
  pub memory : m' ≡ memory_after (view_engine e) c m
  pub answer : out' ≡ splice b (encode (answer (view_engine e) m c)) out
