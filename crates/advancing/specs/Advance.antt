-- What the rest of a cycle says, where it is not refused and the engine does not stop.
use Rattle.std.specs.Prelude.{ℕ, ◌≡◌, true, false, ◌||◌, List, [], ◌++◌, map, length, Option}
use Rattle.laws.specs.Optional.{when_some}
use Rattle.model.specs.Op.{Op}
use Rattle.model.specs.Timeline.{Write}
use Rattle.model.specs.State.{State}
use Rattle.model.specs.Issue.{flushed_cell, issue, redirect_writes, timeline_writes}
use Rattle.model.specs.Scoreboard.{closed, before_issue, after_issue}
use Rattle.model.specs.Calls.{Answer, advance, invitation, invitation_of, memory_after}
use Rattle.config.specs.declared.Machine.{Machine}
use Rattle.registers.specs.declared.RegisterTable.{RegisterTable}
use Rattle.config.specs.Kept.{MachineOk}
use Rattle.timeline.specs.declared.Tracks.{Tracks}
use Rattle.timeline.specs.declared.Window.{Window}
use Rattle.timeline.specs.View.{WindowOk, TracksOk}
use Rattle.board.specs.declared.Board.{Board}
use Rattle.board.specs.View.{BoardOk}
use Rattle.board.specs.Promises.{Open}
use Rattle.engine.specs.Engine.{Engine}
use Rattle.engine.specs.View.{view_engine}
use Rattle.engine.specs.Valid.{Parts, Valid}
use Rattle.engine.specs.Calls.{Does}

-- The cells of a redirect, if there is one.
abbrev pub dropped_cells : Option ℕ → List Op → List (ℕ × ℕ)
dropped_cells r q = when_some r [] (λ (t : ℕ). map flushed_cell q)

-- The names that are held after it: only those known, if the queue was dropped.
abbrev pub held_after : Option ℕ → RegisterTable → RegisterTable
held_after r t = when_some r t (λ (a : ℕ). record { names = t.names; hints = t.hints; known = t.known; held = t.known })

-- The engine before the timeline is recorded.
abbrev pub issued : Option ℕ → State → State
issued r s = issue (before_issue r (closed s))

pub record Worked (e : Engine) (target : Option ℕ) (a : Answer) (r : Engine) : Type 0 where
  pub answer : a ≡ invitation (invitation_of (after_issue (issued target (view_engine e))))
  pub engine : view_engine r ≡ after_issue (issued target (view_engine e))
  pub parts : Parts r

-- The bytes that it sets.
abbrev pub worked_writes : Option ℕ → State → List Write
worked_writes r s = redirect_writes r (closed s) ++ timeline_writes (issued r s)

-- ── By parts ────────────────────────────────────────────────────────────────

-- The engine with these parts, else as it is.
abbrev pub engine_of : Board → Window → Tracks → Machine → RegisterTable → Engine → Engine
engine_of b w ts m t e =
    record { board = b; window = w; tracks = ts; decoded = e.decoded; machine = m; table = t; texts = e.texts; rows = e.rows }

-- What holds of the parts that an advance works on.
pub record Restable (b : Board) (w : Window) (ts : Tracks) (m : Machine) : Type 0 where
  pub board : BoardOk b
  pub window : WindowOk w
  pub tracks : TracksOk ts
  pub machine : MachineOk m
  pub begun : b.front.in_cycle ≡ true → b.front.halted || b.front.faulted ≡ false → Open b

-- It is the advance of every engine with these parts: its answer, and the board, tracks and names that it leaves.
abbrev pub Rests
    : Board → Window → Tracks → Machine → RegisterTable → Option ℕ → ℕ → Answer → Board → Tracks → RegisterTable → Type 0
Rests b w ts m t target lent a b' ts' t' =
    (e : Engine) → Valid (engine_of b w ts m t e)
    → Does (engine_of b w ts m t e) (advance target lent) a (engine_of b' w ts' m t' e)

abbrev pub RestWrites : Board → Window → Tracks → Machine → RegisterTable → Option ℕ → List ℕ → List ℕ → Type 0
RestWrites b w ts m t target before after =
    (e : Engine) → Valid (engine_of b w ts m t e)
    → after ≡ memory_after (view_engine (engine_of b w ts m t e)) (advance target (length before)) before
