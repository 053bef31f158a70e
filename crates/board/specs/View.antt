-- What the board means to the model: with a frame, which has what a cycle does not work on, it is the model's engine.
use Rattle.std.specs.Prelude.{ℕ, ◌≤◌, ◌<◌, List, take, option_map}
use Rattle.std.specs.Option.{IfSome}
use Rattle.laws.specs.Lists.{All}
use Rattle.laws.specs.Texts.{Text}
use Rattle.model.specs.Config.{Machine}
use Rattle.model.specs.Timeline.{Row}
use Rattle.model.specs.State.{marks, offer_of, front_of, State, state}
use Rattle.op.specs.Chars.{Fits, view_text}
use Rattle.registers.specs.View.{view_claims, ClaimsOk}
use Rattle.flight.specs.View.{Legend, view_queue, QueueOk}
use Rattle.stalls.specs.View.{Frame as LogFrame, listed, view_log, LogOk}
use Rattle.stalls.specs.Promises.{Known}
use Rattle.bank.specs.View.{view_units, slots, UnitsOk, UnitKnows}
use Rattle.board.specs.declared.Board.{Board}

-- What stands behind the numbers, the machine, the rows, and the number of the next operation, which is the id of its row.
pub record Frame : Type 0 where
  pub legend : Legend
  pub machine : Machine
  pub rows : List Row
  pub next : ℕ

-- The names known: as many as there are claims.
unfoldable pub known_names : Frame → Board → List Text
known_names f b = take b.claims.len f.legend.names

abbrev pub log_frame : Frame → Board → LogFrame
log_frame f b =
    record {
      legend = f.legend;
      kinds = f.machine.specs;
      names = known_names f b;
      rows = f.rows;
      status = option_map view_text b.status;
    }

unfoldable pub view_board : Frame → Board → State
view_board f b =
    state f.machine (view_units f.legend b.units) (view_queue f.legend b.queue) (known_names f b) (view_claims b.claims)
    (marks b.marks.branch b.marks.system) (offer_of b.offer.writing b.offer.retired)
    (front_of b.front.enabled b.front.halted b.front.faulted b.front.in_cycle b.front.invited b.fetch_pc
    f.next f.next)
    (view_log (log_frame f b) b.log)

-- ── When it is well formed ──────────────────────────────────────────────────

pub record BoardOk (b : Board) : Type 0 where
  pub units : UnitsOk b.units
  pub queue : QueueOk b.queue
  pub claims : ClaimsOk b.claims
  pub log : LogOk b.log
  pub offer : IfSome b.offer.writing (λ (i : ℕ). i < b.units.len)
  pub status : Fits b.status
  pub gone : b.gone ≤ 80
  -- Registers that a unit writes or waits for, or a wait names, are known.
  pub knows : All (UnitKnows b.claims.len) (slots b.units)
  pub known : All (Known b.claims.len) (listed b.log.traces)

-- All of these unfold where a line says `unfolding boards`.
unfoldable pub boards : Unit {0}
unfolding known_names view_board
boards = tt
