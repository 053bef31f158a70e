-- The only premise of a call: what holds of every engine that making hands out and calls leave.
use Rattle.std.specs.Prelude.{◌≡◌, true, false, ◌||◌}
use Rattle.invariant.specs.Invariant.{Invariant}
use Rattle.config.specs.Kept.{MachineOk}
use Rattle.registers.specs.View.{TableOk}
use Rattle.timeline.specs.View.{WindowOk, TracksOk, RowTextsOk}
use Rattle.flight.specs.Pool.{DecodedPoolOk, TextPoolOk}
use Rattle.board.specs.View.{BoardOk}
use Rattle.board.specs.Promises.{taken_places, Apart, Vacant, Named, Open, Looks}
use Rattle.engine.specs.Engine.{Engine}
use Rattle.engine.specs.View.{frame_of, view_engine}

-- The parts.
pub record Parts (e : Engine) : Type 0 where
  -- Each is well formed.
  pub board : BoardOk e.board
  pub window : WindowOk e.window
  pub tracks : TracksOk e.tracks
  pub rows : RowTextsOk e.rows
  pub machine : MachineOk e.machine
  pub table : TableOk e.table
  pub decoded : DecodedPoolOk e.decoded
  pub texts : TextPoolOk e.texts
  -- They agree: one history, one count of names known, and the numbers that queued operations got at their fetches.
  pub history : e.window.history ≡ e.machine.history
  pub known : e.table.known ≡ e.board.claims.len
  pub looks : Looks (frame_of e) e.board
  -- No place of the pool is taken twice, and a free unit has none unless its result is on offer. While the engine runs, waits name operations in flight, or the one that left in this cycle; while a cycle is open, those of units.
  pub apart : Apart e.board
  pub vacant : Vacant e.board
  pub begun : e.board.front.in_cycle ≡ true → e.board.front.halted || e.board.front.faulted ≡ false → Open e.board
  pub named : e.board.front.halted || e.board.front.faulted ≡ false → Named (taken_places e.board) e.board

pub record Valid (e : Engine) : Type 0 where
  pub parts : Parts e
  -- What holds of the model's engine.
  pub invariant : Invariant (view_engine e)
