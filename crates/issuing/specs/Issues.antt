-- What the issue of a cycle says of the board that it leaves.
use Rattle.std.specs.Prelude.{◌+◌, ◌≤◌, ◌≡◌, None}
use Rattle.model.specs.Issue.{issue}
use Rattle.config.specs.declared.Machine.{Machine}
use Rattle.config.specs.View.{view_machine}
use Rattle.board.specs.declared.Board.{Board}
use Rattle.board.specs.View.{Frame, view_board, BoardOk}
use Rattle.board.specs.Promises.{taken_places, Apart, Named, Vacant, Looks, unit_places}

-- In this machine, where queued operations have the numbers of their fetches.
pub record Issues (b : Board) (m : Machine) (r : Board) : Type 0 where
  pub is : (x : Frame) → x.machine ≡ view_machine m → Looks x b → view_board x r ≡ issue (view_board x b)
  pub ok : BoardOk r
  pub few : r.log.traces.len ≤ b.log.traces.len + 1
  pub apart : Apart b → Apart r
  -- A free unit's place would be lost: no unit has one, where nothing is on offer.
  pub named : b.offer.writing ≡ None → Vacant b → Named (unit_places b) b → Named (taken_places r) r
  pub vacant : Vacant b → Vacant r
  pub looks : (x : Frame) → Looks x b → Looks x r
