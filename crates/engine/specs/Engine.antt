-- The parts of an engine: the fields of `ScoreboardPipeline` in crates/scoreboard. Functions that work on some of them say what they do to every
-- engine that has these.
use Rattle.config.specs.declared.Machine.{Machine}
use Rattle.registers.specs.declared.RegisterTable.{RegisterTable}
use Rattle.flight.specs.declared.pool.DecodedPool.{DecodedPool}
use Rattle.flight.specs.declared.pool.TextPool.{TextPool}
use Rattle.timeline.specs.declared.Tracks.{Tracks}
use Rattle.timeline.specs.declared.RowTexts.{RowTexts}
use Rattle.timeline.specs.declared.Window.{Window}
use Rattle.board.specs.declared.Board.{Board}

pub record Engine : Type 0 where
  pub board : Board
  pub window : Window
  pub tracks : Tracks
  pub decoded : DecodedPool
  pub machine : Machine
  pub table : RegisterTable
  pub texts : TextPool
  pub rows : RowTexts

-- The engine with this board, else as it is.
abbrev pub with_board : Board → Engine → Engine
with_board b e =
    record {
      board = b;
      window = e.window;
      tracks = e.tracks;
      decoded = e.decoded;
      machine = e.machine;
      table = e.table;
      texts = e.texts;
      rows = e.rows;
    }
