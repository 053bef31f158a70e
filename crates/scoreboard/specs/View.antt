-- The struct by its parts, and what it means to the model.
use Rattle.model.specs.State.{State}
use Rattle.flight.specs.View.{Legend}
use Rattle.board.specs.View.{Frame}
use Rattle.engine.specs.Engine.{Engine}
use Rattle.engine.specs.View as engine
use Rattle.scoreboard.specs.declared.ScoreboardPipeline.{ScoreboardPipeline}

abbrev pub parts : ScoreboardPipeline → Engine
parts e =
    record {
      board = e.board;
      window = e.window;
      tracks = e.tracks;
      decoded = e.decoded;
      machine = e.machine;
      table = e.table;
      texts = e.texts;
      rows = e.rows;
    }

-- The struct of parts.
abbrev pub pipeline : Engine → ScoreboardPipeline
pipeline e =
    record {
      board = e.board;
      window = e.window;
      tracks = e.tracks;
      decoded = e.decoded;
      machine = e.machine;
      table = e.table;
      texts = e.texts;
      rows = e.rows;
    }

abbrev pub legend_of : ScoreboardPipeline → Legend
legend_of e = engine.legend_of (parts e)

abbrev pub frame_of : ScoreboardPipeline → Frame
frame_of e = engine.frame_of (parts e)

abbrev pub view_engine : ScoreboardPipeline → State
view_engine e = engine.view_engine (parts e)
