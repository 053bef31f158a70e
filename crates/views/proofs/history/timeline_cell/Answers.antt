use Rattle.config.specs.View.{view_machine}
use Rattle.timeline.specs.Cells.{cell_answer}
use Rattle.board.specs.View.{view_board}
use Rattle.scoreboard.specs.View.{view_engine}
use Rattle.engine.specs.View.{view_engine as engine-view}
use Rattle.views.proofs.Shows.{cell-shown, cell-missing}
use Rattle.views.proofs.history.timeline_cell.Goals as goal

pub returns-in-Some : goal.returns-in-Some
unfolding engine-view view_board view_machine
returns-in-Some c = cell-shown (view_engine c.args.engine.now) _ c.args.row c.args.index c.requires.parts.history c.timeline_row.ensures
    c.in-Some.is c.cell.ensures

pub returns-in-None : goal.returns-in-None
unfolding engine-view view_board view_machine cell_answer
returns-in-None c = cell-missing (view_engine c.args.engine.now) _ c.args.row c.args.index c.requires.parts.history c.timeline_row.ensures
    c.in-None.is
