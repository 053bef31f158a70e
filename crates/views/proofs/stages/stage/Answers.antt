use mathlib.Core.Path.{◌∙◌}
use Rattle.config.specs.View.{view_machine}
use Rattle.registers.specs.View.{view_held}
use Rattle.board.specs.View.{view_board}
use Rattle.scoreboard.specs.View.{view_engine}
use Rattle.engine.specs.View.{view_engine as engine-view}
use Rattle.views.proofs.Shows.{stage_same}
use Rattle.views.proofs.stages.stage.Goals as goal

pub returns : goal.returns
unfolding engine-view view_board
returns c = let e = c.args.engine.now in
    c.stage_view.ensures (view_machine e.machine) e.texts (view_held e.table) ∙ stage_same (view_engine e) c.args.index
