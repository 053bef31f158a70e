use mathlib.Core.Path.{refl, ap}
use mathlib.Core.Bool.{◌||◌}
use Rattle.model.specs.State.{State}
use Rattle.model.specs.Write.{stopped, halt}
use Rattle.model.specs.Calls.{calls}
use Rattle.board.specs.View.{view_board}
use Rattle.engine.specs.View.{frame_of, view_engine}
use Rattle.engine.proofs.Does.{does-taken}
use Rattle.scoreboard.proofs.Stopping.{stopped-is, stopped-parts}
use Rattle.scoreboard.specs.View.{parts}
use Rattle.scoreboard.proofs.ScoreboardPipeline.halt.Goals as goal

pub returns : goal.returns
unfolding view_engine view_board calls stopped halt
returns c =
    let p = c.requires.parts in
    let after = c.halt.ensures in
    does-taken c.requires refl (λ m. refl) (stopped-is p after)
    (stopped-parts p after (ap (λ (x : State). x.front.halted || x.front.faulted) (after.is (frame_of (parts c.args.self.now)))))
