use mathlib.Core.Path.{refl}
use Rattle.std.proofs.Common.{rules}
use Rattle.model.specs.Calls.{calls}
use Rattle.model.specs.Scoreboard.{set_enabled}
use Rattle.board.specs.View.{boards}
use Rattle.board.specs.Promises.{placing}
use Rattle.engine.specs.View.{shown}
use Rattle.engine.proofs.Does.{does-taken}
use Rattle.scoreboard.proofs.ScoreboardPipeline.set_enabled.Goals as goal

pub returns : goal.returns
unfolding shown calls set_enabled boards placing
returns c = does-taken c.requires refl (λ m. refl) refl (search rules)
