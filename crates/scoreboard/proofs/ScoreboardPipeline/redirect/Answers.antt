use mathlib.Core.Path.{refl, sym, subst}
use Rattle.model.specs.Calls.{calls, redirect, done}
use Rattle.model.specs.Scoreboard.{reset_to}
use Rattle.stalls.specs.View.{view_log}
use Rattle.board.specs.View.{boards}
use Rattle.engine.specs.Engine.{Engine}
use Rattle.engine.specs.View.{shown}
use Rattle.engine.specs.Calls.{Does}
use Rattle.engine.proofs.Does.{does-taken}
use Rattle.scoreboard.proofs.Fresh.{recounted, fresh-is, fresh-parts}
use Rattle.scoreboard.specs.View.{parts}
use Rattle.scoreboard.proofs.ScoreboardPipeline.redirect.Goals as goal

pub returns : goal.returns
unfolding shown calls reset_to boards view_log
returns c =
    let e = parts c.args.self.now in
    let p = c.requires.parts in
    let r = c.renew.ensures in
    let st = e.board.log.stats in
    subst (λ (x : Engine). Does e (redirect c.args.address) done (recounted st x)) (sym r.is)
    (does-taken c.requires refl (λ m. refl) (fresh-is p r.fresh r.built st e.window)
    (fresh-parts p r.fresh r.built st e.window p.window p.history))
