use mathlib.Core.Path.{◌≡◌, refl, sym, ap, ◌∙◌}
use mathlib.Core.Bool.{◌||◌}
use mathlib.Core.List.{[]}
use Rattle.std.proofs.Common.{rules}
use Rattle.std.specs.Prelude.{Err}
use Rattle.laws.proofs.Tests.{or-yes-second}
use Rattle.model.specs.State.{State}
use Rattle.model.specs.Write.{stopped, fault}
use Rattle.model.specs.Calls.{done, checks, refusal, run, reply}
use Rattle.board.specs.View.{view_board}
use Rattle.engine.specs.View.{frame_of, view_engine, answer_by}
use Rattle.engine.proofs.Fits.{short-text}
use Rattle.engine.proofs.Does.{does-taken, does-exit}
use Rattle.checks.proofs.Passing.{row-passes}
use Rattle.scoreboard.proofs.Stopping.{stopped-is, stopped-parts}
use Rattle.scoreboard.specs.View.{parts}
use Rattle.scoreboard.proofs.ScoreboardPipeline.fault.Goals as goal

pub returns-in_err-fault : goal.returns-in_err-fault
unfolding refusal checks
returns-in_err-fault c =
    let q : c.from_residual.result ≡ Err c.in_err-fault.field-0.0 = search rules in does-exit c.requires (λ a. done) c.in_err-fault.was c.fault.ensures q

pub fault-requires-2-clause-len_bound : goal.fault-requires-2-clause-len_bound
fault-requires-2-clause-len_bound c = short-text c.args.note (row-passes 2 [] (sym c.in_ok-fault.ensures)).0

pub returns : goal.returns
unfolding view_engine view_board refusal checks run reply stopped fault answer_by
returns c =
    let e = parts c.args.self.now in
    let p = c.requires.parts in
    let after = c.fault-2.ensures in
    does-taken c.requires (sym c.in_ok-fault.ensures) (λ m. refl) (stopped-is p after)
    (stopped-parts p after
    (ap (λ (x : State). x.front.halted || x.front.faulted) (after.is (frame_of e)) ∙ or-yes-second e.board.front.halted refl))
