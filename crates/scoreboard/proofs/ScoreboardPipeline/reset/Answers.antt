use mathlib.Core.Path.{◌≡◌, refl, sym, subst, ap, ◌∙◌}
use mathlib.Core.Bool.{false}
use mathlib.Core.List.{[]}
use native.Mathlib.Omega.{arith}
use lib.ListN.{length}
use borrow.Author.Tests.{ltb-false}
use Rattle.std.proofs.Common.{rules}
use Rattle.std.specs.Prelude.{None, Err}
use Rattle.model.specs.Units.{build_units}
use Rattle.model.specs.State.{Stats, state, marks, offer_of, front_of, log_of}
use Rattle.model.specs.Scoreboard.{reset_to}
use Rattle.model.specs.Calls.{reset, done, short_memory, checks, refusal, run, reply, sets}
use Rattle.config.specs.View.{view_machine}
use Rattle.timeline.specs.View.{from, view_rows, no_rows}
use Rattle.board.specs.View.{view_board}
use Rattle.engine.specs.Engine.{Engine}
use Rattle.engine.specs.View.{view_engine, answer_by}
use Rattle.engine.specs.Calls.{Does}
use Rattle.checks.proofs.Passing.{row-passes}
use Rattle.engine.proofs.Does.{does-taken, memory-set, memory_kept, does-exit}
use Rattle.scoreboard.proofs.Fresh.{emptied, fresh-is, fresh-stats, fresh-parts}
use Rattle.scoreboard.specs.View.{parts}
use Rattle.scoreboard.proofs.ScoreboardPipeline.reset.Goals as goal

pub returns-in_err-short-clause-done : goal.returns-in_err-short-clause-done
unfolding view_engine view_board view_machine refusal checks short_memory
returns-in_err-short-clause-done c =
    let q : c.from_residual.result ≡ Err c.in_err-short.field-0.0 = search rules in does-exit c.requires (λ a. done) c.in_err-short.was c.short.ensures q

pub returns-in_err-short-clause-memory : goal.returns-in_err-short-clause-memory
unfolding view_engine view_board view_machine refusal checks short_memory
returns-in_err-short-clause-memory c =
    let m = c.args.cells.now in
    memory_kept (view_engine (parts c.args.self.now)) (reset c.args.address (length m)) m (sym c.in_err-short.ensures)

pub clear-requires : goal.clear-requires
clear-requires c = ltb-false _ _ (row-passes 13 [] (sym c.in_ok-short.ensures)).0

pub returns-clause-done : goal.returns-clause-done
unfolding view_engine view_board view_machine refusal checks short_memory run reply reset_to view_rows from answer_by
returns-clause-done c =
    let e = parts c.args.self.now in
    let p = c.requires.parts in
    let r = c.renew.ensures in
    let st = r.board.log.stats in
    let k = no_rows e.window.history in
    subst (λ (x : Engine). Does e (reset c.args.address (length c.args.cells.now)) done (emptied x)) (sym r.is)
    (does-taken c.requires (sym c.in_ok-short.ensures) (λ m. refl)
    (fresh-is p r.fresh r.built st k
    ∙ ap
    (λ (a : Stats).
    state (view_machine e.machine) (build_units 0 (view_machine e.machine).specs) [] [] [] (marks false false) (offer_of None false)
    (front_of e.board.front.enabled false false false false c.args.address 0 0)
    (log_of a [] [] None))
    (fresh-stats p r.fresh r.built st k))
    (fresh-parts p r.fresh r.built st k
    (record { few = omega arith; past = omega arith; least = p.window.least; most = p.window.most })
    p.history))

pub returns-clause-memory : goal.returns-clause-memory
unfolding view_engine view_board view_machine refusal checks short_memory sets
returns-clause-memory c =
    let m = c.args.cells.now in
    c.clear.ensures
    ∙ memory-set (view_engine (parts c.args.self.now)) (reset c.args.address (length m)) m (sym c.in_ok-short.ensures)
