use mathlib.Core.Path.{sym, ◌∙◌}
use lib.ListN.{length}
use Rattle.std.proofs.Common.{rules, arith}
use Rattle.model.specs.Calls.{invitation_of}
use Rattle.board.specs.View.{view_board}
use Rattle.engine.specs.View.{answer_by}
use Rattle.engine.proofs.Does.{does-exit, passes}
use Rattle.advancing.proofs.Advancing.{checked, cycle-open, cells_fit, memory-refused, stopped, memory-stopped, works, memory-works}
use Rattle.advancing.proofs.Working.{any-legend, opened, few-waits, no-redirect, held-same, working, working-memory}
use Rattle.advancing.proofs.advance.Goals as goal

pub returns-in_err-advance-clause-done : goal.returns-in_err-advance-clause-done
returns-in_err-advance-clause-done c e v =
    does-exit v _ c.in_err-advance.was (c.advance.ensures ∙ checked v c.args.redirect (length c.args.cells.now)) (search rules)

pub returns-in_err-advance-clause-memory : goal.returns-in_err-advance-clause-memory
returns-in_err-advance-clause-memory c e v =
    let m = c.args.cells.now in
    memory-refused v c.args.redirect m c.in_err-advance.was (c.advance.ensures ∙ checked v c.args.redirect (length m))

pub returns-then-stops-clause-done : goal.returns-then-stops-clause-done
unfolding answer_by
returns-then-stops-clause-done c e v =
    let m = c.args.cells.now in
    stopped v c.args.redirect m (passes c.in_ok-advance.was (c.advance.ensures ∙ checked v c.args.redirect (length m))) c.close.ensures
    (sym c.stops.ensures ∙ c.if-stops.true)

pub returns-then-stops-clause-memory : goal.returns-then-stops-clause-memory
returns-then-stops-clause-memory c e v =
    let m = c.args.cells.now in
    memory-stopped v c.args.redirect m (passes c.in_ok-advance.was (c.advance.ensures ∙ checked v c.args.redirect (length m))) c.close.ensures
    (sym c.stops.ensures ∙ c.if-stops.true)

pub drop_queued-requires-clause-history_in_bounds : goal.drop_queued-requires-clause-history_in_bounds
drop_queued-requires-clause-history_in_bounds c = cells_fit c.args.board.now _ _ (passes c.in_ok-advance.was c.advance.ensures)

pub redirect-requires-clause-len_bound : goal.redirect-requires-clause-len_bound
redirect-requires-clause-len_bound c =
    few-waits c.requires (cycle-open c.args.board.now _ _ (passes c.in_ok-advance.was c.advance.ensures)) c.close.ensures
    (sym c.stops.ensures ∙ c.if-stops.false)

pub redirect-requires-clause-all : goal.redirect-requires-clause-all
redirect-requires-clause-all c =
    no-redirect c.requires (cycle-open c.args.board.now _ _ (passes c.in_ok-advance.was c.advance.ensures)) c.close.ensures
    (sym c.stops.ensures ∙ c.if-stops.false)

pub step-requires-clause-len_bound : goal.step-requires-clause-len_bound
step-requires-clause-len_bound c =
    let f = few-waits c.requires (cycle-open c.args.board.now _ _ (passes c.in_ok-advance.was c.advance.ensures)) c.close.ensures
    (sym c.stops.ensures ∙ c.if-stops.false) in
    omega (arith, f, c.redirect.ensures.step.few)

pub issue-requires-clause-len_bound : goal.issue-requires-clause-len_bound
issue-requires-clause-len_bound c =
    let f = few-waits c.requires (cycle-open c.args.board.now _ _ (passes c.in_ok-advance.was c.advance.ensures)) c.close.ensures
    (sym c.stops.ensures ∙ c.if-stops.false) in
    omega (arith, f, c.redirect.ensures.step.few, c.step.ensures.step.few)

pub push_queue-requires-clause-tracks_ok : goal.push_queue-requires-clause-tracks_ok
push_queue-requires-clause-tracks_ok c = (c.drop_queued.ensures.tracks any-legend).ok

pub push_queue-requires-clause-history_in_bounds : goal.push_queue-requires-clause-history_in_bounds
push_queue-requires-clause-history_in_bounds c =
    let f = cells_fit c.args.board.now _ _ (passes c.in_ok-advance.was c.advance.ensures) in omega arith

pub push_units-requires-clause-tracks_ok : goal.push_units-requires-clause-tracks_ok
push_units-requires-clause-tracks_ok c = (c.push_queue.ensures.tracks any-legend).ok

pub push_units-requires-clause-history_in_bounds : goal.push_units-requires-clause-history_in_bounds
push_units-requires-clause-history_in_bounds c =
    let f = cells_fit c.args.board.now _ _ (passes c.in_ok-advance.was c.advance.ensures) in omega arith

pub returns-clause-done : goal.returns-clause-done
unfolding answer_by view_board invitation_of
returns-clause-done c e v =
    let m = c.args.cells.now in
    let t = c.args.redirect in
    let q = cycle-open c.args.board.now _ _ (passes c.in_ok-advance.was c.advance.ensures) in
    let cl = c.close.ensures in
    let n = sym c.stops.ensures ∙ c.if-stops.false in
    let d = c.drop_queued.ensures in
    works v t m (passes c.in_ok-advance.was (c.advance.ensures ∙ checked v t (length m))) cl n
    (working v (opened c.requires q cl n) cl c.redirect.ensures c.step.ensures c.issue.ensures c.invite.ensures d.tracks
    c.push_queue.ensures.tracks c.push_units.ensures.tracks d.table (λ x. search rules))

pub returns-clause-memory : goal.returns-clause-memory
returns-clause-memory c e v =
    let m = c.args.cells.now in
    let t = c.args.redirect in
    let q = cycle-open c.args.board.now _ _ (passes c.in_ok-advance.was c.advance.ensures) in
    let cl = c.close.ensures in
    let n = sym c.stops.ensures ∙ c.if-stops.false in
    let d = c.drop_queued.ensures in
    memory-works v t m (passes c.in_ok-advance.was (c.advance.ensures ∙ checked v t (length m))) cl n
    (working-memory v (opened c.requires q cl n) cl c.redirect.ensures c.step.ensures c.issue.ensures c.invite.ensures d.tracks
    c.push_queue.ensures.tracks c.push_units.ensures.tracks d.table m d.memory c.push_queue.ensures.memory c.push_units.ensures.memory)

pub returns-clause-names : goal.returns-clause-names
returns-clause-names c = (held-same c.args.redirect c.args.table.now c.drop_queued.ensures.table).0

pub returns-clause-hints : goal.returns-clause-hints
returns-clause-hints c = (held-same c.args.redirect c.args.table.now c.drop_queued.ensures.table).1
