use mathlib.Core.Path.{◌≡◌, refl, sym}
use Rattle.std.proofs.Common.{rules}
use Rattle.std.specs.Prelude.{Err}
use Rattle.model.specs.Scoreboard.{with_noted}
use Rattle.model.specs.Calls.{done, checks, refusal, run, reply}
use Rattle.config.specs.View.{view_machine}
use Rattle.config.specs.Checks.{noted_specs}
use Rattle.board.specs.View.{view_board}
use Rattle.engine.specs.View.{view_engine, answer_by}
use Rattle.engine.proofs.Does.{does-taken, does-exit}
use Rattle.engine.proofs.Boards.{no_offer-outside}
use Rattle.scoreboard.proofs.Capacity.{capacity-free, noted-is, noted-parts}
use Rattle.scoreboard.specs.View.{parts}
use Rattle.scoreboard.proofs.ScoreboardPipeline.set_capacity.Goals as goal

pub returns-in_err-capacity : goal.returns-in_err-capacity
unfolding view_engine view_board refusal checks with_noted noted_specs
returns-in_err-capacity c =
    let q : c.from_residual.result ≡ Err c.in_err-capacity.field-0.0 = search rules in
    does-exit c.requires (λ a. done) c.in_err-capacity.was c.capacity.ensures q

pub note-requires-clause-self_value : goal.note-requires-clause-self_value
note-requires-clause-self_value c =
    let e = parts c.args.self.now in
    (capacity-free e.board.front.in_cycle c.args.kind c.args.instances (view_machine e.machine).specs (sym c.in_ok-capacity.ensures)).1

pub returns : goal.returns
unfolding view_engine view_board refusal checks run reply with_noted noted_specs answer_by
returns c =
    let e = parts c.args.self.now in
    let p = c.requires.parts in
    let kind = c.args.kind in
    let n = c.args.instances in
    let free = sym c.in_ok-capacity.ensures in
    let outside = (capacity-free e.board.front.in_cycle kind n (view_machine e.machine).specs free).0 in
    does-taken c.requires free (λ m. refl)
    (noted-is p kind n c.note.ensures c.rebuild.ensures)
    (noted-parts p kind n c.note.ensures c.rebuild.ensures (no_offer-outside c.requires outside) outside)
