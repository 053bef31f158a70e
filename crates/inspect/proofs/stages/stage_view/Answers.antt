-- The role at the place, and its oldest occupant.
use Rattle.std.proofs.Common.{rules, ◌≡◌, ap, ◌∙◌, None, option_map}
use Rattle.model.specs.Views.{slot_view}
use Rattle.flight.specs.View.{view_queue}
use Rattle.flight.specs.Pool.{legend}
use Rattle.bank.specs.View.{view_units}
use Rattle.occupants.specs.View.{of_parts}
use Rattle.inspect.specs.View.{view_stage}
use Rattle.inspect.proofs.Shown.{stage-there, stage-past}
use Rattle.inspect.proofs.stages.stage_view.Goals as goal

pub returns-in_err-role : goal.returns-in_err-role
returns-in_err-role c = let s = c.args in
    λ m ts ns.
    let g = legend s.decoded.now ts ns in
    let e : c.from_residual.result ≡ None = search rules in
    ap (option_map view_stage) e
    ∙ stage-past (of_parts m (view_units g s.units.now) (view_queue g s.queue.now)) s.index c.role_at.ensures c.in_err-role.was

pub returns : goal.returns
returns c = let s = c.args in
    λ m ts ns.
    let g = legend s.decoded.now ts ns in
    stage-there (of_parts m (view_units g s.units.now) (view_queue g s.queue.now)) s.index c.role_at.ensures c.slot-slot.result c.in_ok-role.was
    (c.slot-slot.ensures ts ns ∙ ap (option_map slot_view) ((c.stage_op.ensures m).is g))
