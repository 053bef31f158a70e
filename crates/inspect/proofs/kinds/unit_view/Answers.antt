-- The kind's own numbers, and its oldest unit at work.
use Rattle.std.proofs.Common.{ap, ◌∙◌, option_map, [], get_or}
use Rattle.model.specs.Units.{unit_op}
use Rattle.model.specs.Views.{slot_view, working, shown_class}
use Rattle.config.specs.View.{view_spec, view_machine}
use Rattle.config.proofs.Machines.{spare}
use Rattle.flight.specs.Pool.{legend}
use Rattle.bank.specs.View.{view_units}
use Rattle.occupants.specs.View.{of_parts}
use Rattle.inspect.proofs.Shown.{kinds-nth, kinds-past, kind-there, kind-past}
use Rattle.inspect.proofs.kinds.unit_view.Goals as goal

pub returns-then-machine-index : goal.returns-then-machine-index
returns-then-machine-index c = λ ts ns.
    kind-past (of_parts (view_machine c.args.machine.now) (view_units (legend c.args.decoded.now ts ns) c.args.units.now) []) c.args.index
    (kinds-past c.requires.machine_ok c.if-machine-index.true)

pub returns : goal.returns
unfolding working
returns c = λ ts ns.
    let g = legend c.args.decoded.now ts ns in
    let w = c.of_kind-working.ensures.is g in
    kind-there (of_parts (view_machine c.args.machine.now) (view_units g c.args.units.now) []) c.args.index (get_or c.args.machine.now.specs c.args.index spare) c.slot.result
    (kinds-nth c.requires.machine_ok c.if-machine-index.false)
    (c.active.ensures g)
    (c.slot.ensures ts ns ∙ ap (option_map slot_view) (c.held.ensures.is g ∙ ap (option_map unit_op) w))
    (c.shown_class-class.ensures g ∙ ap (λ o. shown_class o (view_spec (get_or c.args.machine.now.specs c.args.index spare))) w)
    c.latency.ensures
