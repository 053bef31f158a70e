-- Each of its parts.
use Rattle.std.proofs.Common.{ap, ◌∙◌, option_map}
use Rattle.model.specs.Views.{slot_view}
use Rattle.flight.specs.Pool.{legend}
use Rattle.units.specs.View.{view_unit}
use Rattle.inspect.proofs.Station.{station-is}
use Rattle.inspect.proofs.stations.unit_station.Goals as goal

pub returns : goal.returns
unfolding view_unit
returns c = λ ts ns.
    let g = legend c.args.decoded.now ts ns in
    station-is c.args.index (view_unit g c.args.u.now) c.tag_of.result c.slot.result c.operand_view.result c.operand_view-2.result c.tag_of.ensures
    (c.slot.ensures ts ns ∙ ap (option_map slot_view) (c.shown_op.ensures.is g))
    c.entry_phase.ensures (c.operand_view.ensures g) (c.operand_view-2.ensures g)
