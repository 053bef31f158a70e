-- The unit at the place.
use Rattle.std.proofs.Common.{rules, ◌≡◌, ap, sym, ◌∙◌, None, Some, arith, option_map}
use Rattle.std.proofs.lemmas.Grind.{common_steps}
use Rattle.std.proofs.lemmas.Option.{gets, slice_get_within}
use Rattle.std.specs.Prelude.{slice_get}
use Rattle.model.specs.Views.{station_view}
use Rattle.flight.specs.Pool.{legend}
use Rattle.units.specs.View.{view_unit, UnitOk}
use Rattle.bank.specs.View.{slots}
use Rattle.occupants.proofs.Seen.{units-get, All-got, slots-ok, slots-length}
use Rattle.inspect.specs.View.{view_station}
use Rattle.inspect.proofs.stations.station_view.Goals as goal

pub returns-in_err-u : goal.returns-in_err-u
returns-in_err-u c = λ ts ns.
    let e : c.from_residual.result ≡ None = search rules in
    let m : option_map (λ x. x.now) c.get.result ≡ slice_get (slots c.args.units.now) c.args.index = grind (arith, common_steps, gets) in
    let g = legend c.args.decoded.now ts ns in
    ap (option_map view_station) e
    ∙ sym
    (ap (option_map (station_view c.args.index)) (units-get c.args.units.now c.args.index c.get.result m g ∙ ap (λ o. option_map (view_unit g) (option_map (λ x. x.now) o)) c.in_err-u.was))

pub unit_station-requires-clause-unit_ok : goal.unit_station-requires-clause-unit_ok
unit_station-requires-clause-unit_ok c =
    let m : option_map (λ x. x.now) c.get.result ≡ slice_get (slots c.args.units.now) c.args.index = grind (arith, common_steps, gets) in
    All-got c.args.units.now c.args.index c.get.result m UnitOk (slots-ok c.requires.units_ok) c.in_ok-u.u c.in_ok-u.was

pub unit_station-requires-clause-index_bound : goal.unit_station-requires-clause-index_bound
unit_station-requires-clause-index_bound c =
    let m : option_map (λ x. x.now) c.get.result ≡ slice_get (slots c.args.units.now) c.args.index = grind (arith, common_steps, gets) in
    let h = slice_get_within (slots c.args.units.now) c.args.index c.in_ok-u.u.now (sym m ∙ ap (option_map (λ x. x.now)) c.in_ok-u.was) in
    omega (arith, h, slots-length c.requires.units_ok, c.requires.units_ok.few)

pub returns : goal.returns
returns c = λ ts ns.
    let m : option_map (λ x. x.now) c.get.result ≡ slice_get (slots c.args.units.now) c.args.index = grind (arith, common_steps, gets) in
    let g = legend c.args.decoded.now ts ns in
    ap Some (c.unit_station.ensures ts ns)
    ∙ sym
    (ap (option_map (station_view c.args.index)) (units-get c.args.units.now c.args.index c.get.result m g ∙ ap (λ o. option_map (view_unit g) (option_map (λ x. x.now) o)) c.in_ok-u.was))
