-- The name of the unit's kind, and its number.
use Rattle.std.proofs.Common.{◌≡◌, sym, ◌∙◌, arith, option_map}
use Rattle.std.proofs.lemmas.Grind.{common_steps}
use Rattle.std.proofs.lemmas.Option.{gets}
use Rattle.std.specs.Prelude.{slice_get}
use Rattle.config.specs.View.{view_machine}
use Rattle.bank.specs.View.{slots}
use Rattle.words.proofs.Shown.{wrote-is, wrote_nothing, shown_whole}
use Rattle.requests.proofs.Known.{station_label, station-past}
use Rattle.requests.proofs.named.write_station_label.Goals as goal

pub returns-in_default : goal.returns-in_default
returns-in_default c = λ g.
    let m : option_map (λ x. x.now) c.get.result ≡ slice_get (slots c.args.units.now) c.args.index = grind (arith, common_steps, gets) in
    wrote_nothing _ (station-past c.args.units.now c.args.index m g c.in_default.is (view_machine c.args.machine.now).specs)

pub returns : goal.returns
returns c = λ g.
    let m : option_map (λ x. x.now) c.get.result ≡ slice_get (slots c.args.units.now) c.args.index = grind (arith, common_steps, gets) in
    wrote-is
    (station_label c.args.units.now c.args.index m g c.in-Some.u c.in-Some.is (view_machine c.args.machine.now).specs
    (sym (shown_whole c.spec_name-name.result c.spec_name-name.ensures.fits) ∙ c.spec_name-name.ensures.is))
    c.write_label.ensures
