-- The source at the place, and who owes it.
use Rattle.std.proofs.Common.{rules, ◌≡◌, ap, ◌∙◌, None, option_map, arith}
use Rattle.std.proofs.lemmas.Grind.{common_steps}
use Rattle.std.proofs.lemmas.Option.{gets}
use Rattle.units.specs.View.{view_unit}
use Rattle.model.specs.Views.{owed}
use Rattle.inspect.specs.View.{view_operand}
use Rattle.inspect.proofs.Station.{operand-there, operand-past}
use Rattle.inspect.proofs.stations.operand_view.Goals as goal

pub returns-in_err-register : goal.returns-in_err-register
unfolding view_unit
returns-in_err-register c = λ g.
    let e : c.from_residual.result ≡ None = search rules in
    ap (option_map view_operand) e ∙ operand-past (view_unit g c.args.u.now) c.args.slot c.get.result (grind (arith, common_steps, gets)) c.in_err-register.was

pub returns : goal.returns
unfolding view_unit
returns c = λ g.
    operand-there (view_unit g c.args.u.now) c.args.slot c.get.result (grind (arith, common_steps, gets)) c.in_ok-register.field-0 c.owed.result c.in_ok-register.was
    (c.owed.ensures ∙ ap (λ w. owed w c.in_ok-register.field-0.now) c.as_slice.ensures.waits)
