-- The wait at the place.
use Rattle.std.proofs.Common.{rules, ◌≡◌, ap, ◌∙◌, None, option_map, arith}
use Rattle.std.proofs.lemmas.Grind.{common_steps}
use Rattle.std.proofs.lemmas.Option.{gets}
use Rattle.inspect.specs.View.{view_trace}
use Rattle.inspect.proofs.Shown.{wait-there, wait-past}
use Rattle.inspect.proofs.waits.trace_view.Goals as goal

pub returns-in_err-t : goal.returns-in_err-t
returns-in_err-t c = λ f.
    let e : c.from_residual.result ≡ None = search rules in
    ap (option_map view_trace) e ∙ wait-past f c.args.list.now c.args.index c.get.result (grind (arith, common_steps, gets)) c.in_err-t.was

pub returns : goal.returns
returns c = λ f.
    wait-there f c.args.list.now c.args.index c.get.result (grind (arith, common_steps, gets)) c.in_ok-t.t c.in_ok-t.was c.kind_of.ensures c.from_of.ensures c.to_of.ensures
