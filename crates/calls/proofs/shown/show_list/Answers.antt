use mathlib.Core.Path.{◌≡◌, ap}
use native.Mathlib.Omega.{arith}
use Rattle.model.specs.Calls.{shown_stages, show}
use Rattle.decoding.specs.Calls.{plain_view}
use Rattle.calls.proofs.Shows.{laid_by}
use Rattle.calls.proofs.shown.show_list.Goals as goal

pub returns-in_default : goal.returns-in_default
unfolding show plain_view
returns-in_default c = let e : c.args.tag ≡ 20 = omega arith in
    laid_by plain_view e _ (ap shown_stages c.stage_order.ensures) c.put_stages-in_default.ensures
