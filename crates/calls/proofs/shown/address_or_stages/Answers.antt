use mathlib.Core.Path.{◌≡◌, ap}
use native.Mathlib.Omega.{arith}
use Rattle.model.specs.Calls.{shown_number, show}
use Rattle.decoding.specs.Calls.{plain_view}
use Rattle.calls.proofs.Shows.{shown_by}
use Rattle.calls.proofs.shown.address_or_stages.Goals as goal

pub returns-in_default : goal.returns-in_default
unfolding show plain_view
returns-in_default c =
    let e : c.args.tag ≡ 17 = omega arith in
    shown_by plain_view e _ (ap shown_number c.stage_count.ensures)
