use mathlib.Core.Path.{◌≡◌, ap}
use native.Mathlib.Omega.{arith}
use Rattle.model.specs.Calls.{shown_unit, show}
use Rattle.decoding.specs.Calls.{indexed_view}
use Rattle.answers.specs.Size.{size_of_view}
use Rattle.calls.proofs.Shows.{laid_by, room_by}
use Rattle.calls.proofs.shown.show_indexed.Goals as goal

pub put_shown-requires-in-31 : goal.put_shown-requires-in-31
unfolding size_of_view indexed_view
put_shown-requires-in-31 c = room_by (λ t. indexed_view t c.args.index) c.in-31.is _ _ c.requires.index_in_bounds

pub returns-in-31 : goal.returns-in-31
unfolding show indexed_view
returns-in-31 c = laid_by (λ t. indexed_view t c.args.index) c.in-31.is _ (ap shown_unit c.unit.ensures) c.put_shown-in-31.ensures

pub returns-in_default : goal.returns-in_default
unfolding show indexed_view
returns-in_default c =
    let e : c.args.tag ≡ 33 = omega arith in
    laid_by (λ t. indexed_view t c.args.index) e _ c.timeline_row.ensures.answer c.put_shown-in_default.ensures
