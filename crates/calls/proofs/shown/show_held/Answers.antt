use mathlib.Core.Path.{◌≡◌, ap}
use native.Mathlib.Omega.{arith}
use Rattle.model.specs.Calls.{shown_slot, show}
use Rattle.decoding.specs.Calls.{indexed_view}
use Rattle.answers.specs.Size.{size_of_view}
use Rattle.calls.proofs.Shows.{laid_by, room_by}
use Rattle.calls.proofs.shown.show_held.Goals as goal

pub put_shown-requires-in_default : goal.put_shown-requires-in_default
unfolding size_of_view indexed_view
put_shown-requires-in_default c =
    let e : c.args.tag ≡ 37 = omega arith in
    room_by (λ t. indexed_view t c.args.index) e _ _ c.requires.index_in_bounds

pub returns-in_default : goal.returns-in_default
unfolding show indexed_view
returns-in_default c =
    let e : c.args.tag ≡ 37 = omega arith in
    laid_by (λ t. indexed_view t c.args.index) e _ (ap shown_slot c.buffer_entry.ensures) c.put_shown-in_default.ensures
