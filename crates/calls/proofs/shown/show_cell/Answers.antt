-- The first bytes of the cell memory are lent.
use mathlib.Core.Path.{◌≡◌, sym, ap, ap₂, ◌∙◌}
use mathlib.Core.List.{List}
use native.Mathlib.Omega.{arith}
use Prim.Native.Nat.{ℕ, ◌+◌, ◌≤◌}
use lib.ListN.{length, take}
use lib.Seq.{length-take-le}
use Rattle.model.specs.Calls.{Call, cell, answer}
use Rattle.scoreboard.specs.View.{view_engine}
use Rattle.decoding.specs.Bytes.{byte_at, number_at}
use Rattle.decoding.specs.Calls.{call_at}
use Rattle.answers.specs.Encode.{encode}
use Rattle.answers.specs.Size.{size}
use Rattle.answers.proofs.Laid.{laid_of}
use Rattle.calls.specs.Play.{lent_of}
use Rattle.calls.proofs.Which.{call-is, inside-by, lent_by}
use Rattle.calls.proofs.Drives.{answers-at}
use Rattle.calls.proofs.shown.show_cell.Goals as goal

-- The number that was read is how many.
lent-here : (l : List ℕ) (at : ℕ) {n : ℕ} → byte_at l at ≡ 38 → n ≡ number_at l (at + 17) → n ≡ lent_of (call_at l at)
unfolding lent_of
lent-here l at e q = q ∙ sym (lent_by l at 38 e (omega arith))

pub overflow_add-at : goal.overflow_add-at
overflow_add-at c = omega (arith, inside-by _ _ c.requires.playable.formed 38 c.requires.at_value)

pub number_at-row-requires : goal.number_at-row-requires
number_at-row-requires c = omega (arith, inside-by _ _ c.requires.playable.formed 38 c.requires.at_value)

pub overflow_add-at-2 : goal.overflow_add-at-2
overflow_add-at-2 c = omega (arith, inside-by _ _ c.requires.playable.formed 38 c.requires.at_value)

pub number_at-index-requires : goal.number_at-index-requires
number_at-index-requires c = omega (arith, inside-by _ _ c.requires.playable.formed 38 c.requires.at_value)

pub overflow_add-at-3 : goal.overflow_add-at-3
overflow_add-at-3 c = omega (arith, inside-by _ _ c.requires.playable.formed 38 c.requires.at_value)

pub number_at-n-requires : goal.number_at-n-requires
number_at-n-requires c = omega (arith, inside-by _ _ c.requires.playable.formed 38 c.requires.at_value)

pub slice_bounds-timeline_cell-end : goal.slice_bounds-timeline_cell-end
slice_bounds-timeline_cell-end c =
    let most : c.number_at-n.result ≤ length c.args.cells.now =
    omega (arith, lent-here _ _ c.requires.at_value c.number_at-n.ensures, c.requires.playable.lent) in
    sym (length-take-le _ _ most)

pub put_cell_answer-requires : goal.put_cell_answer-requires
unfolding size
put_cell_answer-requires c = omega (arith, ap size (call-is c.args.list.now c.args.at c.requires.at_value), c.requires.playable.room)

pub returns : goal.returns
returns c =
    let g = lent-here _ _ c.requires.at_value c.number_at-n.ensures in
    let most : c.number_at-n.result ≤ length c.args.cells.now = omega (arith, g, c.requires.playable.lent) in
    let n = length-take-le _ c.args.cells.now most ∙ c.number_at-n.ensures in
    let is = ap₂ (λ (f : ℕ → Call) k. f k) (ap₂ (λ r i k. cell r i k) c.number_at-row.ensures c.number_at-index.ensures) n in
    laid_of encode
    (ap (λ j. answer (view_engine c.args.engine.now) (take j c.args.cells.now) (call_at c.args.list.now c.args.at)) (sym g)
    ∙ answers-at _ _ c.requires.at_value is _ _
    ∙ sym c.timeline_cell.ensures)
    c.put_cell_answer.ensures
