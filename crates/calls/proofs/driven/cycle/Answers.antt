-- By the byte that says which.
use mathlib.Core.Path.{◌≡◌, refl, ap, ap₂, ◌∙◌}
use native.Mathlib.Omega.{arith}
use Rattle.model.specs.Calls.{retry, resolve, advance, fetch, sets}
use Rattle.decoding.specs.Bytes.{byte_at}
use Rattle.answers.specs.Shown.{offer_shown, target_shown, invitation_shown}
use Rattle.answers.specs.Size.{size}
use Rattle.answers.proofs.Told.{answer_length-most}
use Rattle.calls.specs.Play.{lent_of}
use Rattle.calls.proofs.Which.{call-is, here, inside-by}
use Rattle.calls.proofs.Drives.{stays, plays}
use Rattle.calls.proofs.driven.cycle.Goals as goal

pub bounds-list-at : goal.bounds-list-at
bounds-list-at c = here _ _ c.requires.playable.formed

pub put_answer-requires : goal.put_answer-requires
unfolding byte_at size
put_answer-requires c = omega (arith, ap size (call-is c.args.list.now c.args.at c.in-0.is), answer_length-most 43 c.start_cycle.result, c.requires.playable.room)

pub chars_at-requires : goal.chars_at-requires
unfolding byte_at
chars_at-requires c = omega (arith, inside-by _ _ c.requires.playable.formed 2 c.in-2.is)

pub number_at-requires : goal.number_at-requires
unfolding byte_at
number_at-requires c = omega (arith, inside-by _ _ c.requires.playable.formed 3 c.in-3.is)

pub put_answer-requires-in-3 : goal.put_answer-requires-in-3
unfolding byte_at size
put_answer-requires-in-3 c = omega (arith, ap size (call-is c.args.list.now c.args.at c.in-3.is), answer_length-most 8 c.resolve.result, c.requires.playable.room)

pub maybe_number_at-requires : goal.maybe_number_at-requires
unfolding byte_at
maybe_number_at-requires c = omega (arith, inside-by _ _ c.requires.playable.formed 4 c.in-4.is)

pub put_answer-requires-in-4 : goal.put_answer-requires-in-4
unfolding byte_at size
put_answer-requires-in-4 c = omega (arith, ap size (call-is c.args.list.now c.args.at c.in-4.is), answer_length-most 8 c.advance.result, c.requires.playable.room)

pub op_at-requires : goal.op_at-requires
unfolding byte_at
op_at-requires c =
    let e : byte_at c.args.list.now c.args.at ≡ 5 = omega arith in
    omega (arith, inside-by _ _ c.requires.playable.formed 5 e)

pub returns-in-0 : goal.returns-in-0
unfolding byte_at sets
returns-in-0 c = plays _ _ c.in-0.is refl c.start_cycle.ensures (stays _ _ _ refl) refl (c.put_answer.ensures.encoded _ offer_shown) refl

pub returns-in-1 : goal.returns-in-1
unfolding byte_at sets
returns-in-1 c = plays _ _ c.in-1.is refl c.retire.ensures (stays _ _ _ refl) refl c.put_done.ensures refl

pub returns-in-2 : goal.returns-in-2
unfolding byte_at sets
returns-in-2 c = plays _ _ c.in-2.is (ap retry c.chars_at.ensures) c.retry.ensures (stays _ _ _ refl) refl c.put_done-in-2.ensures refl

pub returns-in-3 : goal.returns-in-3
unfolding byte_at sets
returns-in-3 c =
    plays _ _ c.in-3.is (ap resolve c.number_at.ensures) c.resolve.ensures (stays _ _ _ refl) refl (c.put_answer-in-3.ensures.encoded _ target_shown) refl

pub returns-in-4 : goal.returns-in-4
unfolding byte_at lent_of
returns-in-4 c =
    let n = c.requires.lent ∙ ap lent_of (call-is _ _ c.in-4.is) in
    plays _ _ c.in-4.is (ap₂ advance c.maybe_number_at.ensures n) c.advance.ensures.done c.advance.ensures.memory refl
    (c.put_answer-in-4.ensures.encoded _ invitation_shown) refl

pub returns-in_default : goal.returns-in_default
unfolding byte_at lent_of
returns-in_default c =
    let e : byte_at c.args.list.now c.args.at ≡ 5 = omega arith in
    let n = c.requires.lent ∙ ap lent_of (call-is _ _ e) in
    plays _ _ e (ap₂ fetch c.op_at.ensures n) c.fetched.ensures.done c.fetched.ensures.memory refl c.put_done-in_default.ensures refl
