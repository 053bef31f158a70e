-- By the byte that says which.
use mathlib.Core.Path.{◌≡◌, refl, ap, ap₂, ◌∙◌}
use native.Mathlib.Omega.{arith}
use Rattle.model.specs.Calls.{capacity, overlap, fault, reset, redirect, sets}
use Rattle.engine.specs.View.{answer_by}
use Rattle.decoding.specs.Bytes.{byte_at}
use Rattle.calls.specs.Play.{lent_of}
use Rattle.calls.proofs.Which.{call-is, here, inside-by}
use Rattle.calls.proofs.Drives.{stays, plays}
use Rattle.calls.proofs.driven.control.Goals as goal

pub bounds-list-at : goal.bounds-list-at
bounds-list-at c = here _ _ c.requires.playable.formed

pub number_at-kind-requires : goal.number_at-kind-requires
unfolding byte_at
number_at-kind-requires c = omega (arith, inside-by _ _ c.requires.playable.formed 6 c.in-6.is)

pub number_at-requires : goal.number_at-requires
unfolding byte_at
number_at-requires c = omega (arith, inside-by _ _ c.requires.playable.formed 6 c.in-6.is)

pub flag_at-requires : goal.flag_at-requires
unfolding byte_at
flag_at-requires c = omega (arith, inside-by _ _ c.requires.playable.formed 7 c.in-7.is)

pub chars_at-requires : goal.chars_at-requires
unfolding byte_at
chars_at-requires c = omega (arith, inside-by _ _ c.requires.playable.formed 9 c.in-9.is)

pub number_at-requires-in-10 : goal.number_at-requires-in-10
unfolding byte_at
number_at-requires-in-10 c = omega (arith, inside-by _ _ c.requires.playable.formed 10 c.in-10.is)

pub overflow_add-at-in_default : goal.overflow_add-at-in_default
unfolding byte_at
overflow_add-at-in_default c =
    let e : byte_at c.args.list.now c.args.at ≡ 11 = omega arith in
    omega (arith, inside-by _ _ c.requires.playable.formed 11 e)

pub number_at-requires-in_default : goal.number_at-requires-in_default
unfolding byte_at
number_at-requires-in_default c =
    let e : byte_at c.args.list.now c.args.at ≡ 11 = omega arith in
    omega (arith, inside-by _ _ c.requires.playable.formed 11 e)

pub returns-in-6 : goal.returns-in-6
unfolding byte_at sets
returns-in-6 c =
    plays _ _ c.in-6.is (ap₂ capacity c.number_at-kind.ensures c.number_at.ensures) c.set_capacity.ensures (stays _ _ _ refl) refl c.put_done.ensures refl

pub returns-in-7 : goal.returns-in-7
unfolding byte_at sets answer_by
returns-in-7 c = plays _ _ c.in-7.is (ap overlap c.flag_at.ensures) c.set_enabled.ensures (stays _ _ _ refl) refl c.put_done-in-7.ensures refl

pub returns-in-8 : goal.returns-in-8
unfolding byte_at sets answer_by
returns-in-8 c = plays _ _ c.in-8.is refl c.halt.ensures (stays _ _ _ refl) refl c.put_done-in-8.ensures refl

pub returns-in-9 : goal.returns-in-9
unfolding byte_at sets
returns-in-9 c = plays _ _ c.in-9.is (ap fault c.chars_at.ensures) c.fault.ensures (stays _ _ _ refl) refl c.put_done-in-9.ensures refl

pub returns-in-10 : goal.returns-in-10
unfolding byte_at lent_of
returns-in-10 c =
    let n = c.requires.lent ∙ ap lent_of (call-is _ _ c.in-10.is) in
    plays _ _ c.in-10.is (ap₂ reset c.number_at-in-10.ensures n) c.reset.ensures.done c.reset.ensures.memory refl c.put_done-in-10.ensures refl

pub returns-in_default : goal.returns-in_default
unfolding byte_at sets answer_by
returns-in_default c =
    let e : byte_at c.args.list.now c.args.at ≡ 11 = omega arith in
    plays _ _ e (ap redirect c.number_at-in_default.ensures) c.redirect.ensures (stays _ _ _ refl) refl c.put_done-in_default.ensures refl
