use mathlib.Core.Path.{◌≡◌, ap₂}
use native.Mathlib.Omega.{arith}
use Rattle.model.specs.Requests.{operand_register}
use Rattle.decoding.specs.Bytes.{byte_at}
use Rattle.calls.proofs.Which.{here, known, inside-by, number-there}
use Rattle.calls.proofs.Asks.{asked-at}
use Rattle.calls.proofs.texts.ask_named.Goals as goal

pub overflow_add-at : goal.overflow_add-at
overflow_add-at c = omega (arith, number-there _ _ c.requires.at_value (omega (arith, c.requires.bound)))

pub number_at-i-requires : goal.number_at-i-requires
number_at-i-requires c = omega (arith, number-there _ _ c.requires.at_value (omega (arith, c.requires.bound)))

pub bounds-list-at : goal.bounds-list-at
bounds-list-at c = here _ _ c.requires.at_value

pub overflow_add-at-in_default : goal.overflow_add-at-in_default
unfolding byte_at
overflow_add-at-in_default c =
    let e : byte_at c.args.list.now c.args.at ≡ 48 = omega (arith, known _ _ c.requires.at_value) in
    omega (arith, inside-by _ _ c.requires.at_value 48 (e))

pub number_at-slot-requires : goal.number_at-slot-requires
unfolding byte_at
number_at-slot-requires c =
    let e : byte_at c.args.list.now c.args.at ≡ 48 = omega (arith, known _ _ c.requires.at_value) in
    omega (arith, inside-by _ _ c.requires.at_value 48 (e))

pub returns-in_default : goal.returns-in_default
unfolding byte_at
returns-in_default c =
    let e : byte_at c.args.list.now c.args.at ≡ 48 = omega (arith, known _ _ c.requires.at_value) in
    let t = asked-at _ _ e (ap₂ operand_register c.number_at-i.ensures c.number_at-slot.ensures) _ _ (c.operand_register.ensures.answer, c.operand_register.ensures.buffer) in
    record { answer = t.0; buffer = t.1 }
