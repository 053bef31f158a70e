use mathlib.Core.Path.{◌≡◌, ap}
use native.Mathlib.Omega.{arith}
use Rattle.model.specs.Requests.{trace_detail, stage_name, text_at}
use Rattle.decoding.specs.Bytes.{byte_at}
use Rattle.calls.proofs.Which.{here, inside-by, number-there}
use Rattle.calls.proofs.Asks.{asked-at}
use Rattle.calls.proofs.texts.ask_shown.Goals as goal

pub overflow_add-at : goal.overflow_add-at
overflow_add-at c = omega (arith, number-there _ _ c.requires.at_value (omega (arith, c.requires.bound)))

pub number_at-i-requires : goal.number_at-i-requires
number_at-i-requires c = omega (arith, number-there _ _ c.requires.at_value (omega (arith, c.requires.bound)))

pub bounds-list-at : goal.bounds-list-at
bounds-list-at c = here _ _ c.requires.at_value

pub place_at-place-requires : goal.place_at-place-requires
unfolding byte_at
place_at-place-requires c = omega (arith, inside-by _ _ c.requires.at_value 40 c.in-40.is)

pub field_at-field-requires : goal.field_at-field-requires
unfolding byte_at
field_at-field-requires c = omega (arith, inside-by _ _ c.requires.at_value 40 c.in-40.is)

pub returns-in-41 : goal.returns-in-41
unfolding byte_at
returns-in-41 c =
    let t = asked-at _ _ c.in-41.is (ap trace_detail c.number_at-i.ensures) _ _ (c.trace_detail.ensures.answer, c.trace_detail.ensures.buffer) in
    record { answer = t.0; buffer = t.1 }

pub returns-in_default : goal.returns-in_default
unfolding byte_at text_at
returns-in_default c =
    let e : byte_at c.args.list.now c.args.at ≡ 43 = omega arith in
    let t = asked-at _ _ e (ap stage_name c.number_at-i.ensures) _ _ (c.stage_name.ensures.answer, c.stage_name.ensures.buffer _) in
    record { answer = t.0; buffer = t.1 }
