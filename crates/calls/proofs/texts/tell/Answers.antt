use native.Mathlib.Omega.{arith}
use Rattle.decoding.proofs.Script.{formed-is}
use Rattle.calls.proofs.Room.{size-text, room-there}
use Rattle.calls.proofs.Tells.{front-there, told_at}
use Rattle.calls.proofs.texts.tell.Goals as goal

pub room_at-n-requires : goal.room_at-n-requires
room_at-n-requires c = record { at_in_bounds = (formed-is _ _ c.requires.at_value).inside; bound = room-there _ _ c.requires.at_value c.requires.bound }

pub overflow_add-end : goal.overflow_add-end
overflow_add-end c = omega (arith, size-text _ _ c.requires.bound, c.room_at-n.ensures, c.requires.at_in_bounds)

pub put_written-requires : goal.put_written-requires
put_written-requires c = front-there _ c.args.out.now _ (omega (arith, size-text _ _ c.requires.bound, c.requires.at_in_bounds))

pub slice_bounds-ask-end : goal.slice_bounds-ask-end
slice_bounds-ask-end c = omega (arith, size-text _ _ c.requires.bound, c.room_at-n.ensures, c.requires.at_in_bounds)

pub returns : goal.returns
returns c =
    told_at _ _ c.requires.bound c.args.out.now c.args.b c.room_at-n.ensures c.requires.at_in_bounds _ c.ask-w.auto.out
    (c.ask-w.ensures.answer, c.ask-w.ensures.buffer) c.put_written.ensures
