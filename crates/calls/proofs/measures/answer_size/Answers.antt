-- A table of the calls 0 to 38; a text goes by its room.
use mathlib.Core.Path.{sym, ap, ◌∙◌}
use Prim.Native.Nat.{◌+◌}
use native.Mathlib.Omega.{arith}
use Rattle.decoding.specs.Bytes.{byte_at}
use Rattle.decoding.proofs.Script.{formed-is}
use Rattle.answers.specs.Size.{size_of_view, size}
use Rattle.calls.proofs.Which.{told_below, here}
use Rattle.calls.proofs.Room.{size-text, room-there, room_small}
use Rattle.calls.proofs.measures.answer_size.Goals as goal

pub bounds-list-at : goal.bounds-list-at
bounds-list-at c = here c.args.list.now c.args.at c.requires

pub returns-then-n-lt39 : goal.returns-then-n-lt39
unfolding size size_of_view byte_at
returns-then-n-lt39 c = sym (told_below size c.args.list.now c.args.at 0 c.if-n-lt39.true)

pub room_at-requires : goal.room_at-requires
unfolding byte_at
room_at-requires c = record { at_in_bounds = (formed-is _ _ c.requires).inside; bound = room-there c.args.list.now c.args.at c.requires c.if-n-lt39.false }

pub overflow_add-result : goal.overflow_add-result
unfolding byte_at
overflow_add-result c = omega (arith, c.room_at.ensures, room_small c.args.list.now c.args.at c.requires c.if-n-lt39.false)

pub returns : goal.returns
unfolding byte_at
returns c = ap (λ n. 10 + n) c.room_at.ensures ∙ sym (size-text c.args.list.now c.args.at c.if-n-lt39.false)
