use Prim.Native.Nat.{◌<◌}
use native.Mathlib.Omega.{arith}
use lib.ListN.{get_or}
use Rattle.decoding.specs.Bytes.{byte_at}
use Rattle.answers.specs.Size.{size}
use Rattle.calls.proofs.Which.{here, number-there}
use Rattle.calls.proofs.Shows.{plain_at, indexed-at, view-laid, room-is}
use Rattle.calls.proofs.shown.show.Goals as goal

pub bounds-list-at : goal.bounds-list-at
bounds-list-at c = here _ _ c.requires.playable.formed

pub show_plain-requires : goal.show_plain-requires
unfolding byte_at size
show_plain-requires c =
    let k = c.if-tag-lt29.true in
    record { valid = c.requires.valid; le_tag = c.requires.bound; tag_bound = k; tag_in_bounds = room-is _ _ (plain_at _ _ c.requires.bound k) c.requires.playable.room }

pub returns-then-tag-lt29 : goal.returns-then-tag-lt29
unfolding byte_at
returns-then-tag-lt29 c = view-laid _ _ _ _ (plain_at _ _ c.requires.bound c.if-tag-lt29.true) c.show_plain.ensures

pub show_cell-requires : goal.show_cell-requires
unfolding byte_at
show_cell-requires c = record { valid = c.requires.valid; playable = c.requires.playable; at_value = c.if-tag-eq38.true }

pub number_at-index-requires : goal.number_at-index-requires
unfolding byte_at
number_at-index-requires c = omega (arith, number-there _ _ c.requires.playable.formed c.if-tag-lt29.false)

pub show_indexed-requires : goal.show_indexed-requires
unfolding byte_at size
show_indexed-requires c =
    let low = c.if-tag-lt29.false in
    let top : get_or c.args.list.now c.args.at 0 < 38 = omega (arith, c.if-tag-lt34.true) in
    record { valid = c.requires.valid; le_tag = low; tag_bound = c.if-tag-lt34.true; index_in_bounds = room-is _ _ (indexed-at _ _ c.number_at-index.ensures low top) c.requires.playable.room }

pub returns-then-tag-lt34 : goal.returns-then-tag-lt34
unfolding byte_at
returns-then-tag-lt34 c =
    let low = c.if-tag-lt29.false in
    let top : get_or c.args.list.now c.args.at 0 < 38 = omega (arith, c.if-tag-lt34.true) in
    view-laid _ _ _ _ (indexed-at _ _ c.number_at-index.ensures low top) c.show_indexed.ensures

pub show_held-requires : goal.show_held-requires
unfolding byte_at size
show_held-requires c =
    let low = c.if-tag-lt29.false in
    let top : get_or c.args.list.now c.args.at 0 < 38 = omega (arith, c.requires.at_bound, c.if-tag-eq38.false) in
    record { valid = c.requires.valid; le_tag = c.if-tag-lt34.false; tag_bound = top; index_in_bounds = room-is _ _ (indexed-at _ _ c.number_at-index.ensures low top) c.requires.playable.room }

pub returns : goal.returns
unfolding byte_at
returns c =
    let low = c.if-tag-lt29.false in
    let top : get_or c.args.list.now c.args.at 0 < 38 = omega (arith, c.requires.at_bound, c.if-tag-eq38.false) in
    view-laid _ _ _ _ (indexed-at _ _ c.number_at-index.ensures low top) c.show_held.ensures
