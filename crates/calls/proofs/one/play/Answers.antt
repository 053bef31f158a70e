-- By the byte that says which.
use native.Mathlib.Omega.{arith}
use Rattle.decoding.specs.Bytes.{byte_at}
use Rattle.calls.proofs.Which.{here}
use Rattle.calls.proofs.Plays.{shown-from, shown-cells, plays-shown, lent-cells, lent-plays}
use Rattle.calls.proofs.one.play.Goals as goal

pub bounds-list-at : goal.bounds-list-at
bounds-list-at c = here _ _ c.requires.playable.formed

pub lent_at-lent-requires : goal.lent_at-lent-requires
lent_at-lent-requires c = c.requires.playable.formed

pub slice_bounds-cycle-end : goal.slice_bounds-cycle-end
slice_bounds-cycle-end c = omega (arith, c.lent_at-lent.ensures, c.requires.playable.lent)

pub slice_bounds-control-end : goal.slice_bounds-control-end
slice_bounds-control-end c = omega (arith, c.lent_at-lent.ensures, c.requires.playable.lent)

pub returns-then-tag-lt6-clause-plays : goal.returns-then-tag-lt6-clause-plays
returns-then-tag-lt6-clause-plays c = lent-plays c.args.cells.now c.lent_at-lent.ensures c.requires.playable.lent c.cycle.ensures

pub returns-then-tag-lt6-clause-memory : goal.returns-then-tag-lt6-clause-memory
returns-then-tag-lt6-clause-memory c = lent-cells c.args.cells.now c.lent_at-lent.ensures c.requires.playable.lent c.cycle.ensures

pub returns-then-tag-lt12-clause-plays : goal.returns-then-tag-lt12-clause-plays
returns-then-tag-lt12-clause-plays c = lent-plays c.args.cells.now c.lent_at-lent.ensures c.requires.playable.lent c.control.ensures

pub returns-then-tag-lt12-clause-memory : goal.returns-then-tag-lt12-clause-memory
returns-then-tag-lt12-clause-memory c = lent-cells c.args.cells.now c.lent_at-lent.ensures c.requires.playable.lent c.control.ensures

pub returns-then-tag-lt39-clause-plays : goal.returns-then-tag-lt39-clause-plays
unfolding byte_at
returns-then-tag-lt39-clause-plays c = plays-shown (shown-from _ _ c.if-tag-lt12.false) c.requires.valid c.show.ensures.is

pub returns-then-tag-lt39-clause-memory : goal.returns-then-tag-lt39-clause-memory
unfolding byte_at
returns-then-tag-lt39-clause-memory c = shown-cells _ _ (shown-from _ _ c.if-tag-lt12.false) _

pub returns-else-tag-lt39-clause-plays : goal.returns-else-tag-lt39-clause-plays
unfolding byte_at
returns-else-tag-lt39-clause-plays c = plays-shown (shown-from _ _ c.if-tag-lt12.false) c.requires.valid (c.tell.ensures _)

pub returns-else-tag-lt39-clause-memory : goal.returns-else-tag-lt39-clause-memory
unfolding byte_at
returns-else-tag-lt39-clause-memory c = shown-cells _ _ (shown-from _ _ c.if-tag-lt12.false) _
