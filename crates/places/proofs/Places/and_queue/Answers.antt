use Rattle.std.proofs.Common.{arith, ap, length}
use Rattle.flight.proofs.Entries.{entries-length}
use Rattle.places.proofs.Marks.{entry_seen, entry_place, mark-there, queue_places-length, marking-next, marking-last}
use Rattle.places.proofs.Places.and_queue.Goals as goal

pub bounds-self-op : goal.bounds-self-op
bounds-self-op c = mark-there (entry_place c.requires.queue_ok _ c.as_slice-op-items.ensures c.loop-op-test.true)

pub loop-op-preserved : goal.loop-op-preserved
loop-op-preserved c =
    let ok = c.requires.queue_ok in
    marking-next c.loop-op.invariant (entry_seen ok _ c.as_slice-op-items.ensures c.loop-op-test.true)
    (entry_place ok _ c.as_slice-op-items.ensures c.loop-op-test.true)

pub returns : goal.returns
returns c =
    let ok = c.requires.queue_ok in
    marking-last c.loop-op.invariant (omega (arith, queue_places-length ok, ap length c.as_slice-op-items.ensures, entries-length ok, c.loop-op-test.false))
