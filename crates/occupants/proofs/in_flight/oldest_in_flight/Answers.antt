-- The oldest busy unit, and the least of the queue behind it.
use Rattle.std.proofs.Common.{arith, ap, ◌∙◌, length}
use Rattle.occupants.proofs.Seen.{slots-length, found_below, busy_ok, flight_busy, flight_queued}
use Rattle.occupants.proofs.in_flight.oldest_in_flight.Goals as goal

pub offset_bounds-items-i : goal.offset_bounds-items-i
offset_bounds-items-i c =
    omega (arith, found_below _ c.oldest_busy.ensures c.in-Some.is, ap length c.as_slice-items.ensures ∙ slots-length c.requires.units_ok, c.requires.units_ok.few)

pub bounds-items-i : goal.bounds-items-i
bounds-items-i c = found_below _ c.oldest_busy.ensures c.in-Some.is

pub op_of-requires : goal.op_of-requires
op_of-requires c = busy_ok c.requires.units_ok c.args.queue.now c.as_slice-items.ensures c.oldest_busy.ensures c.in-Some.is _

pub returns-in-Some : goal.returns-in-Some
returns-in-Some c =
    flight_busy c.requires.units_ok c.args.queue.now c.as_slice-items.ensures c.oldest_busy.ensures c.oldest_queued-queued.ensures c.in-Some.is _
    c.op_of.ensures c.older_op.ensures

pub returns-in-None : goal.returns-in-None
returns-in-None c =
    flight_queued c.requires.units_ok c.args.queue.now c.as_slice-items.ensures c.oldest_busy.ensures c.oldest_queued-queued.ensures c.in-None.is
