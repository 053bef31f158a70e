use Rattle.places.specs.Places.{queue_places}
use Rattle.places.proofs.Marks.{Marking}
use Rattle.places.proofs.Places.and_queue.Given as goal

abbrev pub invariant-loop-op : goal.invariant-loop-op
invariant-loop-op l = Marking (queue_places l.queue) l.queue.len l.initial.self l.self l.op-index
