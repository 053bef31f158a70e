use Rattle.model.specs.Issue.{queue_cell}
use Rattle.recording.proofs.Pushes.{Pushing, queue-left}
use Rattle.recording.proofs.push_queue.Given as goal

abbrev pub invariant-loop-q : goal.invariant-loop-q
invariant-loop-q l = Pushing (queue-left queue_cell l.queue) l.window l.initial.tracks l.initial.cells l.tracks l.cells l.q-index
