use Rattle.std.proofs.Common.{refl}
use Rattle.model.specs.Issue.{flushed_cell}
use Rattle.flight.specs.View.{view_queued, op_with}
use Rattle.recording.proofs.Pushes.{pushing-next, pushing-tracks, pushing-memory, queue_seen, queue-more, queue-done}
use Rattle.recording.proofs.push_flushed.Goals as goal

pub loop-q-preserved : goal.loop-q-preserved
unfolding flushed_cell view_queued op_with
loop-q-preserved c = pushing-next c.loop-q.invariant c.push.ensures.tracks c.push.ensures.memory c.push.auto.cells
    (λ g. queue-more flushed_cell c.args.queue.now g (queue_seen c.requires.queue_ok c.as_slice-q-items.ensures _ c.loop-q-test.true g) refl)

pub returns : goal.returns
returns c =
    let d = queue-done c.requires.queue_ok c.as_slice-q-items.ensures flushed_cell c.loop-q-test.false in
    record { tracks = pushing-tracks c.loop-q.invariant d; memory = pushing-memory c.loop-q.invariant d }
