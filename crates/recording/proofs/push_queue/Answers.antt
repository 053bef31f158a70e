use Rattle.std.proofs.Common.{ℕ, ◌≡◌, sym, ap}
use Rattle.model.specs.Issue.{queue_cell}
use Rattle.flight.specs.View.{view_queued, op_with}
use Rattle.recording.proofs.Pushes.{pushing-next, pushing-tracks, pushing-memory, queue_seen, queue-more, queue-done}
use Rattle.recording.proofs.push_queue.Goals as goal

-- A cell with its byte said otherwise.
cell_byte : {id b k : ℕ} → b ≡ k → ◌≡◌ {A = ℕ × ℕ} (id, b) (id, k)
cell_byte {id} e = ap (λ b. (id, b)) e

pub loop-q-preserved : goal.loop-q-preserved
unfolding queue_cell view_queued op_with
loop-q-preserved c = pushing-next c.loop-q.invariant c.push.ensures.tracks c.push.ensures.memory c.push.auto.cells
    (λ g. queue-more queue_cell c.args.queue.now g (queue_seen c.requires.queue_ok c.as_slice-q-items.ensures _ c.loop-q-test.true g) (cell_byte (sym c.cell.ensures)))

pub returns : goal.returns
returns c =
    let d = queue-done c.requires.queue_ok c.as_slice-q-items.ensures queue_cell c.loop-q-test.false in
    record { tracks = pushing-tracks c.loop-q.invariant d; memory = pushing-memory c.loop-q.invariant d }
