use Rattle.flight.proofs.Entries.{queue-pushed}
use Rattle.flight.proofs.Queue.push_back.Goals as goal

pub returns : goal.returns
returns c = queue-pushed c.requires.queue_ok c.requires.queued_ok c.requires.len_bound
