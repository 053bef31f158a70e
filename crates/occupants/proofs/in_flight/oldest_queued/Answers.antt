-- The least of the queue.
use Rattle.std.proofs.Common.{rules, ◌∙◌}
use Rattle.std.proofs.lemmas.Iterator.{YieldsList-from_slice}
use Rattle.flight.specs.View.{entries}
use Rattle.occupants.proofs.Least.{least_from}
use Rattle.occupants.proofs.Seen.{queued_means}
use Rattle.occupants.proofs.in_flight.oldest_queued.Goals as goal

pub returns : goal.returns
returns c = queued_means c.requires
    (c.copied.ensures
    ∙ least_from (λ y. y.now) (λ x. x.seq) (λ x k h p. search rules) c.min_by_key.result c.min_by_key.ensures.ran
    (YieldsList-from_slice (entries c.args.queue.now) cc))
