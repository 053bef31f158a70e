use Rattle.std.proofs.Common.{arith}
use Rattle.flight.proofs.Entries.{popped, popped-none}
use Rattle.flight.proofs.Queue.pop_front.Goals as goal

pub returns-then-self-ne0 : goal.returns-then-self-ne0
returns-then-self-ne0 c = popped c.requires c.copy_within.ensures.after c.if-self-ne0.true

pub returns-else-self-ne0 : goal.returns-else-self-ne0
returns-else-self-ne0 c = popped-none c.requires (omega arith)
