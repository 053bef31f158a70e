-- Built word by word.
use Rattle.op.specs.Build.{sized, branched}
use Rattle.lines.proofs.reading.plain_op.Goals as goal

pub returns-then-branches : goal.returns-then-branches
unfolding sized branched
returns-then-branches c = rw (c.branching.ensures, c.with_length-op.ensures, c.new.ensures, ← c.branches.ensures, c.if-branches.true)

pub returns-else-branches : goal.returns-else-branches
unfolding sized
returns-else-branches c = rw (c.with_length-op.ensures, c.new.ensures, ← c.branches.ensures, c.if-branches.false)
