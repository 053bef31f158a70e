-- Below 200 cells, and at 200.
use Rattle.std.proofs.Common.{rules, arith}
use Rattle.timeline.proofs.Grows.{grows, scrolls}
use Rattle.timeline.proofs.Track.grow.Goals as goal

pub returns-then-self-lt200 : goal.returns-then-self-lt200
returns-then-self-lt200 c = search (rules, arith, grows)

pub returns-else-self-lt200 : goal.returns-else-self-lt200
returns-else-self-lt200 c = search (rules, arith, scrolls)
