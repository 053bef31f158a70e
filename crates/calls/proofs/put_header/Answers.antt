-- A byte and two numbers, one behind the other.
use native.Mathlib.Omega.{arith}
use Rattle.traces.proofs.Written.{laid_next}
use Rattle.calls.proofs.Drives.{done_size}
use Rattle.calls.proofs.put_header.Goals as goal

pub put-b-requires : goal.put-b-requires
put-b-requires c = omega (arith, c.put_done-a.ensures.end, done_size c.args.made)

pub put-requires : goal.put-requires
put-requires c = omega (arith, c.put_done-a.ensures.end, c.put-b.ensures.next, done_size c.args.made)

pub returns : goal.returns
returns c = (laid_next c.put_done-a.ensures (laid_next c.put-b.ensures.laid c.put.ensures.laid)).is
