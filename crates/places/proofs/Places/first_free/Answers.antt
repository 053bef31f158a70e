use Rattle.std.proofs.Common.{arith}
use Rattle.places.proofs.Marks.{last-free}
use Rattle.places.proofs.Places.first_free.Goals as goal

pub returns : goal.returns
returns c = λ l m k. last-free m k (λ j h. c.loop-i.invariant j (omega (arith, c.loop-i-test.false)))
