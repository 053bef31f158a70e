-- It is there, or it is not.
use mathlib.Core.Path.{ap}
use native.Mathlib.Omega.{arith}
use Rattle.std.proofs.Common.{rules}
use Rattle.traces.proofs.Written.{laid_next}
use Rattle.answers.specs.Bytes.{optional, optional_length}
use Rattle.answers.proofs.Laid.{laid_same}
use Rattle.answers.proofs.parts.put_optional.Goals as goal

pub put-next-requires : goal.put-next-requires
unfolding optional_length
put-next-requires g c = omega (arith, ap (optional_length g.T.Put.SIZE) c.in-Some.is, c.requires)

pub put-requires : goal.put-requires
unfolding optional_length
put-requires g c =
    omega (arith, ap (optional_length g.T.Put.SIZE) c.in-Some.is, c.requires, c.put-next.ensures.end, c.put-next.auto.out)

pub put-requires-in-None : goal.put-requires-in-None
unfolding optional_length
put-requires-in-None g c = omega (arith, ap (optional_length g.T.Put.SIZE) c.in-None.is, c.requires)

pub returns-in-Some : goal.returns-in-Some
unfolding optional
returns-in-Some g c = laid_same (laid_next c.put-next.ensures c.put.ensures.laid) (search rules)
