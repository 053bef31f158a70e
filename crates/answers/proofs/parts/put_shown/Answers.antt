-- By the laws.
use native.Mathlib.Omega.{arith}
use Rattle.answers.proofs.Laid.{laid_same}
use Rattle.answers.proofs.Told.{encoded, optional_length-most}
use Rattle.answers.proofs.parts.put_shown.Goals as goal

pub put_optional-requires : goal.put_optional-requires
put_optional-requires g c = omega (arith, optional_length-most g.T.Put.SIZE c.args.value, c.requires)

pub returns : goal.returns
returns g c = laid_same c.put_optional.ensures (encoded g.met.T.Shown.laws c.args.value)
