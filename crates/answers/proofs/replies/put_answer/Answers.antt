-- Asked for, or refused.
use mathlib.Core.Path.{sym, ap, ◌∙◌}
use mathlib.Core.List.{[], ◌∷◌}
use native.Mathlib.Omega.{arith}
use Rattle.answers.specs.Encode.{answer_length}
use Rattle.answers.proofs.Laid.{laid_same}
use Rattle.answers.proofs.Told.{told-asked, told-refused}
use Rattle.answers.proofs.replies.put_answer.Goals as goal

pub put_optional-requires : goal.put_optional-requires
unfolding answer_length
put_optional-requires g c = omega (arith, ap (answer_length g.T.Put.SIZE) c.in-Ok.is, c.requires)

pub put-requires : goal.put-requires
unfolding answer_length
put-requires g c = omega (arith, ap (answer_length g.T.Put.SIZE) c.in-Err.is, c.requires)

pub returns-in-Ok-clause-encoded : goal.returns-in-Ok-clause-encoded
returns-in-Ok-clause-encoded g c = λ f k. laid_same c.put_optional.ensures (told-asked k c.in-Ok.is)

pub returns-in-Err-clause-encoded : goal.returns-in-Err-clause-encoded
returns-in-Err-clause-encoded g c = λ f k. laid_same c.put.ensures (told-refused k c.in-Err.is ∙ sym (ap (λ n. n ∷ []) c.from.ensures))
