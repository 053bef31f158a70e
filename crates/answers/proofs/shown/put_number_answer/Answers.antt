-- 0, and the number.
use Rattle.traces.proofs.Written.{laid_next}
use Rattle.answers.specs.Encode.{encode}
use Rattle.answers.proofs.shown.put_number_answer.Goals as goal

pub returns : goal.returns
unfolding encode
returns c = laid_next c.put-next.ensures c.put.ensures.laid
