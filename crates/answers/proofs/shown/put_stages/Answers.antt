-- 0, and the list.
use Rattle.traces.proofs.Written.{laid_next}
use Rattle.answers.specs.Encode.{encode}
use Rattle.answers.proofs.shown.put_stages.Goals as goal

pub returns : goal.returns
unfolding encode
returns c = laid_next c.put-next.ensures c.put.ensures
