-- The digits behind the text.
use Rattle.traces.proofs.Written.{laid_next}
use Rattle.pages.proofs.put_after.Goals as goal

pub returns : goal.returns
returns c = laid_next c.put-next.ensures c.put_number.ensures
