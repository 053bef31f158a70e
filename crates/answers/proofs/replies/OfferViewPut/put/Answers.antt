-- By its parts.
use Rattle.std.proofs.Common.{rules}
use Rattle.traces.proofs.Written.{laid_next}
use Rattle.engine.specs.View.{view_offer}
use Rattle.answers.specs.Bytes.{flag_byte, offer_bytes}
use Rattle.answers.proofs.Laid.{laid_same}
use Rattle.answers.proofs.replies.OfferViewPut.put.Goals as goal

pub returns-clause-laid : goal.returns-clause-laid
unfolding flag_byte offer_bytes view_offer
returns-clause-laid c =
    laid_same
    (laid_next c.put-a.ensures.laid
    (laid_next c.put-b.ensures.laid
    (laid_next c.put-c.ensures.laid (laid_next c.put-d.ensures (laid_next c.put-e.ensures.laid c.put.ensures.laid)))))
    (search rules)
