-- The digits are the end of the array.
use Rattle.laws.specs.Texts.{decimal}
use Rattle.pages.proofs.Laid.{laid_as, digits-part}
use Rattle.pages.proofs.put_number.Goals as goal

pub returns : goal.returns
unfolding decimal
returns c = laid_as (digits-part c.digits_of-digits.ensures) c.put.ensures
