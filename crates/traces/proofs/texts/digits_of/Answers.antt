-- The digits from the last on; 20 are enough.
use mathlib.Core.Path.{refl, ◌∙◌}
use native.Mathlib.Omega.{arith}
use lib.ListN.{length-set}
use Rattle.laws.proofs.Digits.{digits-first, digits-room, digits-next, digits_last}
use Rattle.traces.proofs.Written.{twenty-digits}
use Rattle.traces.proofs.texts.digits_of.Goals as goal

pub loop-x-init : goal.loop-x-init
loop-x-init c = digits-first (omega arith) refl (twenty-digits c.requires.0 (omega arith))

pub overflow_sub-at : goal.overflow_sub-at
overflow_sub-at c = omega (arith, digits-room c.loop-x.invariant c.loop-x-test.true)

pub loop-x-smaller : goal.loop-x-smaller
loop-x-smaller c = omega (arith, digits-room c.loop-x.invariant c.loop-x-test.true)

pub loop-x-preserved : goal.loop-x-preserved
loop-x-preserved c = digits-next c.loop-x.invariant c.digit_of.ensures refl c.loop-x-test.true

pub returns : goal.returns
returns c = let e = c.loop-x.invariant in
    record {
      most = omega (arith, e.most);
      size = length-set c.loop-x.bytes c.loop-x.at c.digit_of-2.result ∙ e.size;
      is = digits_last e c.digit_of-2.ensures refl c.loop-x-test.false;
    }
