-- The digits from the last on; 20 are enough.
use Rattle.laws.proofs.Digits.{Digits}
use Rattle.traces.proofs.texts.digits_of.Given as goal

abbrev pub invariant-loop-x : goal.invariant-loop-x
invariant-loop-x l = Digits l.base 19 l.n l.bytes l.at l.x

abbrev pub decreases-loop-x : goal.decreases-loop-x
decreases-loop-x l = l.at
