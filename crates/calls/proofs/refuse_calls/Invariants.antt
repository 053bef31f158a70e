-- The answers laid and those that are left make up the whole.
use Prim.Native.Nat.{◌-◌}
use lib.ListN.{length}
use Rattle.capability.specs.Refusals.{refusal_number}
use Rattle.calls.proofs.Lays.{Refusing}
use Rattle.calls.proofs.refuse_calls.Given as goal

abbrev pub invariant-loop-at : goal.invariant-loop-at
invariant-loop-at l = Refusing l.list (refusal_number l.refusal) l.initial.out l.out l.at l.b

abbrev pub decreases-loop-at : goal.decreases-loop-at
decreases-loop-at l = length l.list - l.at
