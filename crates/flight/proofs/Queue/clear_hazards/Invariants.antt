use Rattle.std.proofs.Common.{length, None}
use Rattle.laws.proofs.Map.{Changed}
use Rattle.flight.specs.Promises.{hazardous}
use Rattle.flight.proofs.Queue.clear_hazards.Given as goal

abbrev pub invariant-loop-op : goal.invariant-loop-op
invariant-loop-op l = Changed (λ j. hazardous None) l.initial.op-items l.op-items (length l.initial.op-items) l.op-index
