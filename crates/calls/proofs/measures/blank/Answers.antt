-- What is filled is a part of the buffer.
use Rattle.std.proofs.Common.{arith}
use Rattle.timeline.proofs.Memory.{filled_splice}
use Rattle.calls.proofs.measures.blank.Goals as goal

pub returns : goal.returns
returns c = filled_splice _ _ c.args.n 0 c.args.out.now _ (c.fill.ensures.after (λ y e. e)) (omega arith) (omega arith)
