-- The parts so far fit, and then stand at the front.
use Rattle.std.proofs.Common.{rules, arith}
use Rattle.traces.proofs.Written.{rooms_first, rooms_next, rooms_short, front_first, front-room, front-next, front-last}
use Rattle.traces.proofs.texts.write_parts.Goals as goal

pub loop-part-init : goal.loop-part-init
loop-part-init c = rooms_first _ _ _

pub returns-then-room-part : goal.returns-then-room-part
returns-then-room-part c = search (rules, arith, rooms_short)

pub loop-part-preserved : goal.loop-part-preserved
loop-part-preserved c = rooms_next _ _ _ _ _ _ c.loop-part.invariant c.loop-part-test.true (omega arith)

pub loop-part-2-init : goal.loop-part-2-init
loop-part-2-init c = search (rules, arith, front_first)

pub put-at-requires : goal.put-at-requires
put-at-requires c = front-room _ _ _ c.loop-part-2.invariant _ c.loop-part-2-test.true

pub loop-part-2-preserved : goal.loop-part-2-preserved
loop-part-2-preserved c = front-next _ _ _ c.loop-part-2.invariant _ c.loop-part-2-test.true c.put-at.ensures

pub returns : goal.returns
returns c = front-last _ _ _ c.loop-part-2.invariant c.loop-part-2-test.false
