use Rattle.driving.proofs.Cycles.{cycled}
use Rattle.driving.proofs.cycle.Goals as goal

pub returns : goal.returns
returns c = cycled c.start_cycle.ensures c.retire.ensures c.advance.ensures.done c.advance.ensures.memory
