-- The front of the memory is filled.
use Rattle.model.specs.Timeline.{write_all, clear_writes, splice}
use Rattle.timeline.proofs.Memory.{filled_front}
use Rattle.timeline.proofs.cells.clear.Goals as goal

pub returns : goal.returns
unfolding write_all clear_writes splice
returns c = filled_front _ 255 c.args.cells.now _ (c.fill.ensures.after (λ y e. e)) c.requires
