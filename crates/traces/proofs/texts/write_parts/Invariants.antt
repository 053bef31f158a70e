-- The parts so far fit, and then stand at the front.
use Rattle.traces.proofs.Written.{Rooms, Front}
use Rattle.traces.proofs.texts.write_parts.Given as goal

abbrev pub invariant-loop-part : goal.invariant-loop-part
invariant-loop-part l = Rooms (λ p. p.now) l.parts l.out l.room l.part-index

abbrev pub invariant-loop-part-2 : goal.invariant-loop-part-2
invariant-loop-part-2 l = Front (λ p. p.now) l.parts l.initial.out l.out l.at l.part-index
