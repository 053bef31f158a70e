use Rattle.recording.proofs.Pushes.{Pushing, units-left}
use Rattle.recording.proofs.push_units.Given as goal

abbrev pub invariant-loop-u : goal.invariant-loop-u
invariant-loop-u l = Pushing (units-left l.units) l.window l.initial.tracks l.initial.cells l.tracks l.cells l.u-index
