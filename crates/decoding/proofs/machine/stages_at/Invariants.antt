-- After i turns the first i roles stand.
use Rattle.std.proofs.Common.{map}
use Rattle.config.specs.View.{view_stage}
use Rattle.decoding.specs.Bytes.{role_at}
use Rattle.decoding.proofs.Places.{Filled}
use Rattle.decoding.proofs.machine.stages_at.Given as goal

abbrev pub invariant-loop-i : goal.invariant-loop-i
invariant-loop-i l = Filled role_at 1 l.list 90 (map view_stage l.initial.stages) (map view_stage l.stages) 16 l.i
