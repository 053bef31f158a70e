-- The engine, the cell memory and the answers are those of the calls passed.
use Prim.Native.Nat.{◌-◌}
use lib.ListN.{length}
use Rattle.scoreboard.specs.View.{view_engine}
use Rattle.calls.proofs.Plays.{Played}
use Rattle.calls.proofs.play_calls.Given as goal

abbrev pub invariant-loop-at : goal.invariant-loop-at
invariant-loop-at l = Played l.list (view_engine l.initial.engine) l.initial.cells l.initial.out l.engine l.at l.b l.cells l.out

abbrev pub decreases-loop-at : goal.decreases-loop-at
decreases-loop-at l = length l.list - l.at
