-- What was counted and the calls that are left make up the whole.
use Prim.Native.Nat.{◌-◌}
use lib.ListN.{length}
use Rattle.calls.proofs.Scans.{Scanned}
use Rattle.calls.proofs.scan_calls.Given as goal

abbrev pub invariant-loop-at : goal.invariant-loop-at
invariant-loop-at l = Scanned l.list l.calls l.bytes l.lent l.at

abbrev pub decreases-loop-at : goal.decreases-loop-at
decreases-loop-at l = length l.list - l.at
