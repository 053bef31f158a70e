use Rattle.registers.specs.View.{view_held}
use mathlib.Core.Path.{◌≡◌}
use lib.ListN.{length}
use Rattle.registers.proofs.Numbering.{Numbering}
use Rattle.registers.proofs.RegisterTable.find_all.Given as goal

abbrev pub invariant-loop-i : goal.invariant-loop-i
invariant-loop-i g l = (length l.numbers ≡ g.row.N) × Numbering (view_held l.self) l.names (view_held l.self) l.numbers l.i
