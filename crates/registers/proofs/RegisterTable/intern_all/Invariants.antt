use Rattle.registers.specs.Hints.{Grown}
use Rattle.registers.specs.View.{view_held, view_known, TableOk}
use mathlib.Core.Path.{◌≡◌}
use lib.ListN.{length}
use Rattle.registers.proofs.Numbering.{Numbering}
use Rattle.registers.proofs.RegisterTable.intern_all.Given as goal

abbrev pub invariant-loop-i : goal.invariant-loop-i
invariant-loop-i g l = TableOk l.self × (view_known l.self ≡ view_known l.initial.self) × Grown l.initial.self l.self × (length l.numbers ≡ g.row.N)
    × Numbering (view_held l.initial.self) l.names (view_held l.self) l.numbers l.i
