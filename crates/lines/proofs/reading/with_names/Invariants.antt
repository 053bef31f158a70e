-- The names before place `at` have been read.
use Rattle.std.proofs.Common.{Some, ◌-◌, length}
use Rattle.op.specs.View.{view_op}
use Rattle.lines.proofs.Names.{Naming}
use Rattle.lines.proofs.reading.with_names.Given as goal

abbrev pub invariant-loop-op : goal.invariant-loop-op
invariant-loop-op l = Naming l.written l.list (Some (view_op l.initial.op)) (Some (view_op l.op)) l.at

abbrev pub decreases-loop-op : goal.decreases-loop-op
decreases-loop-op l = length l.list - l.at
