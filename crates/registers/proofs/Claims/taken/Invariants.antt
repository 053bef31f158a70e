use mathlib.Core.Path.{◌≡◌}
use lib.ListN.{drop}
use Rattle.model.specs.Issue.{taken}
use Rattle.registers.specs.View.{view_claims}
use Rattle.registers.proofs.Claims.taken.Given as goal

abbrev pub invariant-loop-r : goal.invariant-loop-r
invariant-loop-r l = taken (view_claims l.self) (drop l.r-index l.registers) ≡ taken (view_claims l.self) l.registers
