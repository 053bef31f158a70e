use mathlib.Core.Path.{◌≡◌}
use lib.ListN.{drop}
use Rattle.std.specs.Prelude.{slice_get}
use Rattle.model.specs.Registers.{outstanding}
use Rattle.registers.specs.View.{view_claims}
use Rattle.registers.proofs.Claims.outstanding.Given as goal

-- Of those from register i on so many are still to pass.
abbrev pub invariant-loop-i : goal.invariant-loop-i
invariant-loop-i l = slice_get (outstanding l.i (drop l.i (view_claims l.self))) l.left ≡ slice_get (outstanding 0 (view_claims l.self)) l.index
