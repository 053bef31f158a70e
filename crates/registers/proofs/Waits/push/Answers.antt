use native.Mathlib.Omega.{arith}
use lib.ListN.{length-set}
use Rattle.laws.proofs.Shift.{view-pushed}
use Rattle.registers.specs.View.{view_owed, view_waits}
use Rattle.registers.proofs.Waits.push.Goals as goal

pub returns : goal.returns
unfolding view_owed view_waits
returns c = record {
  is = view-pushed view_owed c.args.self.now.items c.args.self.now.len _ (omega arith);
  ok = record { count = omega arith; size = simp length-set c.requires.waits_ok.size };
}
