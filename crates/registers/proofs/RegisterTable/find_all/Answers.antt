use Rattle.std.proofs.Common.{sym, ◌∙◌, arith, length-set}
use Rattle.registers.specs.View.{view_held}
use Rattle.registers.proofs.NameTable.{spare, get-some}
use Rattle.registers.proofs.Numbering.{numbering-next, numbering-last}
use Rattle.registers.proofs.RegisterTable.find_all.Goals as goal

pub loop-i-preserved : goal.loop-i-preserved
loop-i-preserved g c = let v = c.loop-i.invariant in (
  simp length-set v.0,
  numbering-next v.1 spare c.loop-i-test.true (omega arith) (get-some (view_held c.args.self.now) _ (sym c.get.ensures ∙ c.in_ok-numbers.was)).1,
)

pub returns : goal.returns
returns g c = let v = c.loop-i.invariant in record { is = numbering-last v.1 (omega arith); size = v.0 }
