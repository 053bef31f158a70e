use Rattle.std.proofs.Common.{arith}
use Rattle.bank.proofs.Built.{adding-first, adding-next, adding-last}
use Rattle.bank.proofs.Units.add_instances.Goals as goal

pub loop-i-init : goal.loop-i-init
loop-i-init c = adding-first c.requires.units_ok

pub loop-i-preserved : goal.loop-i-preserved
loop-i-preserved c = adding-next c.loop-i.invariant (omega (arith, c.loop-i.invariant.len)) c.idle.ensures

pub returns : goal.returns
returns c = adding-last c.loop-i.invariant (omega arith)
