use native.Mathlib.Omega.{arith}
use Rattle.config.proofs.Machines.{index-there}
use Rattle.issuing.proofs.choose.Goals as goal

pub overflow_cast-number : goal.overflow_cast-number
overflow_cast-number c =
    record { fits = omega (arith, c.spec_index-number.ensures, index-there c.requires.machine_ok c.args.front.now.class, c.requires.machine_ok.few) }
