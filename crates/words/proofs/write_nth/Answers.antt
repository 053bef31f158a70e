-- Past the end there is none.
use Rattle.std.proofs.Common.{arith}
use Rattle.std.proofs.lemmas.Grind.{common_steps}
use Rattle.std.proofs.lemmas.Option.{gets}
use Rattle.model.specs.Registers.{name_of}
use Rattle.registers.specs.View.{view_held}
use Rattle.words.proofs.Shown.{wrote_past}
use Rattle.words.proofs.write_nth.Goals as goal

pub returns-in-None : goal.returns-in-None
returns-in-None c =
    wrote_past (name_of (view_held c.args.table.now)) c.args.registers.now c.args.index c.get.result _ (grind (arith, common_steps, gets)) c.in-None.is
