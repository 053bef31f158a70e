use Rattle.std.proofs.Common.{sym}
use Rattle.std.proofs.lemmas.List.{take-map}
use Rattle.registers.specs.View.{view_owed, view_waits}
use Rattle.registers.proofs.Waits.as_slice.Goals as goal

pub returns-clause-waits : goal.returns-clause-waits
unfolding view_waits
returns-clause-waits c = sym (take-map view_owed c.args.self.now.len c.args.self.now.items)
