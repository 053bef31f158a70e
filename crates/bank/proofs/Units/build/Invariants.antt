use Rattle.config.specs.View.{view_machine}
use Rattle.bank.proofs.Built.{Building}
use Rattle.bank.proofs.Units.build.Given as goal

abbrev pub invariant-loop-spec : goal.invariant-loop-spec
invariant-loop-spec l = Building (view_machine l.machine).specs l.units l.machine.specs_len l.spec
