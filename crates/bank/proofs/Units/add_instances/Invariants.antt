use Rattle.bank.proofs.Built.{Adding}
use Rattle.bank.proofs.Units.add_instances.Given as goal

abbrev pub invariant-loop-i : goal.invariant-loop-i
invariant-loop-i l = Adding l.spec l.initial.self l.self l.i
