-- After i turns the first i flags stand.
use Rattle.decoding.specs.Bytes.{flag_at}
use Rattle.decoding.proofs.Places.{Filled}
use Rattle.decoding.proofs.machine.ten_flags.Given as goal

abbrev pub invariant-loop-i : goal.invariant-loop-i
invariant-loop-i l = Filled flag_at 1 l.list l.at l.initial.flags l.flags 10 l.i
