use Rattle.std.proofs.Common.{arith}
use Rattle.registers.proofs.Owing.{waits-length}
use Rattle.registers.proofs.Claims.waits_on.Goals as goal

pub push-requires-clause-room : goal.push-requires-clause-room
push-requires-clause-room c = omega (arith, waits-length c.loop-r.invariant.ok)
