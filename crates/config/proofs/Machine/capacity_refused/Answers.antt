-- Each exit is one row of the table of refusals.
use Rattle.std.proofs.Common.{arith}
use Rattle.config.proofs.Checks.{no_kind, no_room, has_room}
use Rattle.config.proofs.Machines.{specs-length}
use Rattle.config.proofs.Machine.capacity_refused.Goals as goal

pub returns-then-self-kind : goal.returns-then-self-kind
returns-then-self-kind c = no_kind _ _ _ (omega (arith, specs-length c.requires))

pub returns-then-total_with-gt64 : goal.returns-then-total_with-gt64
returns-then-total_with-gt64 c = no_room _ _ _ (omega (arith, specs-length c.requires)) c.total_with.ensures c.if-total_with-gt64.true

pub returns : goal.returns
returns c = has_room _ _ _ (omega (arith, specs-length c.requires)) c.total_with.ensures c.if-total_with-gt64.false
