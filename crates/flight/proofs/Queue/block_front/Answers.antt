use Rattle.std.proofs.Common.{Some}
use Rattle.flight.proofs.Entries.{front-hazard}
use Rattle.flight.proofs.Queue.block_front.Goals as goal

pub returns : goal.returns
returns c = front-hazard c.requires (Some c.args.kind) _
