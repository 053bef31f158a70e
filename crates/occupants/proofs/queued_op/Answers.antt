-- One at a place.
use Rattle.std.proofs.Common.{arith}
use Rattle.std.proofs.lemmas.Grind.{common_steps}
use Rattle.std.proofs.lemmas.Option.{gets}
use Rattle.occupants.proofs.Seen.{queued_there}
use Rattle.occupants.proofs.queued_op.Goals as goal

pub returns : goal.returns
returns c = queued_there c.requires c.args.index (grind (arith, common_steps, gets))
