-- One at a place.
use Rattle.std.proofs.Common.{arith}
use Rattle.std.proofs.lemmas.Grind.{common_steps}
use Rattle.std.proofs.lemmas.Option.{gets}
use Rattle.occupants.proofs.Seen.{unit_there}
use Rattle.occupants.proofs.unit_at.Goals as goal

pub returns : goal.returns
returns c = unit_there c.requires c.args.index (grind (arith, common_steps, gets))
