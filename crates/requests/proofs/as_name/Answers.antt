-- The bytes up to the length.
use Rattle.requests.proofs.Known.{as-name}
use Rattle.requests.proofs.as_name.Goals as goal

pub returns : goal.returns
returns c = as-name c.args.kind.now c.requires c.from_slice.ensures
