-- The name of a kind that is there.
use Rattle.words.proofs.Labels.{wrote_kind, wrote_no_kind}
use Rattle.words.proofs.write_spec_name.Goals as goal

pub returns-then-machine-index : goal.returns-then-machine-index
returns-then-machine-index c = wrote_no_kind c.requires c.if-machine-index.true

pub returns : goal.returns
returns c = wrote_kind c.requires c.if-machine-index.false c.spec_name.ensures.is c.write_bytes.ensures
