-- The first kind that takes the class.
use Rattle.config.proofs.Machines.{kinds_ok, index_found}
use Rattle.config.proofs.Machine.spec_index.Goals as goal

pub first_taking-requires : goal.first_taking-requires
first_taking-requires c = kinds_ok c.args.self.now c.requires 0 _

pub returns : goal.returns
returns c = let e = index_found c.args.self.now c.args.class in cc
