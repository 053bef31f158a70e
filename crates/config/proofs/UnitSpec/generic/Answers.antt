-- By computing.
use Rattle.laws.specs.Lists.{keep}
use Rattle.laws.specs.Texts.{texts}
use Rattle.capability.specs.Numbers.{class_number}
use Rattle.model.specs.Config.{generic_unit}
use Rattle.op.specs.Chars.{shown}
use Rattle.config.specs.View.{view_unit_spec, flagged, flag}
use Rattle.config.proofs.UnitSpec.generic.Goals as goal

pub returns : goal.returns
unfolding view_unit_spec shown flagged flag class_number keep generic_unit texts
returns c = rw c.from_slice.ensures
