use Rattle.std.proofs.Common.{sym, ◌∙◌}
use Rattle.laws.proofs.Tests.{and-next}
use Rattle.model.specs.Units.{in_phase}
use Rattle.units.specs.View.{view_unit}
use Rattle.units.proofs.Cases.{same_phase}
use Rattle.units.proofs.Unit.in_phase.Goals as goal

pub returns-then-self : goal.returns-then-self
unfolding view_unit in_phase
returns-then-self c = λ g. c.eq.ensures ∙ same_phase _ _ ∙ sym (and-next _ c.if-self.true)
