-- The place among the letters is the number of the class.
use Rattle.std.proofs.Common.{ap, sym, ◌∙◌}
use Rattle.capability.specs.Cases.{class_of}
use Rattle.model.specs.Forecast.{letters}
use Rattle.lines.proofs.Cut.{cut-place}
use Rattle.lines.proofs.ClassAndSize.{class-place}
use Rattle.lines.proofs.leading.class_by.Goals as goal

pub returns : goal.returns
unfolding class_of letters
returns c = c.ok.ensures.value ∙ c.try_from.ensures ∙ ap class_of (cut-place c.place_of-n.ensures) ∙ sym (class-place letters _)
