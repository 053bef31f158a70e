-- Within the limit of refusal 1 the product fits.
use Rattle.std.proofs.Common.{rules, sym, ◌∙◌}
use Rattle.config.specs.View.{view_shape}
use Rattle.config.proofs.Checks.{small_of}
use Rattle.config.proofs.PipelineShape.checked.Goals as goal

pub overflow_mul-max : goal.overflow_mul-max
unfolding view_shape
overflow_mul-max c = let h = (small_of _ (sym c.too_big.ensures ∙ c.if-too_big.false)).history in
    search rules
