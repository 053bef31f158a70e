-- By computing.
use mathlib.Core.Path.{ap₂}
use Rattle.std.specs.Prelude.{None}
use mathlib.Core.List.{[], ◌∷◌}
use Rattle.capability.specs.declared.PipelineStageRole.TheVariants as role
use Rattle.model.specs.Config.{unit_spec, generic_unit, UnitSpec, pipeline_shape}
use Rattle.model.specs.Forecast.{forecast_shape}
use Rattle.config.specs.View.{view_shape, view_unit_spec, view_stage, padded}
use Rattle.driving.proofs.forecast_shape.Goals as goal

pub returns : goal.returns
unfolding view_shape view_unit_spec view_stage padded forecast_shape generic_unit
returns c = ap₂
    (λ t (u : UnitSpec). pipeline_shape (role.Fetch ∷ role.Decode ∷ role.Execute ∷ []) None t (unit_spec u.name u.classes u.latency_class 2 ∷ []) 256)
    c.default-timing.ensures
    c.generic-unit.ensures
