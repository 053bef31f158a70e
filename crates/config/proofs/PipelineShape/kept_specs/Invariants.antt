-- The first i of an array of generic kinds are the declared ones.
use Rattle.std.proofs.Common.{◌≡◌, length}
use Rattle.config.specs.View.{view_spec}
use Rattle.config.specs.Kept.{SpecOk}
use Rattle.config.proofs.Shapes.{kept-unit}
use Rattle.config.proofs.Keeping.{Filled}
use Rattle.config.proofs.PipelineShape.kept_specs.Given as goal

abbrev pub invariant-loop-i : goal.invariant-loop-i
invariant-loop-i l = (length l.self.units ≡ 16) × Filled view_spec SpecOk kept-unit l.self.units l.initial.specs l.specs l.self.units_len l.i
