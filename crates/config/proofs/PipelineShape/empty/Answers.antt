-- By computing.
use Rattle.std.proofs.Common.{ap, None, []}
use Rattle.model.specs.Config.{pipeline_shape}
use Rattle.config.specs.View.{view_shape, padded}
use Rattle.config.proofs.PipelineShape.empty.Goals as goal

pub returns : goal.returns
unfolding view_shape padded
returns c = ap (λ t. pipeline_shape [] None t [] 0) c.single_cycle.ensures
