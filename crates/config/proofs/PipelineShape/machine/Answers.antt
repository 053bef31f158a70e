-- What an accepted machine leaves is well formed.
use Rattle.std.proofs.Common.{◌≡◌, max, arith}
use Rattle.config.proofs.Shapes.{machine-means}
use Rattle.config.proofs.PipelineShape.machine.Goals as goal

pub returns : goal.returns
returns c =
    let n : c.max.result ≡ max 1 c.args.self.now.units_len = omega arith in
    let h : c.max-2.result ≡ max 1 c.args.self.now.history = omega arith in
    machine-means _ c.requires c.kept_specs.ensures n c.queue_depth.ensures h
