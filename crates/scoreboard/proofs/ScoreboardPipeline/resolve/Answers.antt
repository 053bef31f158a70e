use Rattle.scoreboard.specs.View.{parts}
use Rattle.scoreboard.proofs.ScoreboardPipeline.resolve.Goals as goal

pub returns : goal.returns
returns c = c.resolve.ensures.done (parts c.args.self.now) c.requires
