use Rattle.scoreboard.specs.View.{parts}
use Rattle.scoreboard.proofs.ScoreboardPipeline.retry.Goals as goal

pub returns : goal.returns
returns c = c.retry.ensures (parts c.args.self.now) c.requires
