use Rattle.scoreboard.specs.View.{parts}
use Rattle.scoreboard.proofs.ScoreboardPipeline.start_cycle.Goals as goal

pub returns : goal.returns
returns c = c.start.ensures (parts c.args.self.now) c.requires
