use Rattle.scoreboard.specs.View.{parts}
use Rattle.scoreboard.proofs.ScoreboardPipeline.retire.Goals as goal

pub returns : goal.returns
returns c = c.retire.ensures (parts c.args.self.now) c.requires
