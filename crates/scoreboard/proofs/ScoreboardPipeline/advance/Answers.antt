use Rattle.scoreboard.specs.View.{parts}
use Rattle.scoreboard.proofs.ScoreboardPipeline.advance.Goals as goal

pub returns-clause-done : goal.returns-clause-done
returns-clause-done c = c.advance.ensures.done (parts c.args.self.now) c.requires

pub returns-clause-memory : goal.returns-clause-memory
returns-clause-memory c = c.advance.ensures.memory (parts c.args.self.now) c.requires
