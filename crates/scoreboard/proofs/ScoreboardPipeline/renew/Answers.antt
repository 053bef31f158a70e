use Rattle.config.specs.View.{view_machine}
use Rattle.scoreboard.proofs.Fresh.{built_places, built_knows}
use Rattle.scoreboard.proofs.ScoreboardPipeline.renew.Goals as goal

pub new-self-requires-clause-units_value : goal.new-self-requires-clause-units_value
new-self-requires-clause-units_value c = built_places (view_machine c.args.self.now.machine).specs c.build.ensures

pub new-self-requires-clause-all : goal.new-self-requires-clause-all
new-self-requires-clause-all c = built_knows (view_machine c.args.self.now.machine).specs c.build.ensures 0
