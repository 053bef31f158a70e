use Rattle.stalls.proofs.Logged.{list-target, logs-by, redirected}
use Rattle.stalls.proofs.Log.redirect.Goals as goal

pub returns : goal.returns
returns c = logs-by _ (list-target c.args.target c.push.ensures) c.count_flush.ensures (λ f. redirected f c.args.self.now c.args.target _ c.requires.all)
