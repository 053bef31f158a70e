-- Every engine that a user can reach is valid, and there is one.
use mathlib.Core.Path.{sym}
use Rattle.std.specs.Prelude.{Ok}
use Rattle.config.specs.Checks.{nothing_declared}
use Rattle.scoreboard.specs.declared.ScoreboardPipeline.{ScoreboardPipeline}
use Rattle.scoreboard.specs.Valid.{Valid}
use Rattle.scoreboard.specs.Calls.{Makes}
use Rattle.demands.specs.Reached.{Reached, made, called, Reaches}
use Rattle.demands.proofs.Witness.{plain-engine, plain-is, plain-valid, nothing-made}

reached-valid : (e : ScoreboardPipeline) → Reached e → Valid e
reached-valid _ (made d entry lent e m) = m.made.valid
reached-valid _ (called e c a r h d) = d.valid

plain-made : Makes nothing_declared 0 51200 (Ok plain-engine)
plain-made = record { refused = sym nothing-made; made = record { engine = plain-is; valid = plain-valid } }

pub reaches : Reaches
reaches = record { valid = reached-valid; one = (plain-engine, made nothing_declared 0 51200 plain-engine plain-made) }
