-- The only premise of a call, of the struct: what crates/engine says of its parts.
use Rattle.engine.specs.Valid as engine
use Rattle.scoreboard.specs.declared.ScoreboardPipeline.{ScoreboardPipeline}
use Rattle.scoreboard.specs.View.{parts}

abbrev pub Parts : ScoreboardPipeline → Type 0
Parts e = engine.Parts (parts e)

abbrev pub Valid : ScoreboardPipeline → Type 0
Valid e = engine.Valid (parts e)
