-- A text that is missing is none.
use Rattle.words.proofs.Shown.{wrote_missing}
use Rattle.words.proofs.write_maybe_text.Goals as goal

pub returns-in-None : goal.returns-in-None
returns-in-None g c = wrote_missing _ _ _ c.in-None.is
