-- The bytes up to the length.
use Rattle.words.proofs.Shown.{wrote_shown}
use Rattle.words.proofs.write_bytes.Goals as goal

pub returns : goal.returns
returns g c = wrote_shown c.args.text.now c.requires c.write_text.ensures
