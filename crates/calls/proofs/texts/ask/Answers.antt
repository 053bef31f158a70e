use Rattle.decoding.specs.Bytes.{byte_at}
use Rattle.calls.proofs.Which.{here}
use Rattle.calls.proofs.texts.ask.Goals as goal

pub bounds-list-at : goal.bounds-list-at
bounds-list-at c = here _ _ c.requires.at_value

pub ask_shown-requires : goal.ask_shown-requires
unfolding byte_at
ask_shown-requires c = record { valid = c.requires.valid; at_value = c.requires.at_value; bound = c.requires.bound; at_bound = c.if-list-at-lt44.true }

pub ask_named-requires : goal.ask_named-requires
unfolding byte_at
ask_named-requires c = record { valid = c.requires.valid; at_value = c.requires.at_value; bound = c.if-list-at-lt44.false }
