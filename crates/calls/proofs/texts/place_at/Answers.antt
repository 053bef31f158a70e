use Rattle.requests.specs.View.{view_place}
use Rattle.decoding.specs.Bytes.{byte_at}
use Rattle.calls.proofs.Asks.{place-by}
use Rattle.calls.proofs.texts.place_at.Goals as goal

pub returns-in-2 : goal.returns-in-2
unfolding view_place byte_at
returns-in-2 c = place-by _ _ c.number_at-i.ensures 2 c.in-2.is
