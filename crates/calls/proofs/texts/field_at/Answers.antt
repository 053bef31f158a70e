use Rattle.requests.specs.View.{view_field}
use Rattle.decoding.specs.Bytes.{byte_at}
use Rattle.calls.proofs.Asks.{field-by}
use Rattle.calls.proofs.texts.field_at.Goals as goal

pub returns-in-2 : goal.returns-in-2
unfolding view_field byte_at
returns-in-2 c = field-by _ _ c.number_at-i.ensures 2 c.in-2.is
