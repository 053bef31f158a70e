-- After i turns the first i names stand.
use Rattle.std.proofs.Common.{map}
use Rattle.op.specs.Chars.{view_text}
use Rattle.decoding.specs.Bytes.{text_at}
use Rattle.decoding.proofs.Places.{Filled}
use Rattle.decoding.proofs.operation.names_at.Given as goal

abbrev pub invariant-loop-i : goal.invariant-loop-i
invariant-loop-i g l = Filled (text_at 16) 17 l.list l.at (map view_text l.initial.names) (map view_text l.names) g.row.M l.i
