-- After i turns the first i names stand.
use Rattle.std.proofs.Common.{◌≡◌, ◌∙◌, ℕ, map, length, replicate, refl, arith}
use lib.ListN.{length-map, length-replicate}
use Rattle.op.specs.declared.chars.Chars.{Chars}
use Rattle.op.specs.Chars.{view_text}
use Rattle.decoding.specs.Operation.{names_at}
use Rattle.decoding.proofs.Places.{filled-first, filled-view, filled-last}
use Rattle.decoding.proofs.operation.names_at.Goals as goal

size : (n : ℕ) (x : Chars 16) → length (map view_text (replicate n x)) ≡ n
size n x = length-map (replicate n x) view_text ∙ length-replicate n x

pub loop-i-init : goal.loop-i-init
loop-i-init g c = filled-first (omega (arith, size g.row.M c.empty-names.result))

pub loop-i-preserved : goal.loop-i-preserved
loop-i-preserved g c = filled-view c.loop-i.invariant view_text c.loop-i.names c.chars_at.result refl c.loop-i-test.true refl c.chars_at.ensures

pub returns : goal.returns
unfolding names_at
returns g c = filled-last c.loop-i.invariant (size g.row.M c.empty-names.result) c.loop-i-test.false
