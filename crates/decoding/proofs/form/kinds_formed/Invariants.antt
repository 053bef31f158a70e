-- A search over the places of the kinds.
use Rattle.std.proofs.Common.{ℕ}
use Rattle.std.specs.List.{list_all}
use Rattle.laws.proofs.Search.{Scan}
use Rattle.decoding.specs.Bytes.{places}
use Rattle.decoding.specs.Machine.{kind_formed}
use Rattle.decoding.proofs.form.kinds_formed.Given as goal

abbrev pub invariant-loop-i : goal.invariant-loop-i
invariant-loop-i l = Scan (λ (j : ℕ). list_all (kind_formed l.list)) 0 (places 28 16 107) 16 l.i l.i
