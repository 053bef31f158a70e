-- The calls 4, 5, 10 and 38 say how much they are lent; no other is lent any.
use mathlib.Core.Path.{◌≡◌, sym, ◌∙◌}
use Prim.Native.Nat.{ℕ, ◌<◌}
use mathlib.Core.List.{List}
use native.Mathlib.Omega.{arith}
use lib.ListN.{get_or}
use Rattle.decoding.specs.Bytes.{byte_at}
use Rattle.decoding.specs.Calls.{call_at}
use Rattle.calls.specs.Play.{lent_of}
use Rattle.calls.proofs.Which.{told, here, inside-by, lent_by, lent_none}
use Rattle.calls.proofs.measures.lent_at.Goals as goal

-- What the table has at k was read.
lent : (l : List ℕ) (at k : ℕ) {n : ℕ} → byte_at l at ≡ k → k < 39 → n ≡ get_or (told lent_of l at) k 0 → n ≡ lent_of (call_at l at)
lent l at k e h q = q ∙ sym (lent_by l at k e h)

pub bounds-list-at : goal.bounds-list-at
bounds-list-at c = here c.args.list.now c.args.at c.requires

pub number_at-requires : goal.number_at-requires
unfolding byte_at
number_at-requires c = omega (arith, inside-by _ _ c.requires 4 c.in-4.is)

pub number_at-requires-in-5 : goal.number_at-requires-in-5
unfolding byte_at
number_at-requires-in-5 c = omega (arith, inside-by _ _ c.requires 5 c.in-5.is)

pub number_at-requires-in-10 : goal.number_at-requires-in-10
unfolding byte_at
number_at-requires-in-10 c = omega (arith, inside-by _ _ c.requires 10 c.in-10.is)

pub number_at-requires-in-38 : goal.number_at-requires-in-38
unfolding byte_at
number_at-requires-in-38 c = omega (arith, inside-by _ _ c.requires 38 c.in-38.is)

pub returns-in-4 : goal.returns-in-4
unfolding byte_at lent_of
returns-in-4 c = lent _ _ 4 c.in-4.is (omega arith) c.number_at.ensures

pub returns-in-5 : goal.returns-in-5
unfolding byte_at lent_of
returns-in-5 c = lent _ _ 5 c.in-5.is (omega arith) c.number_at-in-5.ensures

pub returns-in-10 : goal.returns-in-10
unfolding byte_at lent_of
returns-in-10 c = lent _ _ 10 c.in-10.is (omega arith) c.number_at-in-10.ensures

pub returns-in-38 : goal.returns-in-38
unfolding byte_at lent_of
returns-in-38 c = lent _ _ 38 c.in-38.is (omega arith) c.number_at-in-38.ensures

pub returns-in_default : goal.returns-in_default
unfolding byte_at
returns-in_default c = sym (lent_none _ _ (λ e. omega arith) (λ e. omega arith) (λ e. omega arith) (λ e. omega arith))
