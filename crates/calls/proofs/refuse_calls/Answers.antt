-- The answers laid and those that are left make up the whole.
use native.Mathlib.Omega.{arith}
use Rattle.decoding.specs.Bytes.{byte_at}
use Rattle.decoding.specs.Calls.{size_at}
use Rattle.decoding.proofs.Script.{formed-is}
use Rattle.calls.proofs.Lays.{laying-formed, laying-sizes, laying-there, refusing-next, refusing-last}
use Rattle.calls.proofs.refuse_calls.Goals as goal

pub answer_size-n-requires : goal.answer_size-n-requires
answer_size-n-requires c = laying-formed c.loop-at.invariant c.loop-at-test.true

pub blank-requires : goal.blank-requires
blank-requires c = omega (arith, c.answer_size-n.ensures, laying-sizes c.loop-at.invariant c.loop-at-test.true)

pub bounds-out-b : goal.bounds-out-b
bounds-out-b c = laying-there c.loop-at.invariant c.loop-at-test.true c.answer_size-n.result c.blank.ensures

pub overflow_add-b : goal.overflow_add-b
overflow_add-b c = omega (arith, c.answer_size-n.ensures, laying-sizes c.loop-at.invariant c.loop-at-test.true, c.loop-at.invariant.same)

pub overflow_add-at : goal.overflow_add-at
unfolding size_at byte_at
overflow_add-at c = omega (arith, c.size_of-at.ensures, (formed-is _ _ (laying-formed c.loop-at.invariant c.loop-at-test.true)).inside)

pub loop-at-smaller : goal.loop-at-smaller
unfolding size_at byte_at
loop-at-smaller c = let f = formed-is _ _ (laying-formed c.loop-at.invariant c.loop-at-test.true) in
    omega (arith, c.size_of-at.ensures, f.some, f.inside)

pub loop-at-preserved : goal.loop-at-preserved
unfolding size_at byte_at
loop-at-preserved c = refusing-next _ c.loop-at.invariant c.from.ensures c.loop-at-test.true c.answer_size-n.ensures c.size_of-at.ensures c.blank.ensures

pub returns : goal.returns
returns c = refusing-last _ c.loop-at.invariant c.loop-at-test.false
