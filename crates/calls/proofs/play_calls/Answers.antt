-- One call more.
use native.Mathlib.Omega.{arith}
use Rattle.decoding.specs.Bytes.{byte_at}
use Rattle.decoding.specs.Calls.{size_at}
use Rattle.decoding.proofs.Script.{formed-is}
use Rattle.calls.proofs.Lays.{laying-formed, laying-sizes}
use Rattle.calls.proofs.Plays.{played-first, played-playable, played-next, played-cells, played-out}
use Rattle.calls.proofs.play_calls.Goals as goal

pub loop-at-init : goal.loop-at-init
loop-at-init c = played-first c.requires.valid c.requires.all_playable

pub answer_size-n-requires : goal.answer_size-n-requires
answer_size-n-requires c = laying-formed c.loop-at.invariant.laid c.loop-at-test.true

pub blank-requires : goal.blank-requires
blank-requires c = omega (arith, c.answer_size-n.ensures, laying-sizes c.loop-at.invariant.laid c.loop-at-test.true)

pub play-requires : goal.play-requires
play-requires c =
    let y = c.loop-at.invariant in
    record {
      valid = y.valid;
      playable = played-playable y c.loop-at-test.true c.answer_size-n.ensures c.blank.ensures;
    }

pub overflow_add-b : goal.overflow_add-b
overflow_add-b c =
    let y = c.loop-at.invariant.laid in
    omega (arith, c.answer_size-n.ensures, laying-sizes y c.loop-at-test.true, y.same)

pub overflow_add-at : goal.overflow_add-at
unfolding size_at byte_at
overflow_add-at c = omega (arith, c.size_of-at.ensures, (formed-is _ _ (laying-formed c.loop-at.invariant.laid c.loop-at-test.true)).inside)

pub loop-at-smaller : goal.loop-at-smaller
unfolding size_at byte_at
loop-at-smaller c =
    let f = formed-is _ _ (laying-formed c.loop-at.invariant.laid c.loop-at-test.true) in
    omega (arith, c.size_of-at.ensures, f.some, f.inside)

pub loop-at-preserved : goal.loop-at-preserved
unfolding size_at byte_at
loop-at-preserved c =
    played-next c.loop-at.invariant c.loop-at-test.true c.answer_size-n.ensures c.blank.ensures c.size_of-at.ensures c.play.ensures.plays
    c.play.ensures.memory

pub shape_of-cells : goal.shape_of-cells
shape_of-cells c = c.loop-at.invariant.size

pub shape_of-out : goal.shape_of-out
shape_of-out c = c.loop-at.invariant.laid.same

pub returns : goal.returns
returns c =
    let y = c.loop-at.invariant in
    record { valid = y.valid; memory = played-cells y c.loop-at-test.false; answers = played-out y c.loop-at-test.false }
