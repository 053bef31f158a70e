use Rattle.std.proofs.Common.{arith}
use Rattle.units.proofs.Pending.{without-first, without-keep, without-drop, without-last, few-waits}
use Rattle.units.proofs.waits.without.Goals.{then-owed-producer, else-owed-producer}
use Rattle.units.proofs.waits.without.Goals as goal

pub loop-owed-init : goal.loop-owed-init
loop-owed-init c = without-first _ _ c.none-kept.ensures

pub push-requires : goal.push-requires
push-requires c = let v = c.loop-owed.invariant in
    record { waits_ok = v.ok; room = omega (arith, v.few, few-waits c.as_slice-owed-items.result.now c.requires c.as_slice-owed-items.ensures.waits) }

pub loop-owed-preserved : goal.loop-owed-preserved
loop-owed-preserved c = elim c.if-owed-producer.branch [
  | then-owed-producer w ↦ rw w.kept-is (without-keep _ _ c.loop-owed.invariant _ c.loop-owed-test.true w.if-owed-producer.true w.push.ensures)
  | else-owed-producer w ↦ rw w.kept-is (without-drop _ _ c.loop-owed.invariant _ c.loop-owed-test.true w.if-owed-producer.false)
]

pub returns : goal.returns
returns c = without-last _ _ c.args.pending.now c.loop-owed.invariant c.loop-owed-test.false c.as_slice-owed-items.ensures.waits
