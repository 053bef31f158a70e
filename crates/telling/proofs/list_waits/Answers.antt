use Rattle.std.proofs.Common.{sym, ◌∙◌, arith}
use Rattle.bank.proofs.Steps.{slot-below, slot_ok}
use Rattle.telling.proofs.Tell.{waits-skip, waits-told, waits-end}
use Rattle.telling.proofs.list_waits.Goals as goal
use Rattle.telling.proofs.list_waits.Goals.{then-waits, else-waits}

pub waits-requires : goal.waits-requires
waits-requires c = slot_ok c.requires.units_ok c.as_slice-u-items.ensures _ c.loop-u-test.true

pub wait_trace-requires : goal.wait_trace-requires
wait_trace-requires c = record { units_ok = c.requires.units_ok; unit_ok = slot_ok c.requires.units_ok c.as_slice-u-items.ensures _ c.loop-u-test.true }

pub stall-requires-clause-len_bound : goal.stall-requires-clause-len_bound
stall-requires-clause-len_bound c =
    omega
    (arith, slot-below c.requires.units_ok c.as_slice-u-items.ensures c.loop-u-test.true, c.loop-u.invariant.few, c.requires.len_bound)

pub loop-u-preserved : goal.loop-u-preserved
loop-u-preserved c =
    let ok = c.requires.units_ok in
    let e = c.as_slice-u-items.ensures in
    let h = c.loop-u-test.true in
    elim c.if-waits.branch [
      | then-waits w ↦
          rw w.log-is
          (waits-told ok e _ h c.loop-u.invariant (λ g. sym (c.waits.ensures g) ∙ w.if-waits.true) w.wait_trace.ensures w.stall.ensures)
      | else-waits w ↦ rw w.log-is (waits-skip ok e _ h c.loop-u.invariant (λ g. sym (c.waits.ensures g) ∙ w.if-waits.false))
    ]

pub returns : goal.returns
returns c = waits-end c.requires.units_ok c.as_slice-u-items.ensures c.loop-u.invariant c.loop-u-test.false
