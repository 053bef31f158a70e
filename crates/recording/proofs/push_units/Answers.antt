use Rattle.bank.proofs.Steps.{slot_ok}
use Rattle.recording.proofs.Pushes.{pushing-next, pushing-skip, pushing-tracks, pushing-memory, units-more, units-less, units-done}
use Rattle.recording.proofs.push_units.Goals as goal
use Rattle.recording.proofs.push_units.Goals.{then-u, else-u}

pub cell-requires : goal.cell-requires
cell-requires c = slot_ok c.requires.units_ok c.as_slice-u-items.ensures _ c.loop-u-test.true

pub loop-u-preserved : goal.loop-u-preserved
loop-u-preserved c =
    let ok = c.requires.units_ok in
    let e = c.as_slice-u-items.ensures in
    let h = c.loop-u-test.true in
    elim c.if-u.branch [
      | then-u w ↦
          rw (w.tracks-is, w.cells-is)
          (pushing-next c.loop-u.invariant w.push.ensures.tracks w.push.ensures.memory w.push.auto.cells (units-more ok e _ h w.if-u.true w.cell.ensures))
      | else-u w ↦ rw (w.tracks-is, w.cells-is) (pushing-skip c.loop-u.invariant (units-less ok e _ h w.if-u.false))
    ]

pub returns : goal.returns
returns c =
    let d = units-done c.requires.units_ok c.as_slice-u-items.ensures c.loop-u-test.false in
    record { tracks = pushing-tracks c.loop-u.invariant d; memory = pushing-memory c.loop-u.invariant d }
