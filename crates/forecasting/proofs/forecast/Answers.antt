-- Each way out: short cells, excess input, a run.
use mathlib.Core.Path.{refl, ◌∙◌}
use native.Mathlib.Omega.{arith}
use lib.ListN.{replicate}
use Rattle.model.specs.Forecast.{printed, cells_left}
use Rattle.pages.proofs.Laid.{laid-most}
use Rattle.forecasting.specs.View.{view_outcome}
use Rattle.forecasting.proofs.Runs.{refused-most}
use Rattle.forecasting.proofs.Answers.{told-short, told, excess-run, page-room, page-count, within-page, part-of-page, laid-front, not-refused, ran}
use Rattle.forecasting.proofs.forecast.Goals as goal

pub returns-then-cells-lt51200 : goal.returns-then-cells-lt51200
unfolding view_outcome
returns-then-cells-lt51200 c =
    let t = told-short _ _ _ c.if-cells-lt51200.true in
    record { answer = t.0; memory = t.1.0; text = t.1.1 }

-- ── Excess input ────────────────────────────────────────────────────────────

pub slice_bounds-put_refused-end : goal.slice_bounds-put_refused-end
slice_bounds-put_refused-end c = page-count

pub put_refused-n-requires : goal.put_refused-n-requires
put_refused-n-requires c = page-room 55 (omega arith)

pub slice_bounds-page-end : goal.slice_bounds-page-end
slice_bounds-page-end c = within-page (replicate 524288 0) _ (laid-most c.put_refused-n.ensures 55 (refused-most 0 14)) (page-room 55 (omega arith)) c.put_refused-n.auto.page

pub slice_bounds-write_text-end : goal.slice_bounds-write_text-end
slice_bounds-write_text-end c =
    part-of-page (replicate 524288 0) _ (laid-most c.put_refused-n.ensures 55 (refused-most 0 14)) (page-room 55 (omega arith)) c.put_refused-n.auto.page

pub shape_of-out-then-input-gt65536 : goal.shape_of-out-then-input-gt65536
shape_of-out-then-input-gt65536 c = c.write_text.auto.out

pub returns-then-input-gt65536 : goal.returns-then-input-gt65536
unfolding printed cells_left
returns-then-input-gt65536 c =
    let t =
    told _ _ _ c.if-cells-lt51200.false (excess-run _ _ c.if-cells-lt51200.false c.if-input-gt65536.true)
    (laid-front {page = replicate 524288 0} (page-room _ (omega (arith, refused-most 0 14))) c.put_refused-n.ensures)
    c.write_text.ensures
    c.answered.ensures
    refl in
    record { answer = t.0; memory = t.1.0; text = t.1.1 }

-- ── A run ───────────────────────────────────────────────────────────────────

pub set_enabled-requires : goal.set_enabled-requires
set_enabled-requires c = c.in_ok-engine.ensures.made.made.valid

pub run-run-requires : goal.run-run-requires
run-run-requires c = record { valid = c.set_enabled.ensures.valid; input_len_bound = c.if-input-gt65536.false }

pub returns-in_err-engine : goal.returns-in_err-engine
returns-in_err-engine c = absurd (not-refused c.args.cells.now c.if-cells-lt51200.false c.forecast_shape.ensures _ c.in_err-engine.ensures.made.refused)

pub slice_bounds-put_run-end : goal.slice_bounds-put_run-end
slice_bounds-put_run-end c = page-count

pub put_run-n-requires : goal.put_run-n-requires
put_run-n-requires c =
    let v = c.run-run.ensures.valid in
    record {
      valid = v;
      history_in_bounds = omega (arith, v.parts.window.most, c.run-run.auto.cells, c.new.auto.cells, c.if-cells-lt51200.false);
      in_bounds = page-room 524288 (omega arith);
    }

pub slice_bounds-page-end-2 : goal.slice_bounds-page-end-2
slice_bounds-page-end-2 c = within-page (replicate 524288 0) _ c.put_run-n.ensures.most (page-room 524288 (omega arith)) c.put_run-n.auto.page

pub slice_bounds-write_text-end-2 : goal.slice_bounds-write_text-end-2
slice_bounds-write_text-end-2 c = part-of-page (replicate 524288 0) _ c.put_run-n.ensures.most (page-room 524288 (omega arith)) c.put_run-n.auto.page

pub shape_of-cells : goal.shape_of-cells
shape_of-cells c = c.run-run.auto.cells ∙ c.new.auto.cells

pub shape_of-out : goal.shape_of-out
shape_of-out c = c.write_text-2.auto.out

pub returns : goal.returns
returns c =
    let r =
    ran _ c.if-cells-lt51200.false c.forecast_shape.ensures _ c.if-input-gt65536.false c.in_ok-engine.ensures.made.made c.new.ensures.memory
    c.set_enabled.ensures c.run-run.ensures in
    let t =
    told _ _ _ c.if-cells-lt51200.false r.0
    (laid-front {page = replicate 524288 0}
    (page-room _ (omega (arith, c.put_run-n.ensures.most, (c.put_run-n.ensures.text c.args.input.now).end)))
    (c.put_run-n.ensures.text _))
    c.write_text-2.ensures
    c.answered-2.ensures
    r.1 in
    record { answer = t.0; memory = t.1.0; text = t.1.1 }
