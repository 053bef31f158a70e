-- At most 256 rows of 2042 bytes, and 87 bytes of totals.
use mathlib.Core.Path.{refl, sym, ap, ◌∙◌}
use native.Mathlib.Omega.{arith}
use Rattle.model.specs.Forecast.{refused_text}
use Rattle.board.specs.View.{view_board}
use Rattle.scoreboard.specs.View.{view_engine}
use Rattle.engine.specs.View.{view_engine as engine-view}
use Rattle.stalls.specs.View.{view_stats}
use Rattle.traces.proofs.Written.{laid_next}
use Rattle.pages.proofs.Laid.{laid_as, laid-empty, laid-most}
use Rattle.forecasting.proofs.Runs.{none-printed, refused-printed, rows-printed, refused-most, totals-most}
use Rattle.forecasting.proofs.put_run.Goals as goal

pub returns-in-Running-clause-text : goal.returns-in-Running-clause-text
returns-in-Running-clause-text c input =
    let a = c.args in
    laid-empty (none-printed input a.engine.now a.run.now a.cells.now c.in-Running.is) refl refl

pub returns-in-Refused : goal.returns-in-Refused
returns-in-Refused c =
    let a = c.args in
    let l = c.put_refused.ensures in
    record {
      text = λ input.
          laid_as (ap (refused_text a.run.now.lines) c.from.ensures ∙ sym (refused-printed input a.engine.now a.run.now a.cells.now c.in-Refused.is)) l;
      most = omega (arith, laid-most l 55 (refused-most a.run.now.lines c.from.result));
    }

pub put_rows-n-requires : goal.put_rows-n-requires
put_rows-n-requires c =
    let p = c.requires.valid.parts in
    record {
      machine_ok = p.machine;
      window_ok = p.window;
      tracks_ok = p.tracks;
      row_texts_ok = p.rows;
      history_value = p.history;
      history_in_bounds = c.requires.history_in_bounds;
      held_in_bounds = omega (arith, c.requires.in_bounds, p.window.few, p.window.most);
    }

pub put_totals-requires : goal.put_totals-requires
put_totals-requires c =
    let w = c.requires.valid.parts.window in
    omega (arith, c.put_rows-n.ensures.most, c.put_rows-n.auto.page, c.requires.in_bounds, w.few, w.most)

pub returns-in-Finished : goal.returns-in-Finished
unfolding engine-view view_board
returns-in-Finished c =
    let a = c.args in
    let e = a.engine.now in
    let w = c.requires.valid.parts.window in
    record {
      text = λ input.
          laid_as (sym (rows-printed input e a.run.now a.cells.now c.in-Finished.is))
          (laid_next (c.put_rows-n.ensures.text (view_engine e) refl) c.put_totals.ensures);
      most = omega (arith, laid-most c.put_totals.ensures 87 (totals-most (view_stats e.board.log.stats)), c.put_rows-n.ensures.most, w.few, w.most);
    }
