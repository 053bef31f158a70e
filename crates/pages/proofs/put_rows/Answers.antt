-- The first i rows stand, of at most 2042 bytes each.
use mathlib.Core.Path.{ap}
use native.Mathlib.Omega.{arith}
use Rattle.model.specs.Forecast.{lent_of, rows_text}
use Rattle.pages.proofs.Laid.{laid_as}
use Rattle.pages.proofs.Rows.{few-cells, all-rows, rows-first, rows-size, rows_more}
use Rattle.pages.proofs.put_rows.Goals as goal

pub loop-i-init : goal.loop-i-init
loop-i-init c = rows-first

pub put_nth_row-next-requires : goal.put_nth_row-next-requires
put_nth_row-next-requires c =
    let l = c.loop-i in
    let few = few-cells c.requires.window_ok c.requires.tracks_ok c.args.texts.now c.loop-i-test.true c.row-shown.ensures in
    record {
      machine_ok = c.requires.machine_ok;
      window_ok = c.requires.window_ok;
      history_value = c.requires.history_value;
      history_in_bounds = c.requires.history_in_bounds;
      few_cells = few;
      at_in_bounds = omega (arith, c.loop-i-test.true, l.invariant.most, rows-size l.invariant, c.requires.held_in_bounds);
    }

pub loop-i-preserved : goal.loop-i-preserved
loop-i-preserved c =
    let l = c.loop-i in
    let few = few-cells c.requires.window_ok c.requires.tracks_ok c.args.texts.now c.loop-i-test.true c.row-shown.ensures in
    rows_more l.invariant c.requires.machine_ok few c.row-shown.ensures c.put_nth_row-next.ensures

pub returns : goal.returns
returns c =
    let l = c.loop-i in
    let a = c.args in
    let all = all-rows a.window a.tracks.now a.texts.now c.loop-i-test.false in
    record {
      text = λ s e. laid_as (ap (rows_text (lent_of s a.cells.now)) all) (l.invariant.text s e);
      most = omega (arith, l.auto.i-end, l.invariant.most);
    }
