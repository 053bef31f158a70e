-- The first i cells stand, of at most 10 bytes each.
use native.Mathlib.Omega.{arith}
use Rattle.model.specs.Forecast.{cells_text}
use Rattle.timeline.specs.Cells.{bare}
use Rattle.pages.proofs.Laid.{laid_none}
use Rattle.pages.proofs.Cells.{of_size, cells-within, cells-more}
use Rattle.pages.proofs.put_cells.Goals as goal

pub loop-i-init : goal.loop-i-init
unfolding cells_text
loop-i-init c = λ s e. laid_none _ _

pub put_nth_cell-next-requires : goal.put_nth_cell-next-requires
put_nth_cell-next-requires c =
    let l = c.loop-i in
    let a = c.args in
    let within = cells-within c.requires.machine_ok (bare a.row) a.cells.now l.i l.invariant in
    record {
      machine_ok = c.requires.machine_ok;
      window_ok = c.requires.window_ok;
      history_in_bounds = c.requires.history_in_bounds;
      at_in_bounds = omega (arith, c.loop-i-test.true, within, of_size a.machine.now l.invariant, c.requires.cells_in_bounds);
    }

pub loop-i-preserved : goal.loop-i-preserved
loop-i-preserved c =
    let l = c.loop-i in
    let a = c.args in
    cells-more c.requires.machine_ok (bare a.row) a.cells.now l.i l.invariant c.requires.history_value c.put_nth_cell-next.ensures
