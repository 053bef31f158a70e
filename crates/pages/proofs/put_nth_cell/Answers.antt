-- The memory is long enough, so nothing is put only where there is no cell.
use mathlib.Core.Path.{refl, sym, ap, ◌∙◌}
use Rattle.config.specs.View.{view_machine}
use Rattle.timeline.specs.Cells.{bare}
use Rattle.pages.proofs.Laid.{laid_as, laid-empty}
use Rattle.pages.proofs.Cells.{found-cell, shown_or_none}
use Rattle.pages.proofs.put_nth_cell.Goals as goal

pub returns-in-Some : goal.returns-in-Some
returns-in-Some c =
    let a = c.args in
    let ks = (view_machine a.machine.now).specs in
    laid_as
    (ap (shown_or_none ks) (sym c.in-Some.is)
    ∙ found-cell ks a.window.history (bare a.row) a.cells.now a.index c.requires.history_in_bounds _ c.cell.ensures c.unwrap_or.ensures)
    c.put_cell.ensures

pub returns-in-None : goal.returns-in-None
returns-in-None c =
    let a = c.args in
    let ks = (view_machine a.machine.now).specs in
    laid-empty
    (sym
    (ap (shown_or_none ks) (sym c.in-None.is)
    ∙ found-cell ks a.window.history (bare a.row) a.cells.now a.index c.requires.history_in_bounds _ c.cell.ensures c.unwrap_or.ensures))
    refl refl
