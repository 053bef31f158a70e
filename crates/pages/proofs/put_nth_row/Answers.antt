-- A row where one is shown; else nothing.
use mathlib.Core.Path.{refl, sym, ap}
use Rattle.model.specs.Forecast.{lent_of}
use Rattle.pages.specs.Shown.{shown_row_text}
use Rattle.pages.proofs.Laid.{laid_as, laid-empty}
use Rattle.pages.proofs.put_nth_row.Goals as goal

pub returns-in-Some : goal.returns-in-Some
unfolding shown_row_text
returns-in-Some c = let a = c.args in
    λ s e. laid_as (sym (ap (shown_row_text (lent_of s a.cells.now)) c.in-Some.is)) (c.put_row.ensures s e)

pub returns-in-None : goal.returns-in-None
unfolding shown_row_text
returns-in-None c = let a = c.args in
    λ s e. laid-empty (ap (shown_row_text (lent_of s a.cells.now)) c.in-None.is) refl refl
