-- The first i rows stand, of at most 2042 bytes each.
use Rattle.timeline.specs.View.{view_rows}
use Rattle.pages.proofs.Rows.{FirstRows}
use Rattle.pages.proofs.put_rows.Given as goal

abbrev pub invariant-loop-i : goal.invariant-loop-i
invariant-loop-i l = FirstRows l.machine l.cells (view_rows l.window l.tracks l.texts) l.at l.initial.page l.page l.next l.i
