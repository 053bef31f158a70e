-- The label has at most 8 bytes.
use native.Mathlib.Omega.{arith}
use Rattle.laws.specs.Texts.{bytes, utf8}
use Rattle.config.specs.View.{view_machine}
use Rattle.traces.proofs.Written.{laid_next}
use Rattle.pages.proofs.Laid.{laid_as, laid-within}
use Rattle.pages.proofs.Lengths.{short-labels}
use Rattle.pages.proofs.Cells.{stalled-parts, plain-parts}
use Rattle.pages.proofs.put_cell.Goals as goal

pub put-requires : goal.put-requires
put-requires c = laid-within c.put_label-b.ensures 8 1 (short-labels c.requires.machine_ok c.args.cell.label) (laid-within c.put-a.ensures 1 9 (omega arith) (omega (arith, c.requires.at_in_bounds)))

pub returns-then-eq : goal.returns-then-eq
unfolding bytes utf8
returns-then-eq c = laid_as (stalled-parts (view_machine c.args.machine.now).specs c.args.cell c.eq.ensures c.if-eq.true)
    (laid_next c.put-a.ensures (laid_next c.put_label-b.ensures c.put.ensures))

pub returns-else-eq : goal.returns-else-eq
unfolding bytes utf8
returns-else-eq c = laid_as (plain-parts (view_machine c.args.machine.now).specs c.args.cell c.eq.ensures c.if-eq.false)
    (laid_next c.put-a.ensures c.put_label-b.ensures)
