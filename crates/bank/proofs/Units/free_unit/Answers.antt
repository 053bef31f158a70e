use Rattle.std.proofs.Common.{sym, ◌∙◌}
use Rattle.laws.proofs.Search.{scan-first, scan-next, scan-stop, scan-last, find-hit, find-miss, find-end}
use Rattle.bank.proofs.Steps.{slot-next, slots-end}
use Rattle.bank.proofs.Units.free_unit.Goals as goal

pub loop-i-init : goal.loop-i-init
loop-i-init c = λ g. scan-first

pub returns-then-is_free : goal.returns-then-is_free
returns-then-is_free c = λ g.
    scan-stop (c.loop-i.invariant g) (slot-next c.requires c.as_slice-unit-items.ensures _ c.loop-i-test.true g)
    (find-hit _ (sym (c.is_free.ensures g _) ∙ c.if-is_free.true))

pub loop-i-preserved : goal.loop-i-preserved
loop-i-preserved c = λ g.
    scan-next (c.loop-i.invariant g) (slot-next c.requires c.as_slice-unit-items.ensures _ c.loop-i-test.true g)
    (find-miss _ (sym (c.is_free.ensures g _) ∙ c.if-is_free.false))

pub returns : goal.returns
returns c = λ g. scan-last (c.loop-i.invariant g) (slots-end c.requires c.as_slice-unit-items.ensures g c.loop-i-test.false) (find-end _ _)
