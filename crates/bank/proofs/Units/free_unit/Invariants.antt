use Rattle.laws.specs.Lists.{find_at}
use Rattle.laws.proofs.Search.{Scan}
use Rattle.model.specs.Issue.{is_free}
use Rattle.flight.specs.View.{Legend}
use Rattle.bank.specs.View.{view_units}
use Rattle.bank.proofs.Units.free_unit.Given as goal

abbrev pub invariant-loop-i : goal.invariant-loop-i
invariant-loop-i l = (g : Legend) → Scan (find_at (is_free l.spec)) 0 (view_units g l.self) l.self.len l.i l.i
