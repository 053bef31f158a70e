-- `best` is the best of those before `at`.
use Rattle.std.proofs.Common.{◌≡◌, drop, None}
use Rattle.units.specs.Lent.{best_from}
use Rattle.units.proofs.lent.oldest_busy.Given as goal

abbrev pub invariant-loop-at : goal.invariant-loop-at
invariant-loop-at l = best_from l.at l.best (drop l.at l.units) ≡ best_from 0 None l.units
