-- The bench cases hold, by computing.
use mathlib.Core.Path.{◌≡◌, refl}
use mathlib.Core.Bool.{true}
use mathlib.Core.List.{[], ◌∷◌}
use Rattle.model.specs.Everything.{everything}
use Rattle.cases.specs.Table.{all_hold, cases, table}
use Rattle.cases.specs.W.{w_run, offers, w_stalls, w}

-- P1 to P12, and what `forecast` prints: every row.
pub cases-hold : all_hold cases ≡ true
unfolding everything table
cases-hold = refl

-- W: offers a in cycle 8, b in 11, c in 12.
pub w-offers : offers 20 w_run ≡ (8, 0) ∷ (11, 1) ∷ (12, 2) ∷ []
unfolding everything table w
w-offers = refl

-- W: RAW 4, WAR 2.
pub w-waits : w_stalls ≡ 4 ∷ 2 ∷ []
unfolding everything table w
w-waits = refl
