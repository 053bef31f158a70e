-- A refusal is the first row of a table that holds: a row that does not hold is passed.
use Prim.Native.Nat.{ℕ}
use mathlib.Core.Path.{◌≡◌, ap}
use mathlib.Core.Bool.{Bool, true, false, cond}
use Rattle.std.specs.Prelude.{None, Some}
use mathlib.Core.List.{List, ◌∷◌}
use Rattle.model.specs.Calls.{Check, first_of}

pub passed : (n : ℕ) {b : Bool} (ps : List Check) → b ≡ false → first_of ((n, b) ∷ ps) ≡ first_of ps
unfolding first_of
passed n ps e = ap (λ t. cond t (Some n) (first_of ps)) e

pub held : (n : ℕ) {b : Bool} (ps : List Check) → b ≡ true → first_of ((n, b) ∷ ps) ≡ Some n
unfolding first_of
held n ps e = ap (λ t. cond t (Some n) (first_of ps)) e
