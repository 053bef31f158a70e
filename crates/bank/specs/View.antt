-- What the units mean to the model, and when they are well formed.
use Rattle.std.specs.Prelude.{ℕ, ◌≤◌, ◌<◌, ◌≡◌, List, map, length, take}
use Rattle.laws.specs.Lists.{All}
use Rattle.model.specs.Units.{FunctionalUnit}
use Rattle.registers.specs.View.{view_waits, read, written}
use Rattle.flight.specs.View.{Legend}
use Rattle.units.specs.declared.Unit.{Unit as Slot}
use Rattle.units.specs.View.{view_unit, UnitOk}
use Rattle.bank.specs.declared.Units.{Units}

unfoldable pub view_units : Legend → Units → List FunctionalUnit
view_units g us = take us.len (map (view_unit g) us.items)

-- The units in order, as they stand.
unfoldable pub slots : Units → List Slot
slots us = take us.len us.items

-- Their places in the pool.
unfoldable pub places : Units → List ℕ
places us = take us.len (map (λ (u : Slot). u.place) us.items)

pub record UnitsOk (us : Units) : Type 0 where
  pub few : us.len ≤ 64
  pub size : length us.items ≡ 64
  pub each : All UnitOk us.items

-- What a function that hands back units says: the model's units whatever the legend, and their places in the pool.
pub record UnitsAre (r : Units) (m : Legend → List FunctionalUnit) (ps : List ℕ) : Type 0 where
  pub is : (g : Legend) → view_units g r ≡ m g
  pub places : places r ≡ ps
  pub ok : UnitsOk r

-- The registers of a unit are among the first n.
pub record UnitKnows (n : ℕ) (u : Slot) : Type 0 where
  pub sources : All (λ (r : ℕ). r < n) (read u.operands)
  pub destinations : All (λ (r : ℕ). r < n) (written u.operands)
  pub pending : All (λ (p : ℕ × ℕ). p.0 < n) (view_waits u.pending)

-- All of these unfold where a line says `unfolding banks`.
unfoldable pub banks : Unit {0}
unfolding view_units slots places
banks = tt
