-- What a unit means to the model, and when it is well formed.
use Rattle.std.specs.Prelude.{ℕ, ◌≤◌, ◌<◌, ◌≡◌}
use Rattle.model.specs.Units.{FunctionalUnit, unit_of}
use Rattle.registers.specs.View.{view_waits, WaitsOk, read, written, OperandsOk}
use Rattle.flight.specs.View.{Legend, carried_at, op_with}
use Rattle.units.specs.declared.Unit.{Unit as Slot}

-- The model keeps class and redirects beside the operation and in it.
unfoldable pub view_unit : Legend → Slot → FunctionalUnit
view_unit g u =
    unit_of u.spec u.instance u.class u.redirects u.busy
    (op_with (carried_at g u.place) g u.seq u.class u.redirects u.operands u.progress.hazard u.progress.cycles_left)
    u.progress.phase (read u.operands) (written u.operands) (view_waits u.pending)

pub record UnitOk (u : Slot) : Type 0 where
  pub operands : OperandsOk u.operands
  pub pending : WaitsOk u.pending
  pub spec : u.spec < 16
  pub place : u.place ≤ 80

-- What a function that hands back a unit says: the model's unit whatever the legend, and its place in the pool.
pub record UnitIs (r : Slot) (m : Legend → FunctionalUnit) (at : ℕ) : Type 0 where
  pub is : (g : Legend) → view_unit g r ≡ m g
  pub place : r.place ≡ at
  pub ok : UnitOk r
