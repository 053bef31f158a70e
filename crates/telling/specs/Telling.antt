-- Waits that units tell a log: the model's, and what the numbers in them are.
use Rattle.std.specs.Prelude.{ℕ, ◌+◌, ◌≤◌, ◌<◌, ◌≡◌, true, ◌⊎◌, List, ◌++◌, map, Some, slice_get}
use Rattle.laws.specs.Lists.{All, elem, keep}
use Rattle.model.specs.Traces.{Trace as Wait}
use Rattle.model.specs.State.{stall_all}
use Rattle.model.specs.Op.{mnemonic}
use Rattle.model.specs.Units.{unit_at, waits}
use Rattle.model.specs.Issue.{wait_trace}
use Rattle.flight.specs.View.{Legend}
use Rattle.stalls.specs.declared.Trace.{Trace}
use Rattle.stalls.specs.declared.Log.{Log}
use Rattle.stalls.specs.View.{Frame, word_at, view_trace, listed, view_log, LogOk}
use Rattle.stalls.specs.Promises.{NoRedirect, Known}
use Rattle.units.specs.declared.Unit.{Unit as Slot}
use Rattle.bank.specs.declared.Units.{Units}
use Rattle.units.specs.View.{view_unit}
use Rattle.bank.specs.View.{view_units, slots, places, UnitKnows}

-- A unit's place in the pool, or 80, which is none.
abbrev pub Placed : Units → ℕ → Type 0
Placed us p = (p ≡ 80) ⊎ (elem p (places us) ≡ true)

pub record FromUnits (us : Units) (t : Trace) : Type 0 where
  pub mine : Placed us t.mine
  pub other : Placed us t.other
  pub known : (n : ℕ) → All (UnitKnows n) (slots us) → Known n t
  pub other_form : NoRedirect t

-- The place in the pool of a unit's operation.
pub record PlaceOf (us : Units) (unit r : ℕ) : Type 0 where
  pub is : (g : Legend) → word_at g r ≡ mnemonic (unit_at (view_units g us) unit).op
  pub placed : Placed us r

-- The wait of a unit for its first source that is owed.
pub record Heard (us : Units) (u : Slot) (t : Trace) : Type 0 where
  pub is
      : (f : Frame) (target : ℕ) → view_trace f target t ≡ wait_trace (view_units f.legend us) f.names (view_unit f.legend u)
  -- Where u is one of the units, and waits.
  pub from : (i : ℕ) → slice_get (slots us) i ≡ Some u → 0 < u.pending.len → FromUnits us t

-- The log r is the log l with these waits told, each of them about units.
pub record Tells (us : Units) (l r : Log) (ws : Frame → List Wait) : Type 0 where
  pub is : (f : Frame) → view_log f r ≡ stall_all (ws f) (view_log f l)
  pub target : r.traces.target ≡ l.traces.target
  pub few : r.traces.len ≤ l.traces.len + us.len
  pub told : List Trace
  pub waits : listed r.traces ≡ listed l.traces ++ told
  pub each : All (FromUnits us) told
  pub ok : LogOk r

-- The waits of the units that wait for a source, in order.
abbrev pub source_waits : Units → Frame → List Wait
source_waits us f = map (wait_trace (view_units f.legend us) f.names) (keep waits (view_units f.legend us))
