-- What the wait of a unit that was turned away says.
use Rattle.std.specs.Prelude.{ℕ, ◌≡◌, List, map}
use Rattle.model.specs.Traces.{Trace as Wait}
use Rattle.model.specs.Write.{blocked_trace}
use Rattle.stalls.specs.declared.Trace.{Trace}
use Rattle.stalls.specs.View.{Frame, view_trace}
use Rattle.bank.specs.declared.Units.{Units}
use Rattle.bank.specs.View.{view_units}
use Rattle.writing.specs.declared.Turned.{Turned}
use Rattle.writing.specs.declared.Tried.{Tried}
use Rattle.writing.specs.View.{view_turned, turned_away}
use Rattle.telling.specs.Telling.{FromUnits}

-- The wait of a unit that was turned away.
pub record Told (us : Units) (t : Turned) (r : Trace) : Type 0 where
  pub is : (f : Frame) (target : ℕ) → view_trace f target r ≡ blocked_trace (view_units f.legend us) f.names (view_turned t)
  pub from : FromUnits us r

-- The waits of all that were turned away, in order.
abbrev pub blocked_waits : Units → Tried → Frame → List Wait
blocked_waits us tr f = map (blocked_trace (view_units f.legend us) f.names) (turned_away tr)
