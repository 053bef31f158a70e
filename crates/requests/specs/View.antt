-- What a text request asks for, and what stands behind the numbers of waits.
use Rattle.std.specs.Prelude.{ℕ, [], take, None}
use Rattle.model.specs.Requests.{
  Place as OpPlace,
  in_queue,
  in_station,
  in_stage,
  in_unit,
  on_offer,
  Field as OpField,
  disassembly,
  destination,
  fault,
  source,
  write,
}
use Rattle.config.specs.declared.Machine.{Machine}
use Rattle.config.specs.View.{view_machine}
use Rattle.registers.specs.declared.RegisterTable.{RegisterTable}
use Rattle.registers.specs.View.{view_held}
use Rattle.flight.specs.declared.pool.DecodedPool.{DecodedPool}
use Rattle.flight.specs.declared.pool.TextPool.{TextPool}
use Rattle.flight.specs.Pool.{legend}
use Rattle.stalls.specs.View.{Frame}
use Rattle.requests.specs.declared.Place.{Place}
use Rattle.requests.specs.declared.Place.TheVariants as place
use Rattle.requests.specs.declared.Field.{Field}
use Rattle.requests.specs.declared.Field.TheVariants as field

-- What stands behind the numbers of waits, with n names known.
abbrev pub wait_frame : DecodedPool → TextPool → RegisterTable → Machine → ℕ → Frame
wait_frame ds ts t m n =
    record {
      legend = legend ds ts (view_held t);
      kinds = (view_machine m).specs;
      names = take n (view_held t);
      rows = [];
      status = None;
    }

unfoldable pub view_place : Place → OpPlace
view_place (place.Queue i) = in_queue i
view_place (place.Station i) = in_station i
view_place (place.Stage i) = in_stage i
view_place (place.Kind i) = in_unit i
view_place place.Offer = on_offer

unfoldable pub view_field : Field → OpField
view_field field.Disassembly = disassembly
view_field field.Destination = destination
view_field field.Fault = fault
view_field (field.Source j) = source j
view_field (field.Write j) = write j

-- Both unfold where a line says `unfolding requested`.
unfoldable pub requested : Unit {0}
unfolding view_place view_field
requested = tt
