-- The texts that the views of scoreboard.rs show, each asked for with a lent buffer.
use Rattle.std.specs.Prelude.{ℕ, ◌-◌, Bool, false, cond, List, [], ◌∷◌, ◌++◌, ltb, length, take, Option, None, Some, option_map, slice_get}
use Rattle.laws.specs.Optional.{value_or, when_some}
use Rattle.std.specs.Option.{option_or}
use Rattle.laws.specs.Texts.{Text, bytes, decimal}
use Rattle.model.specs.Config.{UnitSpec, spec_name}
use Rattle.model.specs.Op.{Info, Op}
use Rattle.model.specs.Registers.{name_of}
use Rattle.model.specs.Timeline.{Row, overlay}
use Rattle.model.specs.Traces.{Trace, render}
use Rattle.model.specs.Units.{FunctionalUnit, unit_op}
use Rattle.model.specs.State.{State}
use Rattle.model.specs.Write.{offered_op}
use Rattle.model.specs.Views.{stage_op, working, station_op, claims}

-- Where an operation is shown: by queued, station, stage, unit (its first), or handed out by start.
pub data Place : Type 0 where
  in_queue in_station in_stage in_unit : ℕ → Place
  on_offer : Place

unfoldable pub op_at : State → Place → Option Op
op_at s (in_queue i) = slice_get s.queue i
op_at s (in_station i) = when_some (slice_get s.units i) None station_op
op_at s (in_stage i) = stage_op s i
op_at s (in_unit i) = option_map unit_op (working s i)
op_at s on_offer = offered_op s

-- A text of an operation; sources and writes by their place in the list.
pub data Field : Type 0 where
  disassembly destination fault : Field
  source write : ℕ → Field

unfoldable pub field : Info → Field → Option Text
field i disassembly = Some i.disassembly
field i destination = i.destination
field i fault = i.fault
field i (source j) = slice_get i.sources j
field i (write j) = slice_get i.writes j

pub data Request : Type 0 where
  status_message : Request
  slot_text : Place → Field → Request
  trace_detail row_disassembly stage_name unit_name station_label rename_register : ℕ → Request
  -- of a cell view's label
  cell_label : ℕ → Request
  -- station, operand
  operand_register : ℕ → ℕ → Request

-- SCOREBOARD_PHASES
unfoldable pub stage_names : List Text
stage_names = bytes "IF" ∷ bytes "IS" ∷ bytes "RO" ∷ bytes "EX" ∷ bytes "WR" ∷ []

-- Labels 0 IF, 1 IS, 2 RO, 3 WR, 4 FL, 8 + k the name of kind k.
unfoldable pub cell_labels : List Text
cell_labels = bytes "IF" ∷ bytes "IS" ∷ bytes "RO" ∷ bytes "WR" ∷ bytes "FL" ∷ []

unfoldable pub spec_names : List UnitSpec → ℕ → Option Text
spec_names ks i = option_map (λ (k : UnitSpec). k.name) (slice_get ks i)

unfoldable pub label_text : List UnitSpec → ℕ → Option Text
label_text ks n = option_or (slice_get cell_labels n) (cond (ltb n 8) None (spec_names ks (n - 8)))

-- A station's label: format!("{}{instance}", spec.name)
unfoldable pub station_text : List UnitSpec → FunctionalUnit → Text
station_text ks u = spec_name ks u.spec ++ decimal u.instance

-- A station shows its first two sources.
unfoldable pub operand_text : State → FunctionalUnit → ℕ → Option Text
operand_text s u j = option_map (name_of s.names) (slice_get (take 2 u.sources) j)

-- The text asked for; none where the index is past the end, or there is none.
unfoldable pub text_at : State → Request → Option Text
text_at s status_message = s.log.status
text_at s (slot_text p f) = when_some (op_at s p) None (λ (o : Op). field o.info f)
text_at s (trace_detail i) = option_map (λ (t : Trace). render t.detail) (slice_get s.log.traces i)
text_at s (row_disassembly i) = option_map (λ (r : Row). r.disassembly) (slice_get s.log.rows i)
text_at s (stage_name i) = slice_get stage_names i
text_at s (unit_name i) = spec_names s.machine.specs i
text_at s (station_label i) = option_map (station_text s.machine.specs) (slice_get s.units i)
text_at s (rename_register i) = option_map (λ (p : ℕ × ℕ). name_of s.names p.0) (slice_get (claims s) i)
text_at s (cell_label n) = label_text s.machine.specs n
text_at s (operand_register i j) = when_some (slice_get s.units i) None (λ (u : FunctionalUnit). operand_text s u j)

-- A buffer is too short for a text that is there.
unfoldable pub short_for : ℕ → Option Text → Bool
short_for room None = false
short_for room (Some t) = ltb room (length t)

-- The lent buffer after a text was written to it: the text's bytes, and then what stood there.
unfoldable pub buffer_with : Option Text → List ℕ → List ℕ
buffer_with t lent = overlay (value_or [] t) lent

-- All of these unfold where a line says `unfolding requests`.
unfoldable pub requests : Unit {0}
unfolding op_at field stage_names cell_labels spec_names label_text station_text operand_text text_at short_for buffer_with
requests = tt
