-- The limits within which every machine and call has a byte form: those of the numbers, the texts and the lists, whatever the engine makes of them.
use Rattle.std.specs.Prelude.{ℕ, ◌≤◌, ◌≡◌, List, length}
use Rattle.std.specs.Prelude.{Option, None, Some}
use Rattle.laws.specs.Lists.{All}
use Rattle.laws.specs.Numbers.{max64}
use Rattle.laws.specs.Texts.{Text}
use Rattle.model.specs.Op.{Given}
use Rattle.model.specs.Config.{UnitSpec, PipelineShape}
use Rattle.model.specs.Requests.{Place, Field, Request, status_message, slot_text, trace_detail, row_disassembly, stage_name, unit_name, station_label, rename_register, cell_label, operand_register}
use Rattle.model.specs.Calls.{View, Call, start, retire, retry, resolve, advance, fetch, capacity, overlap, halt, fault, reset, redirect, view, cell, text}
use Rattle.config.specs.View.{flagged}
use Rattle.decoding.specs.Script.{Script}
use Rattle.encoding.specs.Records.{flags_of, extras}
use Rattle.encoding.specs.Calls.{view_part, place_part, field_part, script_bytes}

-- A number of 64 bits.
abbrev pub Number : ℕ → Type 0
Number n = n ≤ max64

abbrev pub Byte : ℕ → Type 0
Byte b = b ≤ 255

-- At most so many bytes.
abbrev pub Short : ℕ → Text → Type 0
Short most t = (length t ≤ most) × All Byte t

-- At most so many, each within its limits.
abbrev pub Few : {A : Type 0} → ℕ → (A → Type 0) → List A → Type 0
Few most P l = (length l ≤ most) × All P l

-- Where it is there.
abbrev pub Where : {A : Type 0} → (A → Type 0) → Option A → Type 0
Where P None = Unit {0}
Where P (Some a) = P a

pub record WithinOp (g : Given) : Type 0 where
  pub address : Number g.decoded.address
  pub size : Number g.decoded.size
  pub payload : Number g.info.payload
  pub disassembly : Short 64 g.info.disassembly
  pub fault : Where (Short 64) g.info.fault
  pub destination : Where (Short 16) g.info.destination
  pub sources : Few 8 (Short 16) g.info.sources
  pub writes : Few 4 (Short 16) g.info.writes

pub record WithinKind (k : UnitSpec) : Type 0 where
  pub name : Short 8 k.name
  -- Of the classes only the set counts: they are listed in class order, each once.
  pub classes : flagged (flags_of k.classes) ≡ k.classes
  pub capacity : Number k.capacity

pub record WithinShape (d : PipelineShape) : Type 0 where
  pub stages : length d.stages ≤ 16
  pub instruction_bytes : Where Number d.instruction_bytes
  pub times : All Number (extras d.times)
  pub units : Few 16 WithinKind d.units
  pub history : Number d.history

-- The numbers that a view carries; the index of a place and of a field.
abbrev pub WithinView : View → Type 0
WithinView v = All Number (view_part v).1

abbrev pub WithinPlace : Place → Type 0
WithinPlace p = Number (place_part p).1

abbrev pub WithinField : Field → Type 0
WithinField f = Number (field_part f).1

abbrev pub WithinRequest : Request → Type 0
WithinRequest status_message = Unit {0}
WithinRequest (slot_text p f) = WithinPlace p × WithinField f
WithinRequest (trace_detail i) = Number i
WithinRequest (row_disassembly i) = Number i
WithinRequest (stage_name i) = Number i
WithinRequest (unit_name i) = Number i
WithinRequest (station_label i) = Number i
WithinRequest (rename_register i) = Number i
WithinRequest (cell_label n) = Number n
WithinRequest (operand_register i j) = Number i × Number j

abbrev pub WithinCall : Call → Type 0
WithinCall start = Unit {0}
WithinCall retire = Unit {0}
WithinCall (retry reason) = Short 64 reason
WithinCall (resolve a) = Number a
WithinCall (advance r lent) = Where Number r × Number lent
WithinCall (fetch g lent) = WithinOp g × Number lent
WithinCall (capacity k n) = Number k × Number n
WithinCall (overlap b) = Unit {0}
WithinCall halt = Unit {0}
WithinCall (fault note) = Short 64 note
WithinCall (reset a lent) = Number a × Number lent
WithinCall (redirect a) = Number a
WithinCall (view v) = WithinView v
WithinCall (cell r c lent) = Number r × Number c × Number lent
WithinCall (text q room) = WithinRequest q × (room ≤ 65535)

pub record Within (s : Script) : Type 0 where
  pub shape : WithinShape s.shape
  pub entry : Number s.entry
  pub lent : Number s.lent
  pub calls : All WithinCall s.calls
  pub size : length (script_bytes s) ≤ 16777216
