-- The bytes of a call: one that says which, and what the call carries. The bytes of a list: the machine, and the calls in order.
use Rattle.std.specs.Prelude.{ℕ}
use mathlib.Core.List.{List, [], ◌∷◌, ◌++◌, map, flatten}
use Rattle.model.specs.Requests.{Place, in_queue, in_station, in_stage, in_unit, on_offer, Field, disassembly, destination, fault as fault_note, source, write, Request, status_message, slot_text, trace_detail, row_disassembly, stage_name, unit_name, station_label, rename_register, cell_label, operand_register}
use Rattle.model.specs.Calls.{View, status, stats, enabled, fetch_pc, resume_pc, stage_count, edges, entry_stages, stage_order, unit_count, trace_count, timeline_len, station_count, rename_count, queue_count, buffer_count, buffer_capacity, in_flight_before, stage, unit, trace, timeline_row, station, rename, queued, buffer_entry, Call, start, retire, retry, resolve, advance, fetch, capacity, overlap, halt, fault, reset, redirect, view, cell, text}
use Rattle.decoding.specs.Script.{Script}
use Rattle.encoding.specs.Parts.{byte, number_bytes, flag_bytes, optional_bytes}
use Rattle.encoding.specs.Records.{text_of, op_bytes, machine_bytes}

-- A byte that says which, and numbers.
abbrev pub numbered : ℕ → List ℕ → List (List ℕ)
numbered tag ns = byte tag ∷ map number_bytes ns

-- The byte that says which view, and the numbers that it carries.
unfoldable pub view_part : View → ℕ × List ℕ
view_part status = (12, [])
view_part stats = (13, [])
view_part enabled = (14, [])
view_part fetch_pc = (15, [])
view_part resume_pc = (16, [])
view_part stage_count = (17, [])
view_part edges = (18, [])
view_part entry_stages = (19, [])
view_part stage_order = (20, [])
view_part unit_count = (21, [])
view_part trace_count = (22, [])
view_part timeline_len = (23, [])
view_part station_count = (24, [])
view_part rename_count = (25, [])
view_part queue_count = (26, [])
view_part buffer_count = (27, [])
view_part buffer_capacity = (28, [])
view_part (in_flight_before i) = (29, i ∷ [])
view_part (stage i) = (30, i ∷ [])
view_part (unit i) = (31, i ∷ [])
view_part (trace i) = (32, i ∷ [])
view_part (timeline_row i) = (33, i ∷ [])
view_part (station i) = (34, i ∷ [])
view_part (rename i) = (35, i ∷ [])
view_part (queued i) = (36, i ∷ [])
view_part (buffer_entry i) = (37, i ∷ [])

-- The byte that says which place, and its index.
unfoldable pub place_part : Place → ℕ × ℕ
place_part (in_queue i) = (0, i)
place_part (in_station i) = (1, i)
place_part (in_stage i) = (2, i)
place_part (in_unit i) = (3, i)
place_part on_offer = (4, 0)

unfoldable pub field_part : Field → ℕ × ℕ
field_part disassembly = (0, 0)
field_part destination = (1, 0)
field_part fault_note = (2, 0)
field_part (source j) = (3, j)
field_part (write j) = (4, j)

unfoldable pub part_bytes : ℕ × ℕ → List ℕ
part_bytes p = byte p.0 ++ number_bytes p.1

-- The request and its room.
abbrev pub request_parts : Request → ℕ → List (List ℕ)
request_parts status_message room = numbered 39 (room ∷ [])
request_parts (slot_text p f) room = byte 40 ∷ part_bytes (place_part p) ∷ part_bytes (field_part f) ∷ number_bytes room ∷ []
request_parts (trace_detail i) room = numbered 41 (i ∷ room ∷ [])
request_parts (row_disassembly i) room = numbered 42 (i ∷ room ∷ [])
request_parts (stage_name i) room = numbered 43 (i ∷ room ∷ [])
request_parts (unit_name i) room = numbered 44 (i ∷ room ∷ [])
request_parts (station_label i) room = numbered 45 (i ∷ room ∷ [])
request_parts (rename_register i) room = numbered 46 (i ∷ room ∷ [])
request_parts (cell_label n) room = numbered 47 (n ∷ room ∷ [])
request_parts (operand_register i j) room = numbered 48 (i ∷ j ∷ room ∷ [])

abbrev pub call_parts : Call → List (List ℕ)
call_parts start = numbered 0 []
call_parts retire = numbered 1 []
call_parts (retry reason) = byte 2 ∷ text_of reason ∷ []
call_parts (resolve a) = numbered 3 (a ∷ [])
call_parts (advance r lent) = byte 4 ∷ optional_bytes number_bytes 0 r ∷ number_bytes lent ∷ []
call_parts (fetch g lent) = byte 5 ∷ op_bytes g ∷ number_bytes lent ∷ []
call_parts (capacity k n) = numbered 6 (k ∷ n ∷ [])
call_parts (overlap b) = byte 7 ∷ flag_bytes b ∷ []
call_parts halt = numbered 8 []
call_parts (fault note) = byte 9 ∷ text_of note ∷ []
call_parts (reset a lent) = numbered 10 (a ∷ lent ∷ [])
call_parts (redirect a) = numbered 11 (a ∷ [])
call_parts (view v) = numbered (view_part v).0 (view_part v).1
call_parts (cell r c lent) = numbered 38 (r ∷ c ∷ lent ∷ [])
call_parts (text q room) = request_parts q room

unfoldable pub call_bytes : Call → List ℕ
call_bytes c = flatten (call_parts c)

unfoldable pub script_bytes : Script → List ℕ
script_bytes s = flatten (machine_bytes s.shape s.entry s.lent ∷ map call_bytes s.calls)
