-- A call: a byte that says which, and what it carries.
use Rattle.std.specs.Prelude.{ℕ, ◌+◌, ◌-◌, Bool, true, cond, ◌&&◌, ◌||◌, List, [], ◌∷◌, ◌++◌, map, eqb, ltb, leb, length, get_or}
use Rattle.model.specs.Requests.{
  Place,
  in_queue,
  in_station,
  in_stage,
  in_unit,
  on_offer,
  Field,
  disassembly,
  destination,
  fault as fault_note,
  source,
  write,
  Request,
  status_message,
  slot_text,
  trace_detail,
  row_disassembly,
  stage_name,
  unit_name,
  station_label,
  rename_register,
  cell_label,
  operand_register,
}
use Rattle.model.specs.Calls.{
  View,
  status,
  stats,
  enabled,
  fetch_pc,
  resume_pc,
  stage_count,
  edges,
  entry_stages,
  stage_order,
  unit_count,
  trace_count,
  timeline_len,
  station_count,
  rename_count,
  queue_count,
  buffer_count,
  buffer_capacity,
  in_flight_before,
  stage,
  unit,
  trace,
  timeline_row,
  station,
  rename,
  queued,
  buffer_entry,
  Call,
  start,
  retire,
  retry,
  resolve,
  advance,
  fetch,
  capacity,
  overlap,
  halt,
  fault,
  reset,
  redirect,
  view,
  cell,
  text,
}
use Rattle.decoding.specs.Bytes.{byte_at, number_at, flag_at, text_at, optional_at, below}
use Rattle.decoding.specs.Operation.{op_at, op_formed}

-- What a reader makes of the bytes from a place on: the first of them says which call.
abbrev pub Reader : Type 0 → Type 0
Reader A = List ℕ → ℕ → A

-- ── How many bytes ──────────────────────────────────────────────────────────

-- Of the calls 0 to 48.
abbrev pub sizes : List ℕ
sizes =
    1 ∷ 1 ∷ 66 ∷ 9 ∷ 18 ∷ 391 ∷ 17 ∷ 2 ∷ 1 ∷ 66 ∷ 17 ∷ 9
    ∷ 1 ∷ 1 ∷ 1 ∷ 1 ∷ 1 ∷ 1 ∷ 1 ∷ 1 ∷ 1 ∷ 1 ∷ 1 ∷ 1 ∷ 1 ∷ 1 ∷ 1 ∷ 1 ∷ 1
    ∷ 9 ∷ 9 ∷ 9 ∷ 9 ∷ 9 ∷ 9 ∷ 9 ∷ 9 ∷ 9 ∷ 25
    ∷ 9 ∷ 27 ∷ 17 ∷ 17 ∷ 17 ∷ 17 ∷ 17 ∷ 17 ∷ 17 ∷ 25 ∷ []

-- 0 where there is no such call.
unfoldable pub size_at : Reader ℕ
size_at l at = get_or sizes (byte_at l at) 0

-- ── Driving: calls 0 to 11 ──────────────────────────────────────────────────

abbrev pub drives : List (Reader Call)
drives =
    (λ l at. start)
    ∷ (λ l at. retire)
    ∷ (λ l at. retry (text_at 64 l (at + 1)))
    ∷ (λ l at. resolve (number_at l (at + 1)))
    ∷ (λ l at. advance (optional_at number_at l (at + 1)) (number_at l (at + 10)))
    ∷ (λ l at. fetch (op_at l (at + 1)) (number_at l (at + 383)))
    ∷ (λ l at. capacity (number_at l (at + 1)) (number_at l (at + 9)))
    ∷ (λ l at. overlap (flag_at l (at + 1)))
    ∷ (λ l at. halt)
    ∷ (λ l at. fault (text_at 64 l (at + 1)))
    ∷ (λ l at. reset (number_at l (at + 1)) (number_at l (at + 9)))
    ∷ (λ l at. redirect (number_at l (at + 1)))
    ∷ []

-- ── Views: calls 12 to 28, 29 to 37 with an index, and the cell, 38 ──────────

abbrev pub plain_views : List View
plain_views =
    status
    ∷ stats
    ∷ enabled
    ∷ fetch_pc
    ∷ resume_pc
    ∷ stage_count
    ∷ edges
    ∷ entry_stages
    ∷ stage_order
    ∷ unit_count
    ∷ trace_count
    ∷ timeline_len
    ∷ station_count
    ∷ rename_count
    ∷ queue_count
    ∷ buffer_count
    ∷ buffer_capacity
    ∷ []

abbrev pub indexed_views : List (ℕ → View)
indexed_views =
    in_flight_before ∷ stage ∷ unit ∷ trace ∷ timeline_row ∷ station ∷ rename ∷ queued ∷ buffer_entry ∷ []

-- The view that a byte of 12 to 28 says.
unfoldable pub plain_view : ℕ → View
plain_view tag = get_or plain_views (tag - 12) status

-- The view that a byte of 29 to 37 says, of an index.
unfoldable pub indexed_view : ℕ → ℕ → View
indexed_view tag = get_or indexed_views (tag - 29) in_flight_before

abbrev pub shows : List (Reader Call)
shows =
    map (λ (v : View). λ l at. view v) plain_views ++ map (λ (v : ℕ → View). λ l at. view (v (number_at l (at + 1)))) indexed_views
    ++ (λ l at. cell (number_at l (at + 1)) (number_at l (at + 9)) (number_at l (at + 17))) ∷ []

-- ── Texts: calls 39 to 48 ───────────────────────────────────────────────────

-- A byte, and an index, which does not count on the offer.
unfoldable pub place_at : Reader Place
place_at l at =
    get_or (in_queue ∷ in_station ∷ in_stage ∷ in_unit ∷ []) (byte_at l at) (λ (i : ℕ). on_offer) (number_at l (at + 1))

-- A byte, and an index, which counts for a source and a write alone.
unfoldable pub field_at : Reader Field
field_at l at =
    get_or ((λ i. disassembly) ∷ (λ i. destination) ∷ (λ i. fault_note) ∷ source ∷ []) (byte_at l at) write (number_at l (at + 1))

abbrev pub asks : List (Reader Request)
asks =
    (λ l at. status_message)
    ∷ (λ l at. slot_text (place_at l (at + 1)) (field_at l (at + 10)))
    ∷ (λ l at. trace_detail (number_at l (at + 1)))
    ∷ (λ l at. row_disassembly (number_at l (at + 1)))
    ∷ (λ l at. stage_name (number_at l (at + 1)))
    ∷ (λ l at. unit_name (number_at l (at + 1)))
    ∷ (λ l at. station_label (number_at l (at + 1)))
    ∷ (λ l at. rename_register (number_at l (at + 1)))
    ∷ (λ l at. cell_label (number_at l (at + 1)))
    ∷ (λ l at. operand_register (number_at l (at + 1)) (number_at l (at + 9)))
    ∷ []

unfoldable pub request_at : Reader Request
request_at l at = get_or asks (byte_at l at - 39) (λ l at. status_message) l at

-- The last of its numbers.
unfoldable pub room_at : Reader ℕ
room_at l at = number_at l (at + (size_at l at - 8))

unfoldable pub text_call : Reader Call
text_call l at = text (request_at l at) (room_at l at)

-- ── The call at a place, and its form ───────────────────────────────────────

unfoldable pub call_at : Reader Call
call_at l at = get_or (drives ++ shows) (byte_at l at) text_call l at

-- By the byte that says which; the parts of the others have every form.
unfoldable pub parts_formed : ℕ → Reader Bool
parts_formed tag l at =
    cond (eqb tag 4 || eqb tag 7) (below 2 1 l (at + 1))
    (cond (eqb tag 5) (op_formed l (at + 1))
    (cond (ltb tag 39) true
    (leb (room_at l at) 65535 && cond (eqb tag 40) (below 5 1 l (at + 1) && below 5 1 l (at + 10)) true)))

-- There is such a call, all its bytes are there, and its parts are of their form.
unfoldable pub formed_at : Reader Bool
formed_at l at =
    ltb 0 (size_at l at) && (leb (at + size_at l at) (length l) && parts_formed (byte_at l at) l at)

-- All of these unfold where a line says `unfolding records`.
unfoldable pub records : Unit {0}
unfolding size_at plain_view indexed_view place_at field_at request_at room_at text_call call_at parts_formed formed_at
records = tt
