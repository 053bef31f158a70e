-- The calls on an engine: what each is refused for, what it answers and leaves, and what it looks at.
-- A call carries the length of the memory that is lent with it.
use Rattle.std.specs.Prelude.{ℕ, ◌*◌, max, Bool, true, false, cond, not, ◌&&◌, ◌||◌, List, [], ◌∷◌, ◌++◌, eqb, ltb, length, take, Option, None, Some, option_map, slice_get}
use Rattle.laws.specs.Optional.{is_none, when_some}
use Rattle.std.specs.List.{list_any}
use Rattle.laws.specs.Numbers.{max64}
use Rattle.laws.specs.Texts.{Text}
use Rattle.model.specs.Config.{Timing, UnitSpec, specs_or_generic, capacities, PipelineShape}
use Rattle.model.specs.Op.{Info, Given, Op}
use Rattle.model.specs.Registers.{intern_all}
use Rattle.model.specs.Timeline.{Write, open_writes, clear_writes, write_all}
use Rattle.model.specs.State.{Stats, State, new}
use Rattle.model.specs.Write.{offered_op, start_cycle, retire as do_retire, retry as do_retry, resolve_branch, halt as do_halt, fault as do_fault}
use Rattle.model.specs.Issue.{look}
use Rattle.model.specs.Scoreboard.{
  advance as do_advance,
  advance_looked,
  advance_writes,
  fetched,
  with_noted,
  set_capacity,
  set_enabled,
  reset_to,
  resume_pc as resume,
  in_flight_before as older_in_flight,
}
use Rattle.model.specs.Views.{
  SlotView,
  slot_view,
  OfferView,
  offer_view,
  StatusView,
  status_view,
  StageView,
  stage_view,
  stages,
  Edge,
  edges as all_edges,
  entry_stages as all_entries,
  stage_order as all_ordered,
  UnitView,
  unit_view,
  TraceView,
  trace_view,
  RowView,
  row_view,
  CellView,
  cell_view,
  cell_byte,
  cell_there,
  StationView,
  station_view,
  claims,
}
use Rattle.model.specs.Requests.{Request, text_at, short_for, buffer_with}

-- ── Calls ───────────────────────────────────────────────────────────────────

-- The views that need no lent memory, under the Rust's names.
pub data View : Type 0 where
  status stats enabled fetch_pc resume_pc stage_count edges entry_stages stage_order unit_count trace_count : View
  timeline_len station_count rename_count queue_count buffer_count buffer_capacity : View
  in_flight_before stage unit trace timeline_row station rename queued buffer_entry : ℕ → View

pub data Call : Type 0 where
  start : Call
  retire : Call
  retry : Text → Call
  -- where the offered operation went
  resolve : ℕ → Call
  -- redirect, cell memory
  advance : Option ℕ → ℕ → Call
  -- operation, cell memory
  fetch : Given → ℕ → Call
  -- kind, instances
  capacity : ℕ → ℕ → Call
  overlap : Bool → Call
  halt : Call
  fault : Text → Call
  -- PipelineControl::reset, which clears the history: address, cell memory
  reset : ℕ → ℕ → Call
  -- PipelineControl::redirect, which keeps it: address
  redirect : ℕ → Call
  view : View → Call
  -- timeline_cell: row, cell, cell memory
  cell : ℕ → ℕ → ℕ → Call
  -- text, text buffer
  text : Request → ℕ → Call

-- ── Refusals: a table of (number, test) for each call, in the order that counts ─

abbrev pub Check : Type 0
Check = ℕ × Bool

-- The number of the first test that holds.
unfoldable pub first_of : List Check → Option ℕ
first_of [] = None
first_of (p ∷ ps) = cond p.1 (Some p.0) (first_of ps)

-- 1, too big
unfoldable pub too_big : PipelineShape → Bool
too_big d =
    ltb 16 (length d.units) || ltb 64 (capacities (specs_or_generic d.units)) || ltb 16 (length d.stages) || ltb 256 d.history

-- 2, bad text: bytes 0x20 to 0x7E, and a most length
unfoldable pub bad_byte : ℕ → Bool
bad_byte b = ltb b 32 || ltb 126 b

unfoldable pub bad_text : ℕ → Text → Bool
bad_text most t = ltb most (length t) || list_any bad_byte t

unfoldable pub bad_spec_name : UnitSpec → Bool
bad_spec_name k = eqb (length k.name) 0 || bad_text 8 k.name

-- Of the names the first 8 and the first 4.
unfoldable pub bad_info : Info → Bool
bad_info i =
    bad_text 64 i.disassembly || when_some i.fault false (bad_text 64) || when_some i.destination false (bad_text 16)
    || list_any (bad_text 16) (take 8 i.sources) || list_any (bad_text 16) (take 4 i.writes)

-- 3, a used extra is 2^64 - 1
unfoldable pub extra_overflows : Timing → Bool
extra_overflows t =
    list_any (eqb max64) (t.alu ∷ t.mul ∷ t.div ∷ t.load ∷ t.store ∷ t.system ∷ t.fp ∷ [])

-- 6, no offer
unfoldable pub no_offer : State → Bool
no_offer s = is_none s.offer.writing

-- 7, an offer that was not retired
unfoldable pub unsettled : State → Bool
unsettled s = not (no_offer s) && not s.offer.retired

-- 9, operands
unfoldable pub too_many : Info → Bool
too_many i = ltb 8 (length i.sources) || ltb 4 (length i.writes)

-- 10, names full: the distinct names, known, queued and new
unfoldable pub names_in : List Op → List Text
names_in [] = []
names_in (o ∷ os) = o.info.sources ++ (o.info.writes ++ names_in os)

unfoldable pub names_with : State → Info → ℕ
names_with s i = length (intern_all s.names (names_in s.queue ++ (i.sources ++ i.writes))).names

-- 13, cell memory under 200 bytes a row
unfoldable pub short_memory : State → ℕ → Bool
short_memory s lent = ltb lent (s.machine.history * 200)

unfoldable pub make_checks : PipelineShape → ℕ → List Check
make_checks d lent =
    (1, too_big d) ∷ (2, list_any bad_spec_name d.units) ∷ (3, extra_overflows d.times) ∷ (13, ltb lent (max 1 d.history * 200)) ∷ []

unfoldable pub checks : State → Call → List Check
checks s start = (4, s.front.in_cycle) ∷ []
checks s retire = (5, not s.front.in_cycle) ∷ (6, no_offer s || s.offer.retired) ∷ []
checks s (retry reason) = (5, not s.front.in_cycle) ∷ (6, no_offer s || s.offer.retired) ∷ (2, bad_text 64 reason) ∷ []
checks s (resolve a) = (5, not s.front.in_cycle) ∷ (6, no_offer s) ∷ []
checks s (advance r lent) = (5, not s.front.in_cycle) ∷ (7, unsettled s) ∷ (13, short_memory s lent) ∷ []
checks s (fetch g lent) =
    (4, s.front.in_cycle) ∷ (8, not s.front.invited) ∷ (2, bad_info g.info) ∷ (9, too_many g.info)
    ∷ (11, eqb s.front.next_seq max64) ∷ (10, ltb 256 (names_with s g.info)) ∷ (13, short_memory s lent) ∷ []
checks s (capacity k n) =
    (4, s.front.in_cycle) ∷ (12, is_none (slice_get s.machine.specs k)) ∷ (1, ltb 64 (capacities (with_noted k n s))) ∷ []
checks s (overlap b) = []
checks s halt = []
checks s (fault note) = (2, bad_text 64 note) ∷ []
checks s (reset a lent) = (13, short_memory s lent) ∷ []
checks s (redirect a) = []
checks s (view v) = []
checks s (cell r c lent) = (13, cell_there s r c && short_memory s lent) ∷ []
checks s (text t room) = (13, short_for room (text_at s t)) ∷ []

unfoldable pub make_refusal : PipelineShape → ℕ → Option ℕ
make_refusal d lent = first_of (make_checks d lent)

unfoldable pub refusal : State → Call → Option ℕ
refusal s c = first_of (checks s c)

-- ── Making ──────────────────────────────────────────────────────────────────

-- What making hands back: a number, or an engine.
pub data Made : Type 0 where
  no_machine : ℕ → Made
  made : State → Made

unfoldable pub make : PipelineShape → ℕ → List ℕ → Made
make d entry lent = when_some (make_refusal d (length lent)) (made (new d entry)) no_machine

-- The lent cell memory after it.
unfoldable pub memory_made : PipelineShape → List ℕ → List ℕ
memory_made d lent = write_all (clear_writes (max 1 d.history)) lent

unfoldable pub make_memory : PipelineShape → List ℕ → List ℕ
make_memory d lent = when_some (make_refusal d (length lent)) (memory_made d lent) (λ (n : ℕ). lent)

-- ── Answers ─────────────────────────────────────────────────────────────────

pub data Answer : Type 0 where
  refused : ℕ → Answer
  done : Answer
  offered : Option OfferView → Answer
  -- where to redirect to
  resolved : Option ℕ → Answer
  -- the address to fetch from
  invitation : Option ℕ → Answer
  shown_status : StatusView → Answer
  shown_stats : Stats → Answer
  shown_flag : Bool → Answer
  shown_number : ℕ → Answer
  shown_stages : List ℕ → Answer
  shown_edges : List Edge → Answer
  shown_stage : Option StageView → Answer
  shown_unit : Option UnitView → Answer
  shown_trace : Option TraceView → Answer
  shown_row : Option RowView → Answer
  shown_cell : Option CellView → Answer
  shown_station : Option StationView → Answer
  -- a register's number, and the unit that owes it
  shown_rename : Option (ℕ × ℕ) → Answer
  shown_slot : Option SlotView → Answer
  shown_text : Option Text → Answer

unfoldable pub show : State → View → Answer
show s status = shown_status (status_view s)
show s stats = shown_stats s.log.stats
show s enabled = shown_flag s.front.enabled
show s fetch_pc = shown_number s.front.fetch_pc
show s resume_pc = shown_number (resume s)
show s stage_count = shown_number (length stages)
show s edges = shown_edges all_edges
show s entry_stages = shown_stages all_entries
show s stage_order = shown_stages all_ordered
show s unit_count = shown_number (length s.machine.specs)
show s trace_count = shown_number (length s.log.traces)
show s timeline_len = shown_number (length s.log.rows)
show s station_count = shown_number (length s.units)
show s rename_count = shown_number (length (claims s))
show s queue_count = shown_number (length s.queue)
show s buffer_count = shown_number 0
show s buffer_capacity = shown_number 0
show s (in_flight_before n) = shown_flag (older_in_flight n s)
show s (stage i) = shown_stage (stage_view s i)
show s (unit i) = shown_unit (unit_view s i)
show s (trace i) = shown_trace (option_map trace_view (slice_get s.log.traces i))
show s (timeline_row i) = shown_row (option_map row_view (slice_get s.log.rows i))
show s (station i) = shown_station (option_map (station_view i) (slice_get s.units i))
show s (rename i) = shown_rename (slice_get (claims s) i)
show s (queued i) = shown_slot (option_map slot_view (slice_get s.queue i))
show s (buffer_entry i) = shown_slot None

-- ── What a call that is not refused leaves, answers, looks at and sets ───────

unfoldable pub run : State → Call → State
run s start = start_cycle s
run s retire = do_retire s
run s (retry reason) = do_retry reason s
run s (resolve a) = s
run s (advance r lent) = do_advance r s
run s (fetch g lent) = fetched g s
run s (capacity k n) = set_capacity k n s
run s (overlap b) = set_enabled b s
run s halt = do_halt s
run s (fault note) = do_fault note s
run s (reset a lent) = reset_to a false s
run s (redirect a) = reset_to a true s
run s (view v) = s
run s (cell r c lent) = s
run s (text t room) = s

unfoldable pub invitation_of : State → Option ℕ
invitation_of s = cond s.front.invited (Some s.front.fetch_pc) None

-- `m` is the lent cell memory.
unfoldable pub reply : State → List ℕ → Call → Answer
reply s m start = offered (option_map offer_view (offered_op (start_cycle s)))
reply s m retire = done
reply s m (retry reason) = done
reply s m (resolve a) = resolved (resolve_branch (offered_op s) a)
reply s m (advance r lent) = invitation (invitation_of (do_advance r s))
reply s m (fetch g lent) = done
reply s m (capacity k n) = done
reply s m (overlap b) = done
reply s m halt = done
reply s m (fault note) = done
reply s m (reset a lent) = done
reply s m (redirect a) = done
reply s m (view v) = show s v
reply s m (cell r c lent) = shown_cell (option_map cell_view (cell_byte s m r c))
reply s m (text t room) = shown_text (text_at s t)

-- The operation looked at, if one is.
unfoldable pub looked : State → Call → Option Op
looked s start = None
looked s retire = None
looked s (retry reason) = None
looked s (resolve a) = None
looked s (advance r lent) = advance_looked r s
looked s (fetch g lent) = None
looked s (capacity k n) = None
looked s (overlap b) = None
looked s halt = None
looked s (fault note) = None
looked s (reset a lent) = None
looked s (redirect a) = None
looked s (view v) = None
looked s (cell r c lent) = None
looked s (text t room) = None

-- The bytes of the lent cell memory that are set, in order.
unfoldable pub sets : State → Call → List Write
sets s start = []
sets s retire = []
sets s (retry reason) = []
sets s (resolve a) = []
sets s (advance r lent) = advance_writes r s
sets s (fetch g lent) = open_writes s.machine.history s.front.next_row
sets s (capacity k n) = []
sets s (overlap b) = []
sets s halt = []
sets s (fault note) = []
sets s (reset a lent) = clear_writes s.machine.history
sets s (redirect a) = []
sets s (view v) = []
sets s (cell r c lent) = []
sets s (text t room) = []

-- ── A call ──────────────────────────────────────────────────────────────────

unfoldable pub answer : State → List ℕ → Call → Answer
answer s m c = when_some (refusal s c) (reply s m c) refused

unfoldable pub after : State → Call → State
after s c = when_some (refusal s c) (run s c) (λ (n : ℕ). s)

-- The lent cell memory after it.
unfoldable pub memory_after : State → Call → List ℕ → List ℕ
memory_after s c m = when_some (refusal s c) (write_all (sets s c) m) (λ (n : ℕ). m)

-- The buffer lent with a text request after it.
unfoldable pub buffer_after : State → Request → List ℕ → List ℕ
buffer_after s t lent = when_some (refusal s (text t (length lent))) (buffer_with (text_at s t) lent) (λ (n : ℕ). lent)

unfoldable pub looked_by : State → Call → Option Op
looked_by s c = when_some (refusal s c) (looked s c) (λ (n : ℕ). None)

-- What the looks of a call gave: one look at most.
unfoldable pub looks : State → Call → List (ℕ × List ℕ)
looks s c = when_some (looked_by s c) [] (λ (o : Op). look s.names o ∷ [])

-- A list of calls, each on the engine that the last one left.
unfoldable pub runs : State → List Call → State
runs s [] = s
runs s (c ∷ cs) = runs (after s c) cs

-- The cell memory after it, lent back unaltered each time.
unfoldable pub memories : State → List ℕ → List Call → List ℕ
memories s m [] = m
memories s m (c ∷ cs) = memories (after s c) (memory_after s c m) cs

-- All of these unfold where a line says `unfolding calls`.
unfoldable pub calls : Unit {0}
unfolding first_of too_big bad_byte bad_text bad_spec_name bad_info extra_overflows no_offer unsettled too_many names_in names_with
    short_memory make_checks checks make_refusal refusal make memory_made make_memory show run invitation_of reply looked sets answer after
    memory_after buffer_after looked_by looks runs memories
calls = tt
