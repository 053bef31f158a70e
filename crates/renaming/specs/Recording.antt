-- Demand 3's bare recordings, "what each call answers and leaves, with texts and payloads removed and registers as numbers, plus the numbers
-- each look gave", and the pairs of lists of calls that it compares.
-- Left out as texts (document 01, "Registers"): wait texts, every text's length, the buffers lent for texts, status, shown destinations, and
-- names in operations not yet looked at. Fault notes given to fetch are left out likewise.
use Rattle.std.specs.Prelude.{ℕ, ◌≡◌, Bool, true, false, cond, List, [], ◌∷◌, ◌++◌, map, length, Option, None, Some, option_map}
use Rattle.laws.specs.Lists.{elem}
use Rattle.laws.specs.Texts.{Text}
use Rattle.model.specs.Op.{Decoded, Info, info_of, given, Op, op_of}
use Rattle.model.specs.Registers.{get}
use Rattle.model.specs.Timeline.{Row, row_of}
use Rattle.model.specs.Traces.{Trace, trace_of, drains}
use Rattle.model.specs.Units.{FunctionalUnit, unit_of}
use Rattle.model.specs.State.{Log, log_of, State, state}
use Rattle.model.specs.Views.{OfferView}
use Rattle.model.specs.Requests.{Field, disassembly, destination, fault as fault_note, source, write, Request, status_message, slot_text, trace_detail, row_disassembly, stage_name, unit_name, station_label, rename_register, cell_label, operand_register}
use Rattle.model.specs.Calls.{Call, start, retire, retry, resolve, advance, fetch, capacity, overlap, halt, fault, reset, redirect, view, cell, text, Answer, refused, done, offered, resolved, invitation, shown_status, shown_stats, shown_flag, shown_number, shown_stages, shown_edges, shown_stage, shown_unit, shown_trace, shown_row, shown_cell, shown_station, shown_rename, shown_slot, shown_text, refusal, answer, after, memory_after, looks}
use Rattle.runs.specs.Runs.{look_number, NoReset}

-- ── The engine that a call leaves, bare ─────────────────────────────────────

-- What stands for a register name, by the number of the operation that has it.
abbrev pub Shows : Type 0
Shows = ℕ → Text → Text

-- A text or a name left out.
abbrev pub blank : Text → Text
blank a = []

-- A register as its number: k stands as the text of k alone.
abbrev pub as_number : Option ℕ → Text
as_number None = []
as_number (Some k) = k ∷ []

-- In the operations looked at, whose numbers `seen` has, by the table of names. In the others names are left out.
abbrev pub by_number : List Text → List ℕ → Shows
by_number names seen n a = cond (elem n seen) (as_number (get names a)) (blank a)

-- Gone: disassembly, fault note, shown destination, payload. How many names there are stays.
abbrev pub bare_info : (Text → Text) → Info → Info
bare_info f i = info_of [] None None (map f i.sources) (map f i.writes) 0

-- The core stays.
abbrev pub bare_op : Shows → Op → Op
bare_op w o = op_of o.core (bare_info (w o.core.seq) o.info)

-- All but the operation's info stays: sources, destinations and waits are numbers.
abbrev pub bare_unit : Shows → FunctionalUnit → FunctionalUnit
bare_unit w u =
    unit_of u.spec u.instance u.class u.redirects u.busy (bare_op w u.op) u.phase u.sources u.destinations
    u.pending

-- Gone: the wait's text. (`drains []` stands for any.)
abbrev pub bare_trace : Trace → Trace
bare_trace t = trace_of t.kind t.from t.to (drains [])

-- Gone: the row's text.
abbrev pub bare_row : Row → Row
bare_row r = row_of r.id r.address [] r.class r.first_cycle r.atomic r.oldest_at r.count

-- Gone: the status. The counters stay.
abbrev pub bare_log : Log → Log
bare_log l = log_of l.stats (map bare_trace l.traces) (map bare_row l.rows) None

-- Field by field: the machine stays (kind names are the making's, the same in both runs); units, queue and log as above; of the names only
-- how many there are; claims, marks, offer and front (flags, fetch address, row and operation numbers) stay.
abbrev pub bare : Shows → State → State
bare w s =
    state s.machine (map (bare_unit w) s.units) (map (bare_op w) s.queue) (map blank s.names) s.producer s.marks
    s.offer s.front (bare_log s.log)

-- ── The answer, bare ────────────────────────────────────────────────────────

-- Texts of which not even whether they are there stays: the status, and an operation's shown destination and fault note, which a fetch may be
-- given in one run and not in the other.
abbrev pub optional_field : Field → Bool
optional_field disassembly = false
optional_field destination = true
optional_field fault_note = true
optional_field (source j) = false
optional_field (write j) = false

abbrev pub optional_text : Request → Bool
optional_text status_message = true
optional_text (slot_text p f) = optional_field f
optional_text (trace_detail i) = false
optional_text (row_disassembly i) = false
optional_text (stage_name i) = false
optional_text (unit_name i) = false
optional_text (station_label i) = false
optional_text (rename_register i) = false
optional_text (cell_label n) = false
optional_text (operand_register i j) = false

abbrev pub asks_optional : Call → Bool
asks_optional start = false
asks_optional retire = false
asks_optional (retry r) = false
asks_optional (resolve a) = false
asks_optional (advance r lent) = false
asks_optional (fetch g lent) = false
asks_optional (capacity k n) = false
asks_optional (overlap b) = false
asks_optional halt = false
asks_optional (fault m) = false
asks_optional (reset a lent) = false
asks_optional (redirect a) = false
asks_optional (view v) = false
asks_optional (cell r c lent) = false
asks_optional (text t room) = optional_text t

-- Gone: the payload.
abbrev pub bare_offer : OfferView → OfferView
bare_offer o =
    record {
      seq = o.seq;
      address = o.address;
      size = o.size;
      class = o.class;
      branch = o.branch;
      atomic = o.atomic;
      predicted_next = o.predicted_next;
      payload = 0;
    }

-- Of a text asked for, whether it is there, if that much. All else stays: views show registers as numbers already.
unfoldable pub bare_answer : Call → Answer → Answer
bare_answer c (refused n) = refused n
bare_answer c done = done
bare_answer c (offered o) = offered (option_map bare_offer o)
bare_answer c (resolved a) = resolved a
bare_answer c (invitation a) = invitation a
bare_answer c (shown_status x) = shown_status x
bare_answer c (shown_stats a) = shown_stats a
bare_answer c (shown_flag b) = shown_flag b
bare_answer c (shown_number n) = shown_number n
bare_answer c (shown_stages ns) = shown_stages ns
bare_answer c (shown_edges es) = shown_edges es
bare_answer c (shown_stage o) = shown_stage o
bare_answer c (shown_unit k) = shown_unit k
bare_answer c (shown_trace t) = shown_trace t
bare_answer c (shown_row r) = shown_row r
bare_answer c (shown_cell b) = shown_cell b
bare_answer c (shown_station t) = shown_station t
bare_answer c (shown_rename p) = shown_rename p
bare_answer c (shown_slot o) = shown_slot o
bare_answer c (shown_text t) = shown_text (cond (asks_optional c) None (option_map blank t))

-- ── Recordings ──────────────────────────────────────────────────────────────

-- What a recording reads of an engine. A parameter, so that wrong engines can be recorded too (WrongEngines).
pub record Engine : Type 0 where
  -- the number that the call is refused with, if it is
  pub refusal : State → Call → Option ℕ
  -- with the lent cell memory
  pub answer : State → List ℕ → Call → Answer
  pub after : State → Call → State
  pub memory_after : State → Call → List ℕ → List ℕ
  -- for each look of the call: the operation's number, and the numbers of its reads and then of its writes, repeats too
  pub looks : State → Call → List (ℕ × List ℕ)

-- The one that demands 1 and 2 define.
abbrev pub the_engine : Engine
the_engine = record { refusal = refusal; answer = answer; after = after; memory_after = memory_after; looks = looks }

-- Of one call: its answer and the engine left, bare, the cell memory left, and what its looks gave.
pub record Entry : Type 0 where
  pub answered : Answer
  pub left : State
  pub memory : List ℕ
  pub gave : List (ℕ × List ℕ)

abbrev pub entry : Answer → State → List ℕ → List (ℕ × List ℕ) → Entry
entry a s m l = record { answered = a; left = s; memory = m; gave = l }

module _ (e : Engine) where
  -- The numbers of the operations looked at so far, with those of a call.
  abbrev pub seen_by : List ℕ → State → Call → List ℕ
  seen_by seen s c = map look_number (e.looks s c) ++ seen

  abbrev pub record_call : List ℕ → State → List ℕ → Call → Entry
  record_call seen s m c =
      entry (bare_answer c (e.answer s m c)) (bare (by_number (e.after s c).names seen) (e.after s c)) (e.memory_after s c m)
      (e.looks s c)

  -- Each call gets the engine s and the cell memory m that the last one left. A call itself only says how long the cell memory is that is
  -- lent with it: a number of the call, the same in both runs.
  unfoldable pub recording : List ℕ → State → List ℕ → List Call → List Entry
  recording seen s m [] = []
  recording seen s m (c ∷ cs) =
      record_call (seen_by seen s c) s m c ∷ recording (seen_by seen s c) (e.after s c) (e.memory_after s c m) cs

  -- Nothing is looked at yet.
  abbrev pub bare_recording : State → List ℕ → List Call → List Entry
  bare_recording s m cs = recording [] s m cs

  -- The number that each call is refused with, if it is.
  unfoldable pub refusals : State → List Call → List (Option ℕ)
  refusals s [] = []
  refusals s (c ∷ cs) = e.refusal s c ∷ refusals (e.after s c) cs

-- ── Alike ───────────────────────────────────────────────────────────────────

-- Two calls that differ at most in the names, texts, fault note, shown destination and payload given to fetch, in a retry's reason, in a
-- fault's note, and in the room of a text buffer. No reset is alike any call.
pub data Alike : Call → Call → Type 0 where
  same_call : (c : Call) → NoReset c → Alike c c
  fetches
      : (d : Decoded) (i j : Info) (lent : ℕ) → length i.sources ≡ length j.sources → length i.writes ≡ length j.writes
      → Alike (fetch (given d i) lent) (fetch (given d j) lent)
  retries : (m n : Text) → Alike (retry m) (retry n)
  faults : (m n : Text) → Alike (fault m) (fault n)
  text_requests : (t : Request) (m n : ℕ) → Alike (text t m) (text t n)
