-- All that an engine shows as a list of numbers, and one number for it, to hold the model against the Rust by computing.
-- The list is made of the model's answers to views, cell views and text requests. The harness makes the same list from the Rust.
use Rattle.std.specs.Prelude.{ℕ, zero, suc, ◌+◌, ◌*◌, ◌%◌, Bool, true, false, cond, List, [], ◌∷◌, ◌++◌, ltb, length, drop, Option, None, Some, option_map, slice_get}
use Rattle.laws.specs.Texts.{Text}
use Rattle.capability.specs.declared.PipelineHazardKind.{PipelineHazardKind}
use Rattle.capability.specs.Numbers.{class_number, hazard_number, trace_number, role_number, edge_number, state_number, entry_number}
use Rattle.model.specs.Op.{Op}
use Rattle.model.specs.Timeline.{Row, slot}
use Rattle.model.specs.State.{Stats, State}
use Rattle.model.specs.Scoreboard.{in_flight}
use Rattle.model.specs.Views.{SlotView, OfferView, StatusView, StageView, Edge, UnitView, TraceView, RowView, CellView, cell_view, OperandView, StationView, claims}
use Rattle.model.specs.Requests.{in_queue, in_station, in_stage, in_unit, on_offer, op_at, Field, disassembly, destination, fault, source, write, field, Request, status_message, trace_detail, row_disassembly, stage_name, unit_name, station_label, rename_register, cell_label, operand_register, text_at}
use Rattle.model.specs.Calls as calls
use Rattle.model.specs.Calls.{Answer, refused, done, offered, resolved, invitation, shown_status, shown_stats, shown_flag, shown_number, shown_stages, shown_edges, shown_stage, shown_unit, shown_trace, shown_row, shown_cell, shown_station, shown_rename, shown_slot, shown_text, View, Call, show, answer, looks}

-- The number of a list: from h, by each number in turn.
unfoldable pub hash : ℕ → List ℕ → ℕ
hash h [] = h
hash h (x ∷ xs) = hash ((h * 1000003 + x + 1) % 2305843009213693951) xs

-- ── Parts, each put before a list: a length before what varies in length, 0 for none, 1 before what is there ─

unfoldable pub bit : Bool → ℕ
bit true = 1
bit false = 0

module _ {A : Type 0} where
  unfoldable pub maybe : (A → List ℕ → List ℕ) → Option A → List ℕ → List ℕ
  maybe f None l = 0 ∷ l
  maybe f (Some a) l = 1 ∷ f a l

  unfoldable pub each : (A → List ℕ → List ℕ) → List A → List ℕ → List ℕ
  each f [] l = l
  each f (x ∷ xs) l = f x (each f xs l)

-- f at i, i + 1 and so on, n times.
unfoldable pub up_from : (ℕ → List ℕ → List ℕ) → ℕ → ℕ → List ℕ → List ℕ
up_from f i zero l = l
up_from f i (suc n) l = f i (up_from f (suc i) n l)

unfoldable pub text_numbers : Text → List ℕ → List ℕ
text_numbers t l = length t ∷ (t ++ l)

-- ── Answers ─────────────────────────────────────────────────────────────────

unfoldable pub hazard_numbers : PipelineHazardKind → List ℕ → List ℕ
hazard_numbers h l = hazard_number h ∷ l

unfoldable pub slot_numbers : SlotView → List ℕ → List ℕ
slot_numbers v l =
    v.address ∷ class_number v.class ∷ (bit v.bubble + 2 * bit v.speculative + 4 * bit v.predicted_taken + 8 * bit v.atomic)
    ∷ v.cycles_remaining ∷ maybe hazard_numbers v.hazard l

unfoldable pub offer_numbers : OfferView → List ℕ → List ℕ
offer_numbers v l =
    v.seq ∷ v.address ∷ v.size ∷ class_number v.class ∷ bit v.branch ∷ bit v.atomic ∷ v.predicted_next ∷ v.payload ∷ l

unfoldable pub status_numbers : StatusView → List ℕ → List ℕ
status_numbers v l = bit v.enabled ∷ bit v.sequential ∷ bit v.halted ∷ bit v.faulted ∷ l

unfoldable pub stats_numbers : Stats → List ℕ → List ℕ
stats_numbers v l =
    v.cycles ∷ v.committed ∷ v.stalls ∷ v.raw_stalls ∷ v.load_use_stalls ∷ v.branch_stalls ∷ v.functional_unit_stalls
    ∷ v.memory_stalls ∷ v.waw_stalls ∷ v.war_stalls ∷ v.flushes ∷ v.branches ∷ l

unfoldable pub edge_numbers : Edge → List ℕ → List ℕ
edge_numbers v l = v.from ∷ v.to ∷ edge_number v.kind ∷ l

unfoldable pub stage_numbers : StageView → List ℕ → List ℕ
stage_numbers v l = role_number v.role ∷ maybe slot_numbers v.slot l

unfoldable pub unit_numbers : UnitView → List ℕ → List ℕ
unit_numbers v l = v.capacity ∷ v.active ∷ class_number v.latency_class ∷ v.latency ∷ maybe slot_numbers v.first l

unfoldable pub trace_numbers : TraceView → List ℕ → List ℕ
trace_numbers v l = trace_number v.kind ∷ v.from_stage ∷ v.to_stage ∷ l

unfoldable pub row_numbers : RowView → List ℕ → List ℕ
row_numbers v l = v.id ∷ v.address ∷ class_number v.class ∷ v.first_cycle ∷ v.cells ∷ bit v.atomic ∷ l

unfoldable pub cell_numbers : CellView → List ℕ → List ℕ
cell_numbers v l = (v.label + 32 * state_number v.state + 256 * role_number v.role) ∷ l

unfoldable pub operand_numbers : OperandView → List ℕ → List ℕ
operand_numbers v l = v.register ∷ maybe ◌∷◌ v.producer l

unfoldable pub station_numbers : StationView → List ℕ → List ℕ
station_numbers v l =
    v.unit ∷ entry_number v.phase
    ∷ maybe ◌∷◌ v.tag (maybe slot_numbers v.slot (maybe operand_numbers v.operand_0 (maybe operand_numbers v.operand_1 l)))

unfoldable pub rename_numbers : (ℕ × ℕ) → List ℕ → List ℕ
rename_numbers p l = p.0 ∷ p.1 ∷ l

unfoldable pub answer_numbers : Answer → List ℕ → List ℕ
answer_numbers (refused n) l = 0 ∷ n ∷ l
answer_numbers done l = 1 ∷ l
answer_numbers (offered o) l = 2 ∷ maybe offer_numbers o l
answer_numbers (resolved a) l = 3 ∷ maybe ◌∷◌ a l
answer_numbers (invitation a) l = 4 ∷ maybe ◌∷◌ a l
answer_numbers (shown_status v) l = 5 ∷ status_numbers v l
answer_numbers (shown_stats v) l = 6 ∷ stats_numbers v l
answer_numbers (shown_flag b) l = 7 ∷ bit b ∷ l
answer_numbers (shown_number n) l = 8 ∷ n ∷ l
answer_numbers (shown_stages ns) l = 9 ∷ length ns ∷ (ns ++ l)
answer_numbers (shown_edges es) l = 10 ∷ length es ∷ each edge_numbers es l
answer_numbers (shown_stage v) l = 11 ∷ maybe stage_numbers v l
answer_numbers (shown_unit v) l = 12 ∷ maybe unit_numbers v l
answer_numbers (shown_trace v) l = 13 ∷ maybe trace_numbers v l
answer_numbers (shown_row v) l = 14 ∷ maybe row_numbers v l
answer_numbers (shown_cell v) l = 15 ∷ maybe cell_numbers v l
answer_numbers (shown_station v) l = 16 ∷ maybe station_numbers v l
answer_numbers (shown_rename v) l = 17 ∷ maybe rename_numbers v l
answer_numbers (shown_slot v) l = 18 ∷ maybe slot_numbers v l
answer_numbers (shown_text t) l = 19 ∷ maybe text_numbers t l

-- A look: the operation's number, and the numbers of its registers.
unfoldable pub look_numbers : (ℕ × List ℕ) → List ℕ → List ℕ
look_numbers p l = p.0 ∷ length p.1 ∷ (p.1 ++ l)

-- What a call answers, and what its looks give.
unfoldable pub call_numbers : State → List ℕ → Call → List ℕ → List ℕ
call_numbers s m c l = answer_numbers (answer s m c) (length (looks s c) ∷ each look_numbers (looks s c) l)

-- ── What an engine shows ────────────────────────────────────────────────────

unfoldable pub ask : State → View → List ℕ → List ℕ
ask s v l = answer_numbers (show s v) l

unfoldable pub read : State → Request → List ℕ → List ℕ
read s t l = maybe text_numbers (text_at s t) l

-- The texts of a slot view: text, shown destination, two sources.
unfoldable pub slot_texts : Option Op → List ℕ → List ℕ
slot_texts None l = 0 ∷ l
slot_texts (Some o) l =
    1
    ∷ each (λ (f : Field). maybe text_numbers (field o.info f)) (disassembly ∷ destination ∷ source 0 ∷ source 1 ∷ []) l

-- All texts of the operation on offer, and one past the end of each list of names.
unfoldable pub offer_texts : Option Op → List ℕ → List ℕ
offer_texts None l = 0 ∷ l
offer_texts (Some o) l =
    1
    ∷ each (λ (f : Field). maybe text_numbers (field o.info f)) (disassembly ∷ destination ∷ fault ∷ [])
    (up_from (λ (j : ℕ). maybe text_numbers (field o.info (source j))) 0 9
    (up_from (λ (j : ℕ). maybe text_numbers (field o.info (write j))) 0 5 l))

unfoldable pub stage_all : State → ℕ → List ℕ → List ℕ
stage_all s i l = ask s (calls.stage i) (slot_texts (op_at s (in_stage i)) l)

unfoldable pub unit_all : State → ℕ → List ℕ → List ℕ
unit_all s i l = ask s (calls.unit i) (read s (unit_name i) (slot_texts (op_at s (in_unit i)) l))

unfoldable pub station_all : State → ℕ → List ℕ → List ℕ
station_all s i l =
    ask s (calls.station i)
    (read s (station_label i)
    (read s (operand_register i 0) (read s (operand_register i 1) (slot_texts (op_at s (in_station i)) l))))

unfoldable pub trace_all : State → ℕ → List ℕ → List ℕ
trace_all s i l = ask s (calls.trace i) (read s (trace_detail i) l)

unfoldable pub rename_all : State → ℕ → List ℕ → List ℕ
rename_all s i l = ask s (calls.rename i) (read s (rename_register i) l)

unfoldable pub queued_all : State → ℕ → List ℕ → List ℕ
queued_all s i l = ask s (calls.queued i) (slot_texts (op_at s (in_queue i)) l)

-- A row's cell c, read from the row's own bytes: the byte that a cell view reads (proofs/Cells).
unfoldable pub cell_in : Row → List ℕ → ℕ → Option ℕ
cell_in w own c = cond (ltb c w.count) (slice_get own ((w.oldest_at + c) % 200)) None

unfoldable pub cells_of : Row → List ℕ → List ℕ → List ℕ
cells_of w own l = up_from (λ (c : ℕ). maybe cell_numbers (option_map cell_view (cell_in w own c))) 0 w.count l

unfoldable pub row_cells : State → List ℕ → Option Row → List ℕ → List ℕ
row_cells s m None l = l
row_cells s m (Some w) l = cells_of w (drop (slot s.machine.history w.id) m) l

-- A row and all its cells, from the cell memory m.
unfoldable pub row_all : State → List ℕ → ℕ → List ℕ → List ℕ
row_all s m i l = ask s (calls.timeline_row i) (read s (row_disassembly i) (row_cells s m (slice_get s.log.rows i) l))

unfoldable pub ask_before : State → ℕ → List ℕ → List ℕ
ask_before s n l = ask s (calls.in_flight_before n) l

-- in_flight_before at 0, at the next number, and at the number of each operation in flight and one past it.
unfoldable pub before_all : State → List ℕ → List ℕ
before_all s l =
    ask_before s 0
    (ask_before s s.front.next_seq (each (λ (o : Op) (k : List ℕ). ask_before s o.core.seq (ask_before s (suc o.core.seq) k)) (in_flight s) l))

-- What a call may change: of each list its length, its elements, and what one past its end gives. m is the cell memory.
unfoldable pub everything_shown : State → List ℕ → List ℕ → List ℕ
everything_shown s m l =
    each (ask s) (calls.status ∷ calls.enabled ∷ calls.stats ∷ calls.fetch_pc ∷ calls.resume_pc ∷ [])
    (read s status_message
    (up_from (stage_all s) 0 6
    (ask s calls.unit_count
    (up_from (unit_all s) 0 (suc (length s.machine.specs))
    (ask s calls.station_count
    (up_from (station_all s) 0 (suc (length s.units))
    (ask s calls.trace_count
    (up_from (trace_all s) 0 (suc (length s.log.traces))
    (ask s calls.rename_count
    (up_from (rename_all s) 0 (suc (length (claims s)))
    (ask s calls.queue_count
    (up_from (queued_all s) 0 (suc (length s.queue))
    (offer_texts (op_at s on_offer)
    (ask s calls.timeline_len (up_from (row_all s m) 0 (suc (length s.log.rows)) (before_all s l))))))))))))))))

-- What no call changes.
unfoldable pub fixed_shown : State → List ℕ → List ℕ
fixed_shown s l =
    each (ask s)
    (calls.stage_count ∷ calls.edges ∷ calls.entry_stages ∷ calls.stage_order ∷ calls.buffer_count ∷ calls.buffer_capacity ∷ calls.buffer_entry 0 ∷ [])
    (up_from (λ (i : ℕ). read s (stage_name i)) 0 6 (up_from (λ (n : ℕ). read s (cell_label n)) 0 (9 + length s.machine.specs) l))

-- All of these unfold where a line says `unfolding digest`.
unfoldable pub digest : Unit {0}
unfolding hash bit maybe each up_from text_numbers hazard_numbers slot_numbers offer_numbers status_numbers stats_numbers edge_numbers
    stage_numbers unit_numbers trace_numbers row_numbers cell_numbers operand_numbers station_numbers rename_numbers answer_numbers
    look_numbers call_numbers ask read slot_texts offer_texts stage_all unit_all station_all trace_all rename_all queued_all cell_in cells_of
    row_cells row_all ask_before before_all everything_shown fixed_shown
digest = tt
