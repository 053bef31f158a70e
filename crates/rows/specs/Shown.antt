-- Demand 2 for the timeline: after every list of calls the views show the Rust's timeline, and the lent cell memory is as document 01 lays it out.
--
-- Demand 2's other parts hold by definition of the model: its State s has the fields of the Rust's `ScoreboardPipeline`, and each call sets them
-- as the Rust's function does. Only the timeline is kept in another form. Field by field:
--   shape           s.machine: `timing` is times, `instruction_bytes` is instruction_bytes, `history` is history, of `stages` only the queue's
--                   depth is read, `units` are the specs; bypass, predict, resolve, mode and speculative_fetch are read by no function
--   specs, capacity s.machine.specs: a kind with the capacity that is noted for it
--   units           s.units: spec, class, redirects, phase, sources, destinations and pending under these names; `op`, an Option, is busy and op;
--                   `label` is made from the kind's name and `instance` (Requests, station_text)
--   queue           s.queue
--   registers       s.names and s.producer; `ids` is a search through the names
--   enabled, halted, faulted, fetch_pc, next_row, next_seq    s.front, under these names
--   stats, traces, status                                     s.log, under these names; a trace's `detail` is kept as its words (Traces, render)
--   writing         s.offer.writing
--   branch_pending, system_pending                            s.marks.branch and s.marks.system
--   timeline        `rows` are s.log.rows with the lent cell memory, `capacity` is s.machine.history: the theorem below
-- Ours, and in no field of the Rust: s.offer.retired, s.front.in_cycle, s.front.invited.
use Rattle.std.specs.Prelude.{ℕ, suc, ◌+◌, ◌*◌, ◌/◌, ◌%◌, ◌≤◌, ◌≡◌, false, cond, List, [], ◌∷◌, eqb, ltb, length, Option, None, Some, option_map, slice_get}
use Rattle.laws.specs.Texts.{Text}
use Rattle.model.specs.Config.{PipelineShape}
use Rattle.model.specs.State.{State}
use Rattle.model.specs.Views.{RowView, CellView}
use Rattle.model.specs.Requests.{row_disassembly, cell_label, short_for}
use Rattle.model.specs.Calls.{Call, view, timeline_len, timeline_row, cell, text, made, make, make_memory, shown_number, shown_row, shown_cell, shown_text, answer, runs, memories}
use Rattle.model.specs.RustTimeline.{RustCell, RustRow, rust_cell, rust_runs}

-- ── What the views show ─────────────────────────────────────────────────────

-- Timeline::row, with the row's id; its text is asked for by a request of its own.
unfoldable pub rust_row_view : RustRow → RowView
rust_row_view r =
    record {
      id = r.id;
      address = r.address;
      class = r.class;
      first_cycle = r.first_cycle;
      cells = length r.cells;
      atomic = r.atomic;
    }

unfoldable pub rust_row_text : List RustRow → ℕ → Option Text
rust_row_text rust i = option_map (λ (r : RustRow). r.disassembly) (slice_get rust i)

-- A cell view is a cell of the Rust: the label's text as the request `cell_label` gives it, the state, the role.
pub record CellShown (s : State) (m : List ℕ) (v : CellView) (x : RustCell) : Type 0 where
  pub label : (room : ℕ) → length x.label ≤ room → answer s m (text (cell_label v.label) room) ≡ shown_text (Some x.label)
  pub state : v.state ≡ x.state
  pub role : v.role ≡ x.role

-- Both are missing, or both are there and P holds.
abbrev pub Both : {A B : Type 0} → (A → B → Type 0) → Option A → Option B → Type 0
Both P None None = Unit {0}
Both P None (Some b) = ⊥
Both P (Some a) None = ⊥
Both P (Some a) (Some b) = P a b

-- ── What each byte of the cell memory is ────────────────────────────────────

-- Byte q of a row's slot, by its cells from cell n on, counted from 0 at opening: cell n stands at byte n mod 200. A byte of no cell is 255.
unfoldable pub cell_byte_at : ℕ → List RustCell → ℕ → ℕ
cell_byte_at n [] q = 255
cell_byte_at n (x ∷ xs) q = cond (eqb (n % 200) q) x.byte (cell_byte_at (suc n) xs q)

-- Byte q of slot k: row id r uses slot r mod history. A slot of no row has 255.
unfoldable pub slot_byte : ℕ → List RustRow → ℕ → ℕ → ℕ
slot_byte history [] k q = 255
slot_byte history (r ∷ rs) k q = cond (eqb (r.id % history) k) (cell_byte_at r.lost r.cells q) (slot_byte history rs k q)

-- Byte p of the memory; past the last slot it is the byte that making was lent.
unfoldable pub memory_byte : ℕ → List RustRow → List ℕ → ℕ → Option ℕ
memory_byte history rust lent p = cond (ltb p (history * 200)) (Some (slot_byte history rust (p / 200) (p % 200))) (slice_get lent p)

-- ── The statement ───────────────────────────────────────────────────────────

-- Of an engine s, its cell memory m, the memory `lent` to making, and the Rust's rows.
pub record TimelineShown (lent : List ℕ) (s : State) (m : List ℕ) (rust : List RustRow) : Type 0 where
  -- timeline_len
  pub len : answer s m (view timeline_len) ≡ shown_number (length rust)
  -- timeline_row, and its disassembly where the buffer takes it
  pub row : (i : ℕ) → answer s m (view (timeline_row i)) ≡ shown_row (option_map rust_row_view (slice_get rust i))
  pub row_text
      : (i room : ℕ) → short_for room (rust_row_text rust i) ≡ false
      → answer s m (text (row_disassembly i) room) ≡ shown_text (rust_row_text rust i)
  -- timeline_cell
  pub cell_view
      : (i c : ℕ) → (v : Option CellView) × (answer s m (cell i c (length m)) ≡ shown_cell v) × Both (CellShown s m) v (rust_cell rust i c)
  -- each cell stands at document 01's place
  pub place
      : (i j : ℕ) (r : RustRow) (x : RustCell) → slice_get rust i ≡ Some r → slice_get r.cells j ≡ Some x
      → slice_get m ((r.id % s.machine.history) * 200 + (r.lost + j) % 200) ≡ Some x.byte
  -- and this is every byte
  pub byte : (p : ℕ) → slice_get m p ≡ memory_byte s.machine.history rust lent p

-- From every making that is not refused, after every list of calls: refused ones, resets, views and text requests included, each on the engine
-- and the cell memory that the last one left.
abbrev pub TimelineTheorem : Type 0
TimelineTheorem =
    (d : PipelineShape) (entry : ℕ) (lent : List ℕ) (s : State) (cs : List Call) → make d entry lent ≡ made s
    → TimelineShown lent (runs s cs) (memories s (make_memory d lent) cs) (rust_runs s [] cs)
