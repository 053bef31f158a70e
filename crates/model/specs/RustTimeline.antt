-- timeline.rs, and how scoreboard.rs writes it, as the Rust has them: rows that hold their cells, cells with the text of their label.
use Rattle.std.specs.Prelude.{ℕ, suc, ◌+◌, Bool, cond, List, [], ◌∷◌, ◌++◌, map, eqb, ltb, length, Option, None, Some, is_some, slice_get}
use Rattle.laws.specs.Optional.{value_or, when_some}
use Rattle.laws.specs.Lists.{rest, keep}
use Rattle.laws.specs.Numbers.{saturating_add}
use Rattle.laws.specs.Texts.{Text, bytes}
use Rattle.capability.specs.declared.PipelineInstructionClass.{PipelineInstructionClass}
use Rattle.capability.specs.declared.PipelineStageRole.{PipelineStageRole}
use Rattle.capability.specs.declared.PipelineStageRole.TheVariants.{Fetch, Other}
use Rattle.capability.specs.declared.PipelineTimelineState.{PipelineTimelineState}
use Rattle.capability.specs.declared.PipelineTimelineState.TheVariants.{Active, Stalled, Flushed}
use Rattle.capability.specs.declared.Phase.{Phase}
use Rattle.capability.specs.declared.Phase.TheVariants.{Wait, Read, Execute, Write}
use Rattle.model.specs.Config.{UnitSpec, spec_name}
use Rattle.model.specs.Op.{Op}
use Rattle.model.specs.Traces.{FETCH, ISSUE, READ, EXECUTE, WRITE}
use Rattle.model.specs.Units.{FunctionalUnit, is_busy}
use Rattle.model.specs.State.{State}
use Rattle.model.specs.Issue.{issue, phase_label}
use Rattle.model.specs.Scoreboard.{closed, before_issue, stops}
use Rattle.model.specs.Views.{stage_roles}
use Rattle.model.specs.Requests.{stage_names}
use Rattle.model.specs.Calls.{
  Call,
  start,
  retire,
  retry,
  resolve,
  advance,
  fetch,
  capacity,
  overlap,
  halt,
  fault,
  reset,
  redirect,
  view,
  cell,
  text,
  refusal,
  after,
}

-- ── Cells ───────────────────────────────────────────────────────────────────

-- Cell. Ours, and read by no function here: its byte, label plus state. Document 01's labels: 0 IF, 1 IS, 2 RO, 3 WR, 4 FL, 8 + k the name of
-- kind k; its states: 0 active, 32 stalled, 64 flushed.
pub record RustCell : Type 0 where
  pub label : Text
  pub state : PipelineTimelineState
  pub role : PipelineStageRole
  pub byte : ℕ

abbrev pub rust_cell_of : Text → PipelineTimelineState → PipelineStageRole → ℕ → RustCell
rust_cell_of l s r b = record { label = l; state = s; role = r; byte = b }

-- SCOREBOARD_PHASES[i].name and .role
unfoldable pub phase_name : ℕ → Text
phase_name i = value_or [] (slice_get stage_names i)

unfoldable pub phase_role : ℕ → PipelineStageRole
phase_role i = value_or Other (slice_get stage_roles i)

-- fetched: the first cell of a row.
unfoldable pub opening_cell : RustCell
opening_cell = rust_cell_of (phase_name FETCH) Active Fetch 0

-- flush: the cell of an operation that is dropped.
unfoldable pub dropped_cell : RustCell
dropped_cell = rust_cell_of (bytes "FL") Flushed Other (4 + 64)

-- record_timeline: a cell of a label, and the label's number, stalled where the operation has a hazard.
unfoldable pub recorded_cell : Op → Text → PipelineStageRole → ℕ → RustCell
recorded_cell o l r n =
    rust_cell_of l (cond (is_some o.core.hazard) Stalled Active) r (n + cond (is_some o.core.hazard) 32 0)

unfoldable pub queued_cell : Op → (ℕ × RustCell)
queued_cell o = (o.core.row, recorded_cell o (phase_name FETCH) Fetch 0)

-- match unit.phase { Wait => ISSUE, Read => READ, Execute => EXECUTE, Write => WRITE }
unfoldable pub phase_index : Phase → ℕ
phase_index Wait = ISSUE
phase_index Read = READ
phase_index Execute = EXECUTE
phase_index Write = WRITE

-- if unit.phase == Phase::Execute { self.specs[unit.spec].name } else { SCOREBOARD_PHASES[phase].name }
unfoldable pub scheduled_label : List UnitSpec → Phase → ℕ → Text
scheduled_label ks Wait k = phase_name (phase_index Wait)
scheduled_label ks Read k = phase_name (phase_index Read)
scheduled_label ks Execute k = spec_name ks k
scheduled_label ks Write k = phase_name (phase_index Write)

unfoldable pub scheduled_cell : List UnitSpec → FunctionalUnit → (ℕ × RustCell)
scheduled_cell ks u = (
  u.op.core.row,
  recorded_cell u.op (scheduled_label ks u.phase u.spec) (phase_role (phase_index u.phase)) (phase_label u.phase u.spec),
)

-- Each with the id of its row: queued.chain(scheduled)
unfoldable pub recorded_cells : State → List (ℕ × RustCell)
recorded_cells s = map queued_cell s.queue ++ map (scheduled_cell s.machine.specs) (keep is_busy s.units)

unfoldable pub dropped_cells : List Op → List (ℕ × RustCell)
dropped_cells q = map (λ (o : Op). (o.core.row, dropped_cell)) q

-- ── Rows ────────────────────────────────────────────────────────────────────

-- Row. Ours, and read by no function here: how many cells were removed at its front. So the cell at place j of `cells` is the row's cell
-- lost + j, counted from 0 at opening.
pub record RustRow : Type 0 where
  pub id : ℕ
  pub address : ℕ
  pub disassembly : Text
  pub class : PipelineInstructionClass
  pub first_cycle : ℕ
  pub atomic : Bool
  pub cells : List RustCell
  pub lost : ℕ

abbrev pub rust_row : ℕ → ℕ → Text → PipelineInstructionClass → ℕ → Bool → List RustCell → ℕ → RustRow
rust_row i a t c f m cs l =
    record { id = i; address = a; disassembly = t; class = c; first_cycle = f; atomic = m; cells = cs; lost = l }

-- Timeline::open: rows.push(..); if rows.len() > capacity { rows.remove(0); }
unfoldable pub rust_open : ℕ → RustRow → List RustRow → List RustRow
rust_open history r rows = cond (ltb history (length (rows ++ (r ∷ [])))) (rest (rows ++ (r ∷ []))) (rows ++ (r ∷ []))

-- row.cells.push(cell); if row.cells.len() > MAX_CELLS { row.cells.remove(0); row.first_cycle = row.first_cycle.saturating_add(1); }
unfoldable pub rust_trim : Bool → RustRow → RustRow
rust_trim over r =
    rust_row r.id r.address r.disassembly r.class (cond over (saturating_add r.first_cycle 1) r.first_cycle) r.atomic
    (cond over (rest r.cells) r.cells) (cond over (suc r.lost) r.lost)

unfoldable pub rust_add : RustCell → RustRow → RustRow
rust_add c r =
    rust_trim (ltb 200 (length (r.cells ++ (c ∷ []))))
    (rust_row r.id r.address r.disassembly r.class r.first_cycle r.atomic (r.cells ++ (c ∷ [])) r.lost)

-- Timeline::push: to the first row of that id, if there is one.
unfoldable pub rust_push : ℕ → RustCell → List RustRow → List RustRow
rust_push i c [] = []
rust_push i c (r ∷ rs) = cond (eqb r.id i) (rust_add c r ∷ rs) (r ∷ rust_push i c rs)

unfoldable pub rust_push_all : List (ℕ × RustCell) → List RustRow → List RustRow
rust_push_all [] rows = rows
rust_push_all (p ∷ ps) rows = rust_push_all ps (rust_push p.0 p.1 rows)

-- Timeline::cell
unfoldable pub rust_cell : List RustRow → ℕ → ℕ → Option RustCell
rust_cell rows i c = when_some (slice_get rows i) None (λ (r : RustRow). slice_get r.cells c)

-- ── The rows that each call leaves ──────────────────────────────────────────

unfoldable pub rust_flushed : Option ℕ → State → List RustRow → List RustRow
rust_flushed None s rows = rows
rust_flushed (Some target) s rows = rust_push_all (dropped_cells s.queue) rows

unfoldable pub rust_advance : Option ℕ → State → List RustRow → List RustRow
rust_advance r s rows =
    cond (stops s) rows (rust_push_all (recorded_cells (issue (before_issue r (closed s)))) (rust_flushed r (closed s) rows))

unfoldable pub rust_run : State → Call → List RustRow → List RustRow
rust_run s start rows = rows
rust_run s retire rows = rows
rust_run s (retry reason) rows = rows
rust_run s (resolve a) rows = rows
rust_run s (advance r lent) rows = rust_advance r s rows
rust_run s (fetch g lent) rows =
    rust_open s.machine.history
    (rust_row s.front.next_row g.decoded.address g.info.disassembly g.decoded.class s.log.stats.cycles
    g.decoded.atomic (opening_cell ∷ []) 0)
    rows
rust_run s (capacity k n) rows = rows
rust_run s (overlap b) rows = rows
rust_run s halt rows = rows
rust_run s (fault note) rows = rows
rust_run s (reset a lent) rows = []
rust_run s (redirect a) rows = rows
rust_run s (view v) rows = rows
rust_run s (cell r c lent) rows = rows
rust_run s (text t room) rows = rows

-- A refused call leaves them.
unfoldable pub rust_after : State → Call → List RustRow → List RustRow
rust_after s c rows = when_some (refusal s c) (rust_run s c rows) (λ (n : ℕ). rows)

unfoldable pub rust_runs : State → List RustRow → List Call → List RustRow
rust_runs s rows [] = rows
rust_runs s rows (c ∷ cs) = rust_runs (after s c) (rust_after s c rows) cs

-- All of these unfold where a line says `unfolding rust_timeline`.
unfoldable pub rust_timeline : Unit {0}
unfolding phase_name phase_role opening_cell dropped_cell recorded_cell queued_cell phase_index scheduled_label scheduled_cell
    recorded_cells dropped_cells rust_open rust_trim rust_add rust_push rust_push_all rust_cell rust_flushed rust_advance rust_run rust_after
    rust_runs
rust_timeline = tt
