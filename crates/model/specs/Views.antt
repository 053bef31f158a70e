-- scoreboard.rs, the impls PipelineInspect and PipelineDynamicInspect: what a host sees, in numbers. Texts are in Requests.
use Rattle.std.specs.Prelude.{ℕ, zero, suc, ◌/◌, ◌%◌, Bool, true, false, cond, not, ◌&&◌, List, [], ◌∷◌, ◌++◌, map, eqb, ltb, Option, None, Some, option_map, slice_get}
use Rattle.laws.specs.Optional.{when_some}
use Rattle.laws.specs.Lists.{head, count, keep, is_empty, elem}
use Rattle.std.specs.List.{list_any}
use Rattle.capability.specs.declared.PipelineInstructionClass.{PipelineInstructionClass}
use Rattle.capability.specs.declared.PipelineHazardKind.{PipelineHazardKind}
use Rattle.capability.specs.declared.PipelineTraceKind.{PipelineTraceKind}
use Rattle.capability.specs.declared.PipelineTraceKind.TheVariants.{Hazard}
use Rattle.capability.specs.declared.PipelineStageRole.{PipelineStageRole}
use Rattle.capability.specs.declared.PipelineStageRole.TheVariants as role
use Rattle.capability.specs.declared.PipelineEdgeKind.{PipelineEdgeKind}
use Rattle.capability.specs.declared.PipelineEdgeKind.TheVariants.{Sequential, Feedback}
use Rattle.capability.specs.declared.PipelineTimelineState.{PipelineTimelineState}
use Rattle.capability.specs.declared.PipelineTimelineState.TheVariants as cell
use Rattle.capability.specs.declared.PipelineEntryPhase.{PipelineEntryPhase}
use Rattle.capability.specs.declared.PipelineEntryPhase.TheVariants.{Free, Waiting, Armed, Executing, Finished}
use Rattle.capability.specs.declared.Phase.{Phase}
use Rattle.capability.specs.declared.Phase.TheVariants as phase
use Rattle.capability.specs.Numbers.{edge_number}
use Rattle.model.specs.Config.{latency, UnitSpec}
use Rattle.model.specs.Op.{Op}
use Rattle.model.specs.Registers.{outstanding}
use Rattle.model.specs.Timeline.{Row, cell_at}
use Rattle.model.specs.Traces.{Trace, FETCH, ISSUE, READ, EXECUTE, WRITE}
use Rattle.model.specs.Units.{FunctionalUnit, unit_op, seq_of, in_phase}
use Rattle.model.specs.State.{State}

-- ── An operation ────────────────────────────────────────────────────────────

-- PipelineSlotView. (PipelineOp::view; the scoreboard never sets the three flags that follow the class.)
pub record SlotView : Type 0 where
  pub address : ℕ
  pub class : PipelineInstructionClass
  pub bubble : Bool
  pub speculative : Bool
  pub predicted_taken : Bool
  pub hazard : Option PipelineHazardKind
  pub atomic : Bool
  pub cycles_remaining : ℕ

unfoldable pub slot_view : Op → SlotView
slot_view o =
    record {
      address = o.core.decoded.address;
      class = o.core.decoded.class;
      bubble = false;
      speculative = false;
      predicted_taken = false;
      hazard = o.core.hazard;
      atomic = o.core.decoded.atomic;
      cycles_remaining = o.core.cycles_left;
    }

-- What start hands to the driver: the numbers that op.rs makes public.
pub record OfferView : Type 0 where
  pub seq : ℕ
  pub address : ℕ
  pub size : ℕ
  pub class : PipelineInstructionClass
  pub branch : Bool
  pub atomic : Bool
  pub predicted_next : ℕ
  pub payload : ℕ

unfoldable pub offer_view : Op → OfferView
offer_view o =
    record {
      seq = o.core.seq;
      address = o.core.decoded.address;
      size = o.core.decoded.size;
      class = o.core.decoded.class;
      branch = o.core.decoded.branch;
      atomic = o.core.decoded.atomic;
      predicted_next = o.core.predicted_next;
      payload = o.info.payload;
    }

-- ── Status, stages, edges ───────────────────────────────────────────────────

-- PipelineStatus
pub record StatusView : Type 0 where
  pub enabled : Bool
  pub sequential : Bool
  pub halted : Bool
  pub faulted : Bool

unfoldable pub status_view : State → StatusView
status_view s =
    record {
      enabled = s.front.enabled;
      sequential = not s.front.enabled;
      halted = s.front.halted;
      faulted = s.front.faulted;
    }

-- min_by_key(seq): the oldest unit that passes, the first of equals.
unfoldable pub older : FunctionalUnit → Option FunctionalUnit → Option FunctionalUnit
older u None = Some u
older u (Some v) = cond (ltb (seq_of v) (seq_of u)) (Some v) (Some u)

unfoldable pub oldest : (FunctionalUnit → Bool) → List FunctionalUnit → Option FunctionalUnit
oldest p [] = None
oldest p (u ∷ us) = cond (p u) (older u) (λ o. o) (oldest p us)

-- SCOREBOARD_PHASES
unfoldable pub stage_roles : List PipelineStageRole
stage_roles = role.Fetch ∷ role.Issue ∷ role.Decode ∷ role.Execute ∷ role.Writeback ∷ []

-- PipelineStageView
pub record StageView : Type 0 where
  pub role : PipelineStageRole
  pub slot : Option SlotView

unfoldable pub oldest_in : Phase → State → Option Op
oldest_in p s = option_map unit_op (oldest (in_phase p) s.units)

-- The oldest occupant of each stage.
unfoldable pub stage_ops : State → List (Option Op)
stage_ops s = head s.queue ∷ oldest_in phase.Wait s ∷ oldest_in phase.Read s ∷ oldest_in phase.Execute s ∷ oldest_in phase.Write s ∷ []

unfoldable pub stage_op : State → ℕ → Option Op
stage_op s i = when_some (slice_get (stage_ops s) i) None (λ (o : Option Op). o)

unfoldable pub stage_view : State → ℕ → Option StageView
stage_view s i = option_map (λ (r : PipelineStageRole). record { role = r; slot = option_map slot_view (stage_op s i) }) (slice_get stage_roles i)

-- PipelineEdge
pub record Edge : Type 0 where
  pub from : ℕ
  pub to : ℕ
  pub kind : PipelineEdgeKind

abbrev pub edge : ℕ → ℕ → PipelineEdgeKind → Edge
edge f t k = record { from = f; to = t; kind = k }

unfoldable pub edges : List Edge
edges =
    edge FETCH ISSUE Sequential ∷ edge ISSUE READ Sequential ∷ edge READ EXECUTE Sequential ∷ edge EXECUTE WRITE Sequential
    ∷ edge WRITE FETCH Feedback ∷ []

abbrev pub stages : List ℕ
stages = FETCH ∷ ISSUE ∷ READ ∷ EXECUTE ∷ WRITE ∷ []

unfoldable pub is_sequential : Edge → Bool
is_sequential e = eqb (edge_number e.kind) (edge_number Sequential)

-- entry_stages: those that no sequential edge leads to.
unfoldable pub entry_stages : List ℕ
entry_stages = keep (λ (n : ℕ). not (list_any (λ (e : Edge). eqb e.to n && is_sequential e) edges)) stages

-- stage_order: breadth-first from the entry stages along sequential edges; what is not reached comes last. The fuel is more than it takes.
unfoldable pub next_stages : ℕ → List ℕ
next_stages n = map (λ (e : Edge). e.to) (keep (λ (e : Edge). eqb e.from n && is_sequential e) edges)

unfoldable pub breadth_first : ℕ → List ℕ → List ℕ → List ℕ
breadth_first zero order queue = order
breadth_first (suc fuel) order [] = order
breadth_first (suc fuel) order (n ∷ queue) =
    breadth_first fuel (order ++ cond (elem n order) [] (n ∷ [])) (queue ++ cond (elem n order) [] (next_stages n))

unfoldable pub reached : List ℕ
reached = breadth_first 10 [] entry_stages

unfoldable pub stage_order : List ℕ
stage_order = reached ++ keep (λ (n : ℕ). not (elem n reached)) stages

-- ── Kinds of unit, and the wait list ────────────────────────────────────────

-- PipelineUnitView. The capacity is the noted one.
pub record UnitView : Type 0 where
  pub capacity : ℕ
  pub active : ℕ
  pub first : Option SlotView
  pub latency_class : PipelineInstructionClass
  pub latency : ℕ

unfoldable pub in_kind : ℕ → FunctionalUnit → Bool
in_kind i u = u.busy && eqb u.spec i

unfoldable pub working : State → ℕ → Option FunctionalUnit
working s i = oldest (in_kind i) s.units

-- The class of the oldest unit at work, or else the kind's own.
unfoldable pub shown_class : Option FunctionalUnit → UnitSpec → PipelineInstructionClass
shown_class w k = when_some w k.latency_class (λ (u : FunctionalUnit). u.class)

unfoldable pub unit_view_of : State → ℕ → UnitSpec → UnitView
unit_view_of s i k =
    record {
      capacity = k.capacity;
      active = count (in_kind i) s.units;
      first = option_map slot_view (option_map unit_op (working s i));
      latency_class = shown_class (working s i) k;
      latency = latency s.machine.times (shown_class (working s i) k);
    }

unfoldable pub unit_view : State → ℕ → Option UnitView
unit_view s i = option_map (unit_view_of s i) (slice_get s.machine.specs i)

-- PipelineTraceView
pub record TraceView : Type 0 where
  pub kind : PipelineTraceKind
  pub from_stage : ℕ
  pub to_stage : ℕ

unfoldable pub trace_view : Trace → TraceView
trace_view t = record { kind = Hazard t.kind; from_stage = t.from; to_stage = t.to }

-- ── The timeline ────────────────────────────────────────────────────────────

-- PipelineTimelineRow, and the row's id.
pub record RowView : Type 0 where
  pub id : ℕ
  pub address : ℕ
  pub class : PipelineInstructionClass
  pub first_cycle : ℕ
  pub cells : ℕ
  pub atomic : Bool

unfoldable pub row_view : Row → RowView
row_view r =
    record {
      id = r.id;
      address = r.address;
      class = r.class;
      first_cycle = r.first_cycle;
      cells = r.count;
      atomic = r.atomic;
    }

-- PipelineTimelineCell, of a byte: the number of its label, its state, and the role that follows from the label.
pub record CellView : Type 0 where
  pub label : ℕ
  pub state : PipelineTimelineState
  pub role : PipelineStageRole

-- The byte's upper three bits. A byte that the engine never sets shows as Empty.
unfoldable pub cell_state : ℕ → PipelineTimelineState
cell_state b = cond (eqb (b / 32) 0) cell.Active (cond (eqb (b / 32) 1) cell.Stalled (cond (eqb (b / 32) 2) cell.Flushed cell.Empty))

-- IF, IS, RO, WR; 8 to 23 the kinds; FL and labels that the engine never sets have the role Other.
unfoldable pub label_role : ℕ → PipelineStageRole
label_role n =
    cond (eqb n 0) role.Fetch
    (cond (eqb n 1) role.Issue
    (cond (eqb n 2) role.Decode (cond (eqb n 3) role.Writeback (cond (ltb 7 n && ltb n 24) role.Execute role.Other))))

unfoldable pub cell_view : ℕ → CellView
cell_view b = record { label = b % 32; state = cell_state b; role = label_role (b % 32) }

-- timeline_cell, from the lent memory.
unfoldable pub cell_byte : State → List ℕ → ℕ → ℕ → Option ℕ
cell_byte s m r c = when_some (slice_get s.log.rows r) None (λ (w : Row). cell_at s.machine.history w m c)

-- Whether the row has such a cell.
unfoldable pub cell_there : State → ℕ → ℕ → Bool
cell_there s r c = when_some (slice_get s.log.rows r) false (λ (w : Row). ltb c w.count)

-- ── Stations and claims ─────────────────────────────────────────────────────

-- PipelineOperandView, by the register's number.
pub record OperandView : Type 0 where
  pub register : ℕ
  pub producer : Option ℕ

-- The unit that owes a register, if one does.
unfoldable pub owed : List (ℕ × ℕ) → ℕ → Option ℕ
owed [] r = None
owed (p ∷ ps) r = cond (eqb p.0 r) (Some p.1) (owed ps r)

unfoldable pub operand_view : FunctionalUnit → ℕ → Option OperandView
operand_view u j = option_map (λ (r : ℕ). record { register = r; producer = owed u.pending r }) (slice_get u.sources j)

-- PipelineStationView
pub record StationView : Type 0 where
  pub unit : ℕ
  pub tag : Option ℕ
  pub slot : Option SlotView
  pub phase : PipelineEntryPhase
  pub operand_0 : Option OperandView
  pub operand_1 : Option OperandView

-- By busy, phase, and whether nothing is pending.
unfoldable pub entry_phase : Bool → Phase → Bool → PipelineEntryPhase
entry_phase false p e = Free
entry_phase true phase.Wait false = Waiting
entry_phase true phase.Wait true = Armed
entry_phase true phase.Read e = Armed
entry_phase true phase.Execute e = Executing
entry_phase true phase.Write e = Finished

unfoldable pub station_op : FunctionalUnit → Option Op
station_op u = cond u.busy (Some u.op) None

unfoldable pub station_view : ℕ → FunctionalUnit → StationView
station_view i u =
    record {
      unit = u.spec;
      tag = cond u.busy (Some i) None;
      slot = option_map slot_view (station_op u);
      phase = entry_phase u.busy u.phase (is_empty u.pending);
      operand_0 = operand_view u 0;
      operand_1 = operand_view u 1;
    }

-- PipelineRenameView: (register, unit that owes it).
unfoldable pub claims : State → List (ℕ × ℕ)
claims s = outstanding 0 s.producer

-- All of these unfold where a line says `unfolding views`.
unfoldable pub views : Unit {0}
unfolding slot_view offer_view status_view older oldest stage_roles oldest_in stage_ops stage_op stage_view edges is_sequential
    entry_stages next_stages breadth_first reached stage_order in_kind working shown_class unit_view_of unit_view trace_view row_view cell_state
    label_role cell_view cell_byte cell_there owed operand_view entry_phase station_op station_view claims
views = tt
