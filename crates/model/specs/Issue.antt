-- scoreboard.rs: the parts of a cycle after the write: redirect, execute, read operands, issue, timeline.
use Rattle.std.specs.Prelude.{ℕ, ◌+◌, Bool, true, false, cond, not, ◌&&◌, ◌||◌, List, [], ◌∷◌, ◌++◌, map, eqb, length, Option, None, Some, is_some, slice_get}
use Rattle.laws.specs.Optional.{value_or, when_some}
use Rattle.laws.specs.Lists.{modify, find_at, keep}
use Rattle.laws.specs.Texts.{Text}
use Rattle.capability.specs.declared.PipelineInstructionClass.{PipelineInstructionClass}
use Rattle.capability.specs.declared.PipelineHazardKind.{PipelineHazardKind}
use Rattle.capability.specs.declared.PipelineHazardKind.TheVariants.{ReadAfterWrite, BranchFlush, FunctionalUnitBusy, WriteAfterWrite}
use Rattle.capability.specs.declared.Phase.{Phase}
use Rattle.capability.specs.declared.Phase.TheVariants.{Wait, Read, Execute, Write}
use Rattle.model.specs.Config.{is_system, UnitSpec, spec_index, spec_name}
use Rattle.model.specs.Op.{Op, with_hazard, mnemonic}
use Rattle.model.specs.Registers.{Operands, resolve, name_of, pad, producer_of, claim_all, release_all}
use Rattle.model.specs.Timeline.{push_all, Write as CellWrite, push_all_writes}
use Rattle.model.specs.Traces.{
  Detail,
  waits_for,
  behind_branch,
  behind_system,
  still_writes,
  all_busy,
  redirect_to,
  Trace,
  trace_of,
  FETCH,
  ISSUE,
  EXECUTE,
  WRITE,
}
use Rattle.model.specs.Units.{
  FunctionalUnit,
  clear,
  is_busy,
  unit_at,
  without_waits,
  tick,
  begin,
  waits,
  read_one,
  occupy,
}
use Rattle.model.specs.State.{Marks, marks, offer_of, State, count_flush, stall_all, with_units, with_queue, with_registers, with_marks, with_offer, with_front, with_log, with_stats, with_traces, with_rows, with_fetch_pc}

-- ── complete_write ──────────────────────────────────────────────────────────

unfoldable pub complete_at : ℕ → State → State
complete_at i s =
    with_units (map (without_waits i) (modify i clear s.units))
    (with_registers s.names (release_all i s.producer (unit_at s.units i).destinations)
    (with_marks
    (marks (not (unit_at s.units i).redirects && s.marks.branch) (not (is_system (unit_at s.units i).class) && s.marks.system))
    (with_offer (offer_of None false) s)))

unfoldable pub complete_offer : Option ℕ → State → State
complete_offer None s = s
complete_offer (Some i) s = complete_at i s

unfoldable pub complete_write : State → State
complete_write s = complete_offer s.offer.writing s

-- ── A redirect ──────────────────────────────────────────────────────────────

-- An FL cell: label 4, state 64.
unfoldable pub flushed_cell : Op → (ℕ × ℕ)
flushed_cell o = (o.core.row, 68)

unfoldable pub flush : ℕ → State → State
flush target s =
    with_queue []
    (with_front (with_fetch_pc target s.front)
    (with_log
    (with_stats (count_flush (length s.queue) s.log.stats)
    (with_traces (s.log.traces ++ (trace_of BranchFlush WRITE FETCH (redirect_to target) ∷ []))
    (with_rows (push_all (map flushed_cell s.queue) s.log.rows) s.log)))
    s))

unfoldable pub redirected : Option ℕ → State → State
redirected None s = s
redirected (Some target) s = flush target s

-- ── Execute and read operands ───────────────────────────────────────────────

unfoldable pub tick_execute : State → State
tick_execute s = with_units (map tick s.units) s

unfoldable pub start_ready : State → State
start_ready s = with_units (map begin s.units) s

unfoldable pub producer_text : FunctionalUnit → Option Text
producer_text u = cond u.busy (Some (mnemonic u.op)) None

unfoldable pub wait_detail : List FunctionalUnit → List Text → FunctionalUnit → (ℕ × ℕ) → Detail
wait_detail us ns u p = waits_for (mnemonic u.op) (name_of ns p.0) (producer_text (unit_at us p.1))

-- The wait of a unit is its first.
unfoldable pub wait_trace : List FunctionalUnit → List Text → FunctionalUnit → Trace
wait_trace us ns u = trace_of ReadAfterWrite EXECUTE ISSUE (wait_detail us ns u (value_or (0, 0) (slice_get u.pending 0)))

unfoldable pub read_operands : State → State
read_operands s =
    with_log (stall_all (map (wait_trace s.units s.names) (keep waits s.units)) s.log)
    (with_units (map read_one s.units) s)

-- ── issue ───────────────────────────────────────────────────────────────────

-- block_issue
unfoldable pub block_issue : PipelineHazardKind → Detail → State → State
block_issue h d s =
    with_queue (modify 0 (with_hazard (Some h)) s.queue) (with_log (stall_all (trace_of h ISSUE FETCH d ∷ []) s.log) s)

-- free_unit: the lowest of the kind.
unfoldable pub is_free : ℕ → ℕ → FunctionalUnit → Bool
is_free spec i u = eqb u.spec spec && not u.busy

unfoldable pub free_unit : List UnitSpec → List FunctionalUnit → PipelineInstructionClass → Option ℕ
free_unit ks us c = find_at (is_free (spec_index ks c)) 0 us

-- The first destination that somebody in flight writes.
unfoldable pub taken : List (Option ℕ) → List ℕ → Option ℕ
taken ps [] = None
taken ps (r ∷ rs) = cond (is_some (producer_of ps r)) (Some r) (taken ps rs)

-- The sources that are owed, with the unit that owes each.
unfoldable pub waits_on : List (Option ℕ) → List ℕ → List (ℕ × ℕ)
waits_on ps [] = []
waits_on ps (r ∷ rs) = when_some (producer_of ps r) [] (λ (u : ℕ). (r, u) ∷ []) ++ waits_on ps rs

-- The names after a look; a new name has no producer.
unfoldable pub learn : List Text → State → State
learn ns s = with_registers ns (pad s.producer ns) s

-- Into unit i: the waits are recorded before the claims are made.
unfoldable pub place : Op → List Op → List ℕ → List ℕ → ℕ → State → State
place o rest r w i s =
    with_units (modify i (occupy o r w (waits_on s.producer r)) s.units)
    (with_queue rest
    (with_registers s.names (claim_all i s.producer w)
    (with_marks (marks (o.core.decoded.branch || s.marks.branch) (is_system o.core.decoded.class || s.marks.system)) s)))

-- By the first claimed destination, and the free unit.
unfoldable pub issue_to : Op → List Op → List ℕ → List ℕ → Option ℕ → Option ℕ → State → State
issue_to o rest r w (Some t) free s = block_issue WriteAfterWrite (still_writes (mnemonic o) (name_of s.names t)) s
issue_to o rest r w None None s =
    block_issue FunctionalUnitBusy (all_busy (spec_name s.machine.specs (spec_index s.machine.specs o.core.decoded.class))) s
issue_to o rest r w None (Some i) s = place o rest r w i s

-- After the look.
unfoldable pub issue_looked : Op → List Op → Operands → State → State
issue_looked o rest x s =
    issue_to o rest x.read x.written (taken (learn x.names s).producer x.written)
    (free_unit s.machine.specs s.units o.core.decoded.class) (learn x.names s)

-- By the two marks: branch pending, system pending.
unfoldable pub issue_choose : Bool → Bool → Op → List Op → State → State
issue_choose true y o rest s = block_issue BranchFlush (behind_branch (mnemonic o)) s
issue_choose false true o rest s = block_issue FunctionalUnitBusy (behind_system (mnemonic o)) s
issue_choose false false o rest s = issue_looked o rest (resolve s.names o.info) s

unfoldable pub issue_front : List Op → State → State
issue_front [] s = s
issue_front (o ∷ rest) s = issue_choose s.marks.branch s.marks.system o rest s

unfoldable pub issue : State → State
issue s = issue_front s.queue s

-- The operation that an issue looks at, if it does.
unfoldable pub look_choose : Bool → Bool → Op → Option Op
look_choose true y o = None
look_choose false true o = None
look_choose false false o = Some o

unfoldable pub look_front : List Op → Marks → Option Op
look_front [] k = None
look_front (o ∷ rest) k = look_choose k.branch k.system o

unfoldable pub looked_at : State → Option Op
looked_at s = look_front s.queue s.marks

-- What a look gives: the operation's number, and the numbers of its reads and then of its writes.
unfoldable pub look : List Text → Op → (ℕ × List ℕ)
look ns o = (o.core.seq, (resolve ns o.info).read ++ (resolve ns o.info).written)

-- ── record_timeline ─────────────────────────────────────────────────────────

-- A cell's byte is label plus state: labels 0 IF, 1 IS, 2 RO, 3 WR, 4 FL, 8 + k the name of kind k; state 0 active, 32 stalled, 64 flushed.
unfoldable pub stalled_or : Option PipelineHazardKind → ℕ
stalled_or h = cond (is_some h) 32 0

unfoldable pub queue_cell : Op → (ℕ × ℕ)
queue_cell o = (o.core.row, stalled_or o.core.hazard)

unfoldable pub phase_label : Phase → ℕ → ℕ
phase_label Wait k = 1
phase_label Read k = 2
phase_label Execute k = 8 + k
phase_label Write k = 3

unfoldable pub unit_cell : FunctionalUnit → (ℕ × ℕ)
unit_cell u = (u.op.core.row, phase_label u.phase u.spec + stalled_or u.op.core.hazard)

unfoldable pub timeline_cells : State → List (ℕ × ℕ)
timeline_cells s = map queue_cell s.queue ++ map unit_cell (keep is_busy s.units)

unfoldable pub record_timeline : State → State
record_timeline s = with_log (with_rows (push_all (timeline_cells s) s.log.rows) s.log) s

-- The bytes of the cell memory that a redirect and a timeline set.
unfoldable pub redirect_writes : Option ℕ → State → List CellWrite
redirect_writes None s = []
redirect_writes (Some target) s = push_all_writes s.machine.history (map flushed_cell s.queue) s.log.rows

unfoldable pub timeline_writes : State → List CellWrite
timeline_writes s = push_all_writes s.machine.history (timeline_cells s) s.log.rows

-- All of these unfold where a line says `unfolding issuing`.
unfoldable pub issuing : Unit {0}
unfolding complete_at complete_offer complete_write flushed_cell flush redirected tick_execute start_ready producer_text wait_detail
    wait_trace read_operands block_issue is_free free_unit taken waits_on learn place issue_to issue_looked issue_choose issue_front issue
    look_choose look_front looked_at look stalled_or queue_cell phase_label unit_cell timeline_cells record_timeline redirect_writes
    timeline_writes
issuing = tt
