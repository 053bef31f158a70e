-- scoreboard.rs: the opening of a cycle, which tries the finished units and offers a result, and what may be done with the offer.
use Rattle.std.specs.Prelude.{ℕ, suc, Bool, true, false, cond, not, ◌&&◌, ◌||◌, List, [], ◌∷◌, map, eqb, ltb, Option, None, Some, option_map}
use Rattle.laws.specs.Optional.{when_some}
use Rattle.std.specs.Option.{option_or}
use Rattle.laws.specs.Lists.{modify, find_at, any_at, elem}
use Rattle.std.specs.List.{list_any}
use Rattle.laws.specs.Texts.{Text, bytes}
use Rattle.capability.specs.declared.PipelineHazardKind.{PipelineHazardKind}
use Rattle.capability.specs.declared.PipelineHazardKind.TheVariants.{FunctionalUnitBusy, WriteAfterRead}
use Rattle.capability.specs.declared.Phase.TheVariants as phase
use Rattle.model.specs.Config.{is_memory, is_system}
use Rattle.model.specs.Op.{Op, with_hazard, mnemonic}
use Rattle.model.specs.Registers.{name_of}
use Rattle.model.specs.Traces.{Detail, overwrites, memory_order, drains, Trace, trace_of, READ, WRITE}
use Rattle.model.specs.Units.{FunctionalUnit, with_busy, clear, in_phase, seq_of, unit_at, clear_hazard, mark_hazard}
use Rattle.model.specs.State.{
  State,
  marks,
  offer_of,
  count_cycle,
  count_retired,
  stall_all,
  with_units,
  with_queue,
  with_registers,
  with_marks,
  with_offer,
  with_front,
  with_log,
  with_stats,
  with_traces,
  with_status,
  with_stopped,
  with_turn,
}

-- ── start_cycle ─────────────────────────────────────────────────────────────

-- Cycles rise by 1, the wait list and the hazards are cleared; a start ends an invitation.
unfoldable pub open_cycle : State → State
open_cycle s =
    with_units (map clear_hazard s.units)
    (with_queue (map (with_hazard None) s.queue)
    (with_front (with_turn true false s.front) (with_log (with_stats (count_cycle s.log.stats) (with_traces [] s.log)) s)))

-- Why a finished unit may not write: WAR with the register and its reader, memory order with the older access, or drain.
pub data Blocked : Type 0 where
  war : ℕ → ℕ → Blocked
  memory : ℕ → Blocked
  drain : Blocked

unfoldable pub blocked_kind : Blocked → PipelineHazardKind
blocked_kind (war r j) = WriteAfterRead
blocked_kind (memory j) = FunctionalUnitBusy
blocked_kind drain = FunctionalUnitBusy

-- Unit j, another than i, is busy, reads register r, and does not wait for it.
unfoldable pub reads : ℕ → ℕ → ℕ → FunctionalUnit → Bool
reads i r j u = not (eqb j i) && u.busy && elem r u.sources && not (list_any (λ (p : ℕ × ℕ). eqb p.0 r) u.pending)

unfoldable pub war_reader : List FunctionalUnit → ℕ → List ℕ → Option Blocked
war_reader us i [] = None
war_reader us i (r ∷ rs) = option_or (option_map (war r) (find_at (reads i r) 0 us)) (war_reader us i rs)

unfoldable pub older_memory : ℕ → ℕ → ℕ → FunctionalUnit → Bool
older_memory i n j u = not (eqb j i) && u.busy && is_memory u.class && ltb (seq_of u) n

unfoldable pub memory_blocked : List FunctionalUnit → ℕ → Option Blocked
memory_blocked us i =
    cond (is_memory (unit_at us i).class) (option_map memory (find_at (older_memory i (seq_of (unit_at us i))) 0 us)) None

unfoldable pub other_busy : ℕ → ℕ → FunctionalUnit → Bool
other_busy i j u = not (eqb j i) && u.busy

unfoldable pub drain_blocked : List FunctionalUnit → ℕ → Option Blocked
drain_blocked us i = cond (is_system (unit_at us i).class && any_at (other_busy i) 0 us) (Some drain) None

-- write_blocked: the first of the three that holds.
unfoldable pub write_blocked : List FunctionalUnit → ℕ → Option Blocked
write_blocked us i =
    option_or (war_reader us i (unit_at us i).destinations) (option_or (memory_blocked us i) (drain_blocked us i))

-- The units in write phase, as (sequence number, index), oldest first.
unfoldable pub insert : (ℕ × ℕ) → List (ℕ × ℕ) → List (ℕ × ℕ)
insert p [] = p ∷ []
insert p (q ∷ qs) = cond (ltb q.0 p.0) (q ∷ insert p qs) (p ∷ q ∷ qs)

unfoldable pub ready_at : ℕ → List FunctionalUnit → List (ℕ × ℕ)
ready_at i [] = []
ready_at i (u ∷ us) = cond (in_phase phase.Write u) (insert (seq_of u, i)) (λ qs. qs) (ready_at (suc i) us)

-- writable_unit: those turned away, in order, and the first that is not.
pub record Tried : Type 0 where
  pub turned_away : List (ℕ × Blocked)
  pub found : Option ℕ

abbrev pub tried : List (ℕ × Blocked) → Option ℕ → Tried
tried t f = record { turned_away = t; found = f }

unfoldable pub try_one : ℕ → Option Blocked → Tried → Tried
try_one i None t = tried [] (Some i)
try_one i (Some b) t = tried ((i, b) ∷ t.turned_away) t.found

unfoldable pub try_writes : List FunctionalUnit → List (ℕ × ℕ) → Tried
try_writes us [] = tried [] None
try_writes us (q ∷ qs) = try_one q.1 (write_blocked us q.1) (try_writes us qs)

unfoldable pub writable_unit : List FunctionalUnit → Tried
writable_unit us = try_writes us (ready_at 0 us)

unfoldable pub mark_blocked : List (ℕ × Blocked) → List FunctionalUnit → List FunctionalUnit
mark_blocked [] us = us
mark_blocked (b ∷ bs) us = mark_blocked bs (modify b.0 (mark_hazard (blocked_kind b.1)) us)

-- unit.op.take()
unfoldable pub take_out : Option ℕ → List FunctionalUnit → List FunctionalUnit
take_out None us = us
take_out (Some i) us = modify i (with_busy false) us

unfoldable pub blocked_detail : List FunctionalUnit → List Text → ℕ → Blocked → Detail
blocked_detail us ns i (war r j) = overwrites (mnemonic (unit_at us i).op) (name_of ns r) (mnemonic (unit_at us j).op)
blocked_detail us ns i (memory j) = memory_order (mnemonic (unit_at us i).op) (mnemonic (unit_at us j).op)
blocked_detail us ns i drain = drains (mnemonic (unit_at us i).op)

unfoldable pub blocked_trace : List FunctionalUnit → List Text → (ℕ × Blocked) → Trace
blocked_trace us ns b = trace_of (blocked_kind b.1) READ WRITE (blocked_detail us ns b.0 b.1)

unfoldable pub offer_found : Tried → State → State
offer_found t s =
    with_units (take_out t.found (mark_blocked t.turned_away s.units))
    (with_offer (offer_of t.found false)
    (with_log (stall_all (map (blocked_trace s.units s.names) t.turned_away) s.log) s))

unfoldable pub start_cycle : State → State
start_cycle s = offer_found (writable_unit (open_cycle s).units) (open_cycle s)

-- ── Between start and advance ───────────────────────────────────────────────

unfoldable pub offered_op : State → Option Op
offered_op s = option_map (λ (i : ℕ). (unit_at s.units i).op) s.offer.writing

unfoldable pub offered_branch : State → Bool
offered_branch s = when_some (offered_op s) false (λ (o : Op). o.core.decoded.branch)

unfoldable pub retire : State → State
retire s =
    with_offer (offer_of s.offer.writing true) (with_log (with_stats (count_retired (offered_branch s) s.log.stats) s.log) s)

unfoldable pub put_back : Option ℕ → List FunctionalUnit → List FunctionalUnit
put_back None us = us
put_back (Some i) us = modify i (with_busy true) us

unfoldable pub retry : Text → State → State
retry reason s =
    with_units (put_back s.offer.writing s.units)
    (with_offer (offer_of None false) (with_log (with_status (Some reason) s.log) s))

-- resolve: where to go instead, if the front end ran down the wrong path.
unfoldable pub resolve_branch : Option Op → ℕ → Option ℕ
resolve_branch None actual = None
resolve_branch (Some o) actual =
    cond (o.core.decoded.branch && not (eqb actual o.core.predicted_next)) (Some actual) None

-- ── halt and fault ──────────────────────────────────────────────────────────

-- abandon: drop everything in flight.
unfoldable pub abandon : State → State
abandon s =
    with_units (map clear s.units)
    (with_queue []
    (with_registers s.names (map (λ (p : Option ℕ). None) s.producer) (with_marks (marks false false) (with_offer (offer_of None false) s))))

unfoldable pub stopped : Bool → Bool → Text → State → State
stopped h f note s =
    with_log (with_status (Some note) s.log)
    (with_front (with_stopped (h || s.front.halted) (f || s.front.faulted) (with_turn s.front.in_cycle false s.front)) (abandon s))

unfoldable pub halt : State → State
halt s = stopped true false (bytes "halted") s

unfoldable pub fault : Text → State → State
fault note s = stopped false true note s

-- All of these unfold where a line says `unfolding writing`.
unfoldable pub writing : Unit {0}
unfolding open_cycle blocked_kind reads war_reader older_memory memory_blocked other_busy drain_blocked write_blocked insert ready_at
    try_one try_writes writable_unit mark_blocked take_out blocked_detail blocked_trace offer_found start_cycle offered_op offered_branch
    retire put_back retry resolve_branch abandon stopped halt fault
writing = tt
