-- scoreboard.rs: advance, fetched, set_capacity, set_enabled, reset_to, and the questions resume_pc and in_flight_before.
use Rattle.std.specs.Prelude.{ℕ, Bool, true, false, cond, not, ◌&&◌, ◌||◌, List, [], ◌∷◌, ◌++◌, map, ltb, length, Option, None, Some}
use Rattle.laws.specs.Optional.{when_some}
use Rattle.laws.specs.Lists.{is_empty, modify, keep}
use Rattle.std.specs.List.{list_any}
use Rattle.laws.specs.Numbers.{saturating_add}
use Rattle.model.specs.Config.{latency, UnitSpec, with_capacity, with_specs}
use Rattle.model.specs.Op.{Given, core_of, Op, op_of, sequential_address}
use Rattle.model.specs.Timeline.{row_of, open_row, Write}
use Rattle.model.specs.Units.{FunctionalUnit, is_busy, unit_op, build_units}
use Rattle.model.specs.State.{
  no_stats,
  marks,
  offer_of,
  front_of,
  log_of,
  State,
  state,
  with_queue,
  with_front,
  with_log,
  with_rows,
  with_status,
  with_enabled,
  with_turn,
  with_fetch_pc,
  with_next,
}
use Rattle.model.specs.Issue.{
  complete_write,
  redirected,
  tick_execute,
  start_ready,
  read_operands,
  issue,
  looked_at,
  record_timeline,
  redirect_writes,
  timeline_writes,
}

-- ── advance ─────────────────────────────────────────────────────────────────

-- Ours: the cycle closes.
unfoldable pub close_cycle : State → State
close_cycle s = with_front (with_turn false false s.front) s

unfoldable pub closed : State → State
closed s = close_cycle (complete_write s)

unfoldable pub clear_status : State → State
clear_status s = with_log (with_status None s.log) s

-- What advance does before it issues.
unfoldable pub before_issue : Option ℕ → State → State
before_issue redirect s = read_operands (start_ready (tick_execute (redirected redirect (clear_status s))))

unfoldable pub idle : State → Bool
idle s = is_empty s.queue && not (list_any is_busy s.units)

unfoldable pub may_fetch : State → Bool
may_fetch s = ltb (length s.queue) s.machine.depth && (s.front.enabled || idle s)

unfoldable pub invite : State → State
invite s = with_front (with_turn s.front.in_cycle (may_fetch s) s.front) s

unfoldable pub after_issue : State → State
after_issue s = invite (record_timeline s)

unfoldable pub stops : State → Bool
stops s = s.front.halted || s.front.faulted

unfoldable pub advance : Option ℕ → State → State
advance redirect s = cond (stops s) (closed s) (after_issue (issue (before_issue redirect (closed s))))

-- The operation that it looks at, if it does.
unfoldable pub advance_looked : Option ℕ → State → Option Op
advance_looked redirect s = cond (stops s) None (looked_at (before_issue redirect (closed s)))

-- The bytes of the cell memory that it sets.
unfoldable pub advance_writes : Option ℕ → State → List Write
advance_writes redirect s =
    cond (stops s) [] (redirect_writes redirect (closed s) ++ timeline_writes (issue (before_issue redirect (closed s))))

-- ── fetched ─────────────────────────────────────────────────────────────────

unfoldable pub next_address : Given → State → ℕ
next_address g s = sequential_address s.machine.instruction_bytes g.decoded

unfoldable pub fetched_op : Given → State → Op
fetched_op g s =
    op_of
    (core_of g.decoded s.front.next_row s.front.next_seq None (latency s.machine.times g.decoded.class) (next_address g s))
    g.info

unfoldable pub fetched : Given → State → State
fetched g s =
    with_queue (s.queue ++ (fetched_op g s ∷ []))
    (with_front
    (with_fetch_pc (next_address g s)
    (with_next (saturating_add s.front.next_row 1) (saturating_add s.front.next_seq 1) (with_turn s.front.in_cycle false s.front)))
    (with_log
    (with_rows
    (open_row s.machine.history
    (row_of s.front.next_row g.decoded.address g.info.disassembly g.decoded.class s.log.stats.cycles
    g.decoded.atomic 0 1)
    s.log.rows)
    s.log)
    s))

-- ── Capacity, overlap, reset ────────────────────────────────────────────────

-- The units are built where none is busy; else the capacity is only noted.
unfoldable pub rebuilt : Bool → List UnitSpec → List FunctionalUnit → List FunctionalUnit
rebuilt true ks us = us
rebuilt false ks us = build_units 0 ks

unfoldable pub with_noted : ℕ → ℕ → State → List UnitSpec
with_noted k n s = modify k (with_capacity n) s.machine.specs

unfoldable pub set_capacity : ℕ → ℕ → State → State
set_capacity k n s =
    state (with_specs (with_noted k n s) s.machine) (rebuilt (list_any is_busy s.units) (with_noted k n s) s.units) s.queue s.names
    s.producer s.marks s.offer s.front s.log

unfoldable pub set_enabled : Bool → State → State
set_enabled b s = with_front (with_enabled b s.front) s

-- `keeps`: with history kept, the counters, the rows, and row and sequence numbers stay.
unfoldable pub reset_to : ℕ → Bool → State → State
reset_to address keeps s =
    state s.machine (build_units 0 s.machine.specs) [] [] [] (marks false false) (offer_of None false)
    (front_of s.front.enabled false false false false address (cond keeps s.front.next_row 0) (cond keeps s.front.next_seq 0))
    (log_of (cond keeps s.log.stats no_stats) [] (cond keeps s.log.rows []) None)

-- ── Questions ───────────────────────────────────────────────────────────────

-- Everything in flight: in units, then in the queue.
unfoldable pub in_flight : State → List Op
in_flight s = map unit_op (keep is_busy s.units) ++ s.queue

-- min_by_key(seq): the oldest, the first of equals.
unfoldable pub older_op : Op → Option Op → Option Op
older_op o None = Some o
older_op o (Some p) = cond (ltb p.core.seq o.core.seq) (Some p) (Some o)

unfoldable pub oldest_op : List Op → Option Op
oldest_op [] = None
oldest_op (o ∷ os) = older_op o (oldest_op os)

unfoldable pub resume_pc : State → ℕ
resume_pc s = when_some (oldest_op (in_flight s)) s.front.fetch_pc (λ (o : Op). o.core.decoded.address)

unfoldable pub in_flight_before : ℕ → State → Bool
in_flight_before n s = list_any (λ (o : Op). ltb o.core.seq n) (in_flight s)

-- All of these unfold where a line says `unfolding scoreboard`.
unfoldable pub scoreboard : Unit {0}
unfolding close_cycle closed clear_status before_issue idle may_fetch invite after_issue stops advance advance_looked advance_writes
    next_address fetched_op fetched rebuilt with_noted set_capacity set_enabled reset_to in_flight older_op oldest_op resume_pc in_flight_before
scoreboard = tt
