-- Each step of the engine takes engines of one bare form to engines of one bare form.
use Prim.Native.Nat.{ℕ}
use mathlib.Core.Path.{◌≡◌, refl, sym, ◌∙◌, ap, ap₂}
use mathlib.Core.Bool.{Bool, true, false, not, ◌&&◌, ◌||◌}
use Rattle.std.specs.Prelude.{Option, None, Some, option_map}
use mathlib.Core.List.{List, [], ◌∷◌, ◌++◌, map}
use lib.Dec.{ltb}
use lib.ListN.{length}
use Rattle.capability.specs.declared.PipelineHazardKind.{PipelineHazardKind}
use Rattle.capability.specs.declared.PipelineHazardKind.TheVariants.{BranchFlush, FunctionalUnitBusy, WriteAfterWrite}
use Rattle.capability.specs.declared.PipelineInstructionClass.{PipelineInstructionClass}
use Rattle.laws.specs.Lists.{keep, modify}
use Rattle.std.specs.List.{list_any}
use Rattle.laws.specs.Numbers.{saturating_add}
use Rattle.laws.specs.Optional.{when_some}
use Rattle.laws.specs.Texts.{Text}
use Rattle.model.specs.Config.{UnitSpec, is_system, with_capacity, with_specs}
use Rattle.model.specs.Issue.{block_issue, complete_at, complete_offer, flush, flushed_cell, free_unit, issue_looked, issue_to, issuing, learn, place, queue_cell, read_operands, record_timeline, redirect_writes, redirected, start_ready, taken, tick_execute, timeline_cells, timeline_writes, wait_trace, waits_on}
use Rattle.model.specs.Op.{Decoded, Given, Info, Op, given, info_of, with_hazard}
use Rattle.model.specs.Registers.{Operands, claim_all, pad, registers, release_all}
use Rattle.model.specs.Scoreboard.{after_issue, before_issue, clear_status, close_cycle, closed, fetched, fetched_op, invite, may_fetch, rebuilt, scoreboard, set_capacity, set_enabled}
use Rattle.model.specs.State.{State, engine, front_of, log_of, marks, offer_of, stall_all, state, stats_of, up, with_front, with_log, with_units}
use Rattle.model.specs.Timeline.{Row, open_row, row_of, timeline}
use Rattle.model.specs.Traces.{Detail, Trace, redirect_to, trace_of}
use Rattle.model.specs.Units.{FunctionalUnit, begin, clear, clear_hazard, is_busy, occupy, read_one, tick, unit_at, units, waits, without_waits}
use Rattle.model.specs.Write.{Tried, blocked_trace, mark_blocked, offer_found, offered_branch, offered_op, open_cycle, put_back, retire, retry, start_cycle, stopped, take_out, writable_unit, writing}
use Rattle.laws.proofs.Maps.{map-append, map-swap}
use Rattle.renaming.proofs.Queries.{bare-at, hide, same_at, same-busy, same-cells, same-empty, same-free, same-front, same_length, same-mapped, same-marked, same-modified, same-opened, same-pushed, same-put-back, same-queue-cells, same-queued, same-stalled, same-taken-out, same-waits, same-writable, same-written}
use Rattle.renaming.specs.Recording.{bare, bare_info, bare_log, bare_op, bare_row, bare_trace, bare_unit, blank}

-- Two engines of one bare form.
abbrev pub Like : State → State → Type 0
Like s t = bare hide s ≡ bare hide t

module _ (s t : State) (h : Like s t) where
  abbrev pub like-units : map (bare_unit hide) s.units ≡ map (bare_unit hide) t.units
  like-units = λ i. (h i).units

  abbrev pub like-queue : map (bare_op hide) s.queue ≡ map (bare_op hide) t.queue
  like-queue = λ i. (h i).queue

  abbrev pub like-log : bare_log s.log ≡ bare_log t.log
  like-log = λ i. (h i).log

  abbrev pub like-rows : map bare_row s.log.rows ≡ map bare_row t.log.rows
  like-rows = λ i. (h i).log.rows

-- ── Start ───────────────────────────────────────────────────────────────────

pub like-open : (s t : State) → Like s t → Like (open_cycle s) (open_cycle t)
unfolding units writing
like-open s t h = λ i.
    state (h i).machine (same-mapped s.units t.units (like-units s t h) clear_hazard (λ u. refl) i)
    (same-queued s.queue t.queue (like-queue s t h) (with_hazard None) (λ o. refl) i) (h i).names (h i).producer (h i).marks
    (h i).offer (open_cycle (h i)).front (open_cycle (h i)).log

like-found : (x y : Tried) (s t : State) → x ≡ y → Like s t → Like (offer_found x s) (offer_found y t)
unfolding writing engine
like-found x y s t p h = λ i.
    state (h i).machine (units' i) (h i).queue (h i).names (h i).producer (h i).marks (offer_of (p i).found false) (h i).front (log' i)
  where
    units' : map (bare_unit hide) (take_out x.found (mark_blocked x.turned_away s.units)) ≡ map (bare_unit hide) (take_out y.found (mark_blocked y.turned_away t.units))
    units' =
        same-taken-out x.found (mark_blocked x.turned_away s.units) (mark_blocked x.turned_away t.units)
        (same-marked x.turned_away s.units t.units (like-units s t h))
        ∙ ap (λ (z : Tried). map (bare_unit hide) (take_out z.found (mark_blocked z.turned_away t.units))) p

    traces : map bare_trace (map (blocked_trace s.units s.names) x.turned_away) ≡ map bare_trace (map (blocked_trace t.units t.names) y.turned_away)
    traces =
        map-swap (blocked_trace s.units s.names) (blocked_trace t.units t.names) bare_trace bare_trace (λ b. refl) x.turned_away
        ∙ ap (λ (z : Tried). map bare_trace (map (blocked_trace t.units t.names) z.turned_away)) p

    log' : bare_log (stall_all (map (blocked_trace s.units s.names) x.turned_away) s.log) ≡ bare_log (stall_all (map (blocked_trace t.units t.names) y.turned_away) t.log)
    log' =
        same-stalled (map (blocked_trace s.units s.names) x.turned_away) (map (blocked_trace t.units t.names) y.turned_away)
        s.log t.log traces (like-log s t h)

pub like-start : (s t : State) → Like s t → Like (start_cycle s) (start_cycle t)
unfolding writing
like-start s t h =
    like-found (writable_unit (open_cycle s).units) (writable_unit (open_cycle t).units) (open_cycle s) (open_cycle t)
    (same-writable (open_cycle s).units (open_cycle t).units (λ i. (like-open s t h i).units)) (like-open s t h)

-- ── Between start and advance ───────────────────────────────────────────────

-- The operation on offer.
pub bare-offered : (s : State) → offered_op (bare hide s) ≡ option_map (bare_op hide) (offered_op s)
unfolding writing
bare-offered s = go s.offer.writing
  where
    go
        : (x : Option ℕ)
        → option_map (λ (i : ℕ). (unit_at (map (bare_unit hide) s.units) i).op) x ≡ option_map (bare_op hide) (option_map (λ (i : ℕ). (unit_at s.units i).op) x)
    go None = refl
    go (Some i) = ap (λ (u : FunctionalUnit). Some u.op) (bare-at s.units i)

bare-branch : (s : State) → offered_branch (bare hide s) ≡ offered_branch s
unfolding writing
bare-branch s = ap (λ (x : Option Op). when_some x false (λ (o : Op). o.core.decoded.branch)) (bare-offered s) ∙ go (offered_op s)
  where
    go
        : (x : Option Op)
        → when_some (option_map (bare_op hide) x) false (λ (o : Op). o.core.decoded.branch) ≡ when_some x false (λ (o : Op). o.core.decoded.branch)
    go None = refl
    go (Some o) = refl

like-branch : (s t : State) → Like s t → offered_branch s ≡ offered_branch t
like-branch s t h = sym (bare-branch s) ∙ ap offered_branch h ∙ bare-branch t

pub like-retire : (s t : State) → Like s t → Like (retire s) (retire t)
unfolding writing
like-retire s t h = λ i.
    state (h i).machine (h i).units (h i).queue (h i).names (h i).producer (h i).marks (offer_of (h i).offer.writing true) (h i).front
    (log_of
    (stats_of (h i).log.stats.cycles (saturating_add (h i).log.stats.committed 1) (h i).log.stats.stalls (h i).log.stats.raw_stalls
    (h i).log.stats.load_use_stalls (h i).log.stats.branch_stalls (h i).log.stats.functional_unit_stalls
    (h i).log.stats.memory_stalls (h i).log.stats.waw_stalls (h i).log.stats.war_stalls (h i).log.stats.flushes
    (up (like-branch s t h i) (h i).log.stats.branches))
    (h i).log.traces (h i).log.rows None)

pub like-retry : (m n : Text) (s t : State) → Like s t → Like (retry m s) (retry n t)
unfolding writing
like-retry m n s t h = λ i.
    state (h i).machine (units' i) (h i).queue (h i).names (h i).producer (h i).marks (offer_of None false) (h i).front (h i).log
  where
    units' : map (bare_unit hide) (put_back s.offer.writing s.units) ≡ map (bare_unit hide) (put_back t.offer.writing t.units)
    units' =
        same-put-back s.offer.writing s.units t.units (like-units s t h)
        ∙ ap (λ (w : Option ℕ). map (bare_unit hide) (put_back w t.units)) (λ i. (h i).offer.writing)

pub like-stopped : (a b : Bool) (m n : Text) (s t : State) → Like s t → Like (stopped a b m s) (stopped a b n t)
unfolding units writing
like-stopped a b m n s t h = λ i.
    state (h i).machine (same-mapped s.units t.units (like-units s t h) clear (λ u. refl) i) [] (h i).names
    (map (λ (p : Option ℕ). None) (h i).producer) (marks false false) (offer_of None false) (stopped a b m (h i)).front (h i).log

-- ── Advance, up to the issue ────────────────────────────────────────────────

like-complete_at : (n : ℕ) (s t : State) → Like s t → Like (complete_at n s) (complete_at n t)
unfolding units issuing registers
like-complete_at n s t h = λ i.
    state (h i).machine (units' i) (h i).queue (h i).names (release_all n (h i).producer (at i).destinations)
    (marks (not (at i).redirects && (h i).marks.branch) (not (is_system (at i).class) && (h i).marks.system))
    (offer_of None false) (h i).front (h i).log
  where
    at : bare_unit hide (unit_at s.units n) ≡ bare_unit hide (unit_at t.units n)
    at = same_at s.units t.units (like-units s t h) n

    units' : map (bare_unit hide) (map (without_waits n) (modify n clear s.units)) ≡ map (bare_unit hide) (map (without_waits n) (modify n clear t.units))
    units' =
        same-mapped (modify n clear s.units) (modify n clear t.units)
        (same-modified s.units t.units (like-units s t h) n clear clear clear (λ u. refl) (λ u. refl)) (without_waits n) (λ u. refl)

like-complete : (w v : Option ℕ) (s t : State) → w ≡ v → Like s t → Like (complete_offer w s) (complete_offer v t)
unfolding issuing
like-complete w v s t p h = go w ∙ ap (λ (x : Option ℕ). bare hide (complete_offer x t)) p
  where
    go : (x : Option ℕ) → Like (complete_offer x s) (complete_offer x t)
    go None = h
    go (Some n) = like-complete_at n s t h

pub like-closed : (s t : State) → Like s t → Like (closed s) (closed t)
unfolding scoreboard issuing
like-closed s t h = λ i. close_cycle (like-complete s.offer.writing t.offer.writing s t (λ j. (h j).offer.writing) h i)

like-flush : (n : ℕ) (s t : State) → Like s t → Like (flush n s) (flush n t)
unfolding issuing timeline
like-flush n s t h = λ i.
    state (h i).machine (h i).units [] (h i).names (h i).producer (h i).marks (h i).offer (flush n (h i)).front
    (log_of
    (stats_of (h i).log.stats.cycles (h i).log.stats.committed (saturating_add (h i).log.stats.stalls (len i)) (h i).log.stats.raw_stalls
    (h i).log.stats.load_use_stalls (saturating_add (h i).log.stats.branch_stalls (len i)) (h i).log.stats.functional_unit_stalls
    (h i).log.stats.memory_stalls (h i).log.stats.waw_stalls (h i).log.stats.war_stalls (saturating_add (h i).log.stats.flushes 1)
    (h i).log.stats.branches)
    (traces i)
    (same-pushed s.log.rows t.log.rows (like-rows s t h) (map flushed_cell s.queue) (map flushed_cell t.queue)
    (same-queue-cells s.queue t.queue (like-queue s t h) flushed_cell (λ o. refl)) i)
    None)
  where
    len : length s.queue ≡ length t.queue
    len = same_length s.queue t.queue (like-queue s t h)

    one_more : Trace
    one_more = trace_of BranchFlush 4 0 (redirect_to n)

    traces : map bare_trace (s.log.traces ++ (trace_of BranchFlush 4 0 (redirect_to n) ∷ [])) ≡ map bare_trace (t.log.traces ++ (trace_of BranchFlush 4 0 (redirect_to n) ∷ []))
    traces =
        map-append bare_trace s.log.traces (one_more ∷ []) ∙ ap (λ (l : List Trace). l ++ (bare_trace one_more ∷ [])) (λ i. (h i).log.traces)
        ∙ sym (map-append bare_trace t.log.traces (one_more ∷ []))

like-redirected : (r : Option ℕ) (s t : State) → Like s t → Like (redirected r s) (redirected r t)
unfolding issuing
like-redirected None s t h = h
like-redirected (Some n) s t h = like-flush n s t h

like-tick : (s t : State) → Like s t → Like (tick_execute s) (tick_execute t)
unfolding units issuing
like-tick s t h = λ i. with_units (same-mapped s.units t.units (like-units s t h) tick (λ u. refl) i) (h i)

like-begin : (s t : State) → Like s t → Like (start_ready s) (start_ready t)
unfolding units issuing
like-begin s t h = λ i. with_units (same-mapped s.units t.units (like-units s t h) begin (λ u. refl) i) (h i)

like-read : (s t : State) → Like s t → Like (read_operands s) (read_operands t)
unfolding units issuing engine
like-read s t h = λ i.
    with_log
    (same-stalled (map (wait_trace s.units s.names) (keep waits s.units)) (map (wait_trace t.units t.names) (keep waits t.units))
    s.log t.log (same-waits s.units t.units (like-units s t h) s.names t.names) (like-log s t h) i)
    (with_units (same-mapped s.units t.units (like-units s t h) read_one (λ u. refl) i) (h i))

pub like-before : (r : Option ℕ) (s t : State) → Like s t → Like (before_issue r s) (before_issue r t)
unfolding scoreboard issuing
like-before r s t h =
    like-read (start_ready (tick_execute (redirected r (clear_status s)))) (start_ready (tick_execute (redirected r (clear_status t))))
    (like-begin (tick_execute (redirected r (clear_status s))) (tick_execute (redirected r (clear_status t)))
    (like-tick (redirected r (clear_status s)) (redirected r (clear_status t)) (like-redirected r (clear_status s) (clear_status t) h)))

-- ── Issue ───────────────────────────────────────────────────────────────────

pub like-block : (k : PipelineHazardKind) (d e : Detail) (s t : State) → Like s t → Like (block_issue k d s) (block_issue k e t)
unfolding issuing engine
like-block k d e s t h = λ i.
    state (h i).machine (h i).units (same-front s.queue t.queue (like-queue s t h) (with_hazard (Some k)) (λ o. refl) i) (h i).names
    (h i).producer (h i).marks (h i).offer (h i).front
    (same-stalled (trace_of k 1 0 d ∷ []) (trace_of k 1 0 e ∷ []) s.log t.log refl (like-log s t h) i)

pad-bare : (ps : List (Option ℕ)) (ns : List Text) → pad ps (map blank ns) ≡ pad ps ns
unfolding registers
pad-bare ps [] = refl
pad-bare [] (n ∷ ns) = ap (λ (l : List (Option ℕ)). None ∷ l) (pad-bare [] ns)
pad-bare (p ∷ ps) (n ∷ ns) = ap (λ (l : List (Option ℕ)). p ∷ l) (pad-bare ps ns)

like-learn : (ms ns : List Text) (s t : State) → map blank ms ≡ map blank ns → Like s t → Like (learn ms s) (learn ns t)
unfolding issuing registers
like-learn ms ns s t p h = λ i.
    state (h i).machine (h i).units (h i).queue (p i) (pads i) (h i).marks (h i).offer (h i).front (h i).log
  where
    pads : pad s.producer ms ≡ pad t.producer ns
    pads = sym (pad-bare s.producer ms) ∙ ap₂ pad (λ i. (h i).producer) p ∙ pad-bare t.producer ns

like-place
    : (o p : Op) (rest rest' : List Op) (r w : List ℕ) (n : ℕ) (s t : State) → bare_op hide o ≡ bare_op hide p → map (bare_op hide) rest ≡ map (bare_op hide) rest' → Like s t
    → Like (place o rest r w n s) (place p rest' r w n t)
unfolding units issuing registers
like-place o p rest rest' r w n s t e f h = λ i.
    state (h i).machine (units' i) (f i) (h i).names (claim_all n (h i).producer w)
    (marks ((e i).core.decoded.branch || (h i).marks.branch) (is_system (e i).core.decoded.class || (h i).marks.system)) (h i).offer
    (h i).front (h i).log
  where
    units' : map (bare_unit hide) (modify n (occupy o r w (waits_on s.producer r)) s.units) ≡ map (bare_unit hide) (modify n (occupy p r w (waits_on t.producer r)) t.units)
    units' =
        same-modified s.units t.units (like-units s t h) n (occupy o r w (waits_on s.producer r)) (occupy p r w (waits_on t.producer r))
        (occupy (bare_op hide o) r w (waits_on s.producer r)) (λ u. refl)
        (λ u. ap₂ (λ (x : Op) (ps : List (Option ℕ)). occupy x r w (waits_on ps r) (bare_unit hide u)) (sym e) (λ i. (sym h i).producer))

like-issue-to
    : (o p : Op) (rest rest' : List Op) (r w : List ℕ) (tk fr : Option ℕ) (s t : State) → bare_op hide o ≡ bare_op hide p → map (bare_op hide) rest ≡ map (bare_op hide) rest'
    → Like s t → Like (issue_to o rest r w tk fr s) (issue_to p rest' r w tk fr t)
unfolding issuing
like-issue-to o p rest rest' r w (Some x) fr s t e f h = like-block WriteAfterWrite _ _ s t h
like-issue-to o p rest rest' r w None None s t e f h = like-block FunctionalUnitBusy _ _ s t h
like-issue-to o p rest rest' r w None (Some n) s t e f h = like-place o p rest rest' r w n s t e f h

pub like-looked
    : (o p : Op) (rest rest' : List Op) (x y : Operands) (s t : State) → bare_op hide o ≡ bare_op hide p → map (bare_op hide) rest ≡ map (bare_op hide) rest'
    → x.read ≡ y.read → x.written ≡ y.written → map blank x.names ≡ map blank y.names → Like s t
    → Like (issue_looked o rest x s) (issue_looked p rest' y t)
unfolding issuing
like-looked o p rest rest' x y s t e f a b c h =
    like-issue-to o p rest rest' x.read x.written (taken (learn x.names s).producer x.written)
    (free_unit s.machine.specs s.units o.core.decoded.class) (learn x.names s) (learn y.names t) e f learned
    ∙ (λ i.
    bare hide
    (issue_to p rest' (a i) (b i) (taken (learned i).producer (b i)) (frees i) (learn y.names t)))
  where
    learned : Like (learn x.names s) (learn y.names t)
    learned = like-learn x.names y.names s t c h

    frees : free_unit s.machine.specs s.units o.core.decoded.class ≡ free_unit t.machine.specs t.units p.core.decoded.class
    frees =
        same-free s.units t.units (like-units s t h) s.machine.specs o.core.decoded.class
        ∙ ap₂ (λ (ks : List UnitSpec) (k : PipelineInstructionClass). free_unit ks t.units k) (λ i. (h i).machine.specs) (λ i. (e i).core.decoded.class)

-- ── After the issue, and the other calls ────────────────────────────────────

like-cells : (s t : State) → Like s t → timeline_cells s ≡ timeline_cells t
unfolding issuing
like-cells s t h =
    ap₂ ◌++◌ (same-queue-cells s.queue t.queue (like-queue s t h) queue_cell (λ o. refl))
    (same-cells s.units t.units (like-units s t h))

like-timeline : (s t : State) → Like s t → Like (record_timeline s) (record_timeline t)
unfolding issuing timeline
like-timeline s t h = λ i.
    with_log
    (log_of (h i).log.stats (h i).log.traces
    (same-pushed s.log.rows t.log.rows (like-rows s t h) (timeline_cells s) (timeline_cells t) (like-cells s t h) i) None)
    (h i)

-- The bytes of the cell memory that are set.
pub like-timeline_writes : (s t : State) → Like s t → timeline_writes s ≡ timeline_writes t
unfolding issuing timeline
like-timeline_writes s t h =
    same-written s.log.rows t.log.rows (like-rows s t h) s.machine.history t.machine.history (timeline_cells s)
    (timeline_cells t) (λ i. (h i).machine.history) (like-cells s t h)

pub like-redirect_writes : (r : Option ℕ) (s t : State) → Like s t → redirect_writes r s ≡ redirect_writes r t
unfolding issuing
like-redirect_writes None s t h = refl
like-redirect_writes (Some n) s t h =
    same-written s.log.rows t.log.rows (like-rows s t h) s.machine.history t.machine.history (map flushed_cell s.queue)
    (map flushed_cell t.queue) (λ i. (h i).machine.history)
    (same-queue-cells s.queue t.queue (like-queue s t h) flushed_cell (λ o. refl))

like-may : (s t : State) → Like s t → may_fetch s ≡ may_fetch t
unfolding scoreboard
like-may s t h = λ i.
    ltb (same_length s.queue t.queue (like-queue s t h) i) (h i).machine.depth
    && ((h i).front.enabled
    || (same-empty s.queue t.queue (like-queue s t h) i && not (same-busy s.units t.units (like-units s t h) i)))

like-invite : (s t : State) → Like s t → Like (invite s) (invite t)
unfolding scoreboard
like-invite s t h = λ i.
    with_front
    (front_of (h i).front.enabled (h i).front.halted (h i).front.faulted (h i).front.in_cycle (like-may s t h i) (h i).front.fetch_pc
    (h i).front.next_row (h i).front.next_seq)
    (h i)

pub like-after_issue : (s t : State) → Like s t → Like (after_issue s) (after_issue t)
unfolding scoreboard
like-after_issue s t h = like-invite (record_timeline s) (record_timeline t) (like-timeline s t h)

-- The same numbers decoded, and as many names.
pub like-fetched
    : (d : Decoded) (x y : Info) (s t : State) → map blank x.sources ≡ map blank y.sources → map blank x.writes ≡ map blank y.writes
    → Like s t → Like (fetched (given d x) s) (fetched (given d y) t)
unfolding scoreboard timeline
like-fetched d x y s t e f h = λ i.
    state (h i).machine (h i).units (queue' i) (h i).names (h i).producer (h i).marks (h i).offer
    (fetched (given d (bare_info blank x)) (h i)).front (log_of (h i).log.stats (h i).log.traces (rows' i) None)
  where
    g : Given
    g = given d x

    k : Given
    k = given d y

    queue' : map (bare_op hide) (s.queue ++ (fetched_op g s ∷ [])) ≡ map (bare_op hide) (t.queue ++ (fetched_op k t ∷ []))
    queue' =
        map-append (bare_op hide) s.queue (fetched_op g s ∷ [])
        ∙ (λ i. (h i).queue ++ (fetched_op (given d (info_of [] None None (e i) (f i) 0)) (h i) ∷ []))
        ∙ sym (map-append (bare_op hide) t.queue (fetched_op k t ∷ []))

    opened : State → Info → Row
    opened u z =
        row_of u.front.next_row d.address z.disassembly d.class u.log.stats.cycles d.atomic 0 1

    rows' : map bare_row (fetched g s).log.rows ≡ map bare_row (fetched k t).log.rows
    rows' =
        same-opened s.log.rows t.log.rows (like-rows s t h) s.machine.history (opened s x) (opened t y)
        (λ i. bare_row (opened (h i) x))
        ∙ (λ i. map bare_row (open_row (h i).machine.history (opened t y) t.log.rows))

pub like-capacity : (k n : ℕ) (s t : State) → Like s t → Like (set_capacity k n s) (set_capacity k n t)
unfolding scoreboard
like-capacity k n s t h = λ i.
    state (with_specs (modify k (with_capacity n) (h i).machine.specs) (h i).machine) (units' i) (h i).queue (h i).names (h i).producer
    (h i).marks (h i).offer (h i).front (h i).log
  where
    go
        : (b : Bool) (ks : List UnitSpec) → map (bare_unit hide) (rebuilt b ks s.units) ≡ map (bare_unit hide) (rebuilt b ks t.units)
    go true ks = like-units s t h
    go false ks = refl

    units'
        : map (bare_unit hide) (rebuilt (list_any is_busy s.units) (modify k (with_capacity n) s.machine.specs) s.units)
        ≡ map (bare_unit hide) (rebuilt (list_any is_busy t.units) (modify k (with_capacity n) t.machine.specs) t.units)
    units' =
        go (list_any is_busy s.units) (modify k (with_capacity n) s.machine.specs)
        ∙ (λ i. map (bare_unit hide) (rebuilt (same-busy s.units t.units (like-units s t h) i) (modify k (with_capacity n) (h i).machine.specs) t.units))

pub like-enabled : (b : Bool) (s t : State) → Like s t → Like (set_enabled b s) (set_enabled b t)
unfolding scoreboard
like-enabled b s t h = λ i. set_enabled b (h i)
