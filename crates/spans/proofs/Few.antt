-- In `forecast` an operation in flight needs at most 24 cycles, and one in a unit at most 23.
use Prim.Native.Nat.{ℕ, ◌+◌, ◌*◌, ◌≤◌}
use native.Mathlib.Omega.{arith}
use mathlib.Core.Path.{◌≡◌, refl, sym, ap, subst}
use mathlib.Core.Bool.{Bool, true, false, cond}
use Rattle.std.specs.Prelude.{Option, None, Some}
use mathlib.Core.List.{List, [], ◌∷◌, map}
use lib.ListN.{length}
use Rattle.laws.specs.Lists.{All, modify}
use Rattle.capability.specs.declared.PipelineHazardKind.{PipelineHazardKind}
use Rattle.capability.specs.declared.PipelineHazardKind.TheVariants.{BranchFlush, FunctionalUnitBusy, WriteAfterWrite}
use Rattle.model.specs.Config.{Machine, default_timing, latency, machine_of}
use Rattle.model.specs.Op.{Given, Op, with_hazard}
use Rattle.model.specs.Registers.{resolve}
use Rattle.model.specs.State.{State}
use Rattle.model.specs.Traces.{Detail}
use Rattle.model.specs.Units.{FunctionalUnit, clear, clear_hazard, mark_hazard, occupy, units, with_busy, without_waits}
use Rattle.model.specs.Write.{Blocked, blocked_kind, mark_blocked, start_cycle, take_out, writable_unit, writing}
use Rattle.model.specs.Issue.{block_issue, complete_offer, free_unit, issue, issue_choose, issue_front, issue_to, issuing, learn, taken, waits_on}
use Rattle.model.specs.Scoreboard.{after_issue, before_issue, close_cycle, closed, fetched, fetched_op, scoreboard, stops}
use Rattle.model.specs.Forecast.{forecast_shape}
use Rattle.runs.proofs.Tracks.{all_append, all_map, all-modify}
use Rattle.invariant.specs.Invariant.{Invariant}
use Rattle.ending.proofs.Work.{map-three, op-work, phase-work, three, unit-work, work-three}
use Rattle.ending.proofs.Share.{op-share, share, unit-share}
use Rattle.ending.proofs.Cycle.{cycled, settled, settled_same}
use Rattle.ending.proofs.Cycled.{cycled-is}
use Rattle.ending.proofs.Turn.{latency-most}
use Rattle.spans.proofs.Sums.{total-few}

abbrev QueuedFew : Op → Type 0
QueuedFew o = op-work o ≤ 24

abbrev PlacedFew : FunctionalUnit → Type 0
PlacedFew u = unit-work u ≤ 23

pub record Few (s : State) : Type 0 where
  pub queued : All QueuedFew s.queue
  pub placed : All PlacedFew s.units

-- ── A cycle ─────────────────────────────────────────────────────────────────

few-marked : (bs : List (ℕ × Blocked)) (us : List FunctionalUnit) → All PlacedFew us → All PlacedFew (mark_blocked bs us)
unfolding writing units unit-work
few-marked [] us h = h
few-marked (b ∷ bs) us h =
    few-marked bs (modify b.0 (mark_hazard (blocked_kind b.1)) us)
    (all-modify PlacedFew b.0 (mark_hazard (blocked_kind b.1)) (λ u x. x) us h)

few-out : (f : Option ℕ) (us : List FunctionalUnit) → All PlacedFew us → All PlacedFew (take_out f us)
unfolding writing unit-work
few-out None us h = h
few-out (Some i) us h = all-modify PlacedFew i (with_busy false) (λ u x. omega arith) us h

few-start : (s : State) → Few s → Few (start_cycle s)
unfolding writing units op-work unit-work
few-start s h =
    let us = map clear_hazard s.units in
    record {
      queued = all_map QueuedFew QueuedFew (with_hazard None) (λ o x. x) s.queue h.queued;
      placed =
          few-out (writable_unit us).found (mark_blocked (writable_unit us).turned_away us)
          (few-marked (writable_unit us).turned_away us (all_map PlacedFew PlacedFew clear_hazard (λ u x. x) s.units h.placed));
    }

few-settled : (w : Option ℕ) (t : State) → Few t → Few (settled w t)
few-settled w t h =
    let a = settled_same w t in
    record { queued = subst (All QueuedFew) (sym a.queue) h.queued; placed = subst (All PlacedFew) (sym a.units) h.placed }

few-closed : (s : State) → Few s → Few (closed s)
unfolding scoreboard issuing units unit-work
few-closed s h = go s.offer.writing
  where
    go : (w : Option ℕ) → Few (close_cycle (complete_offer w s))
    go None = record { queued = h.queued; placed = h.placed }
    go (Some i) =
        record {
          queued = h.queued;
          placed =
              all_map PlacedFew PlacedFew (without_waits i) (λ u x. x) (modify i clear s.units)
              (all-modify PlacedFew i clear (λ u x. omega arith) s.units h.placed);
        }

few-before : (s : State) → Few s → Few (before_issue None s)
unfolding scoreboard issuing
few-before s h =
    record {
      queued = h.queued;
      placed =
          subst (All PlacedFew) (sym (map-three s.units))
          (all_map PlacedFew PlacedFew three (λ u x. omega (arith, x, work-three u)) s.units h.placed);
    }

few-blocked : (x : PipelineHazardKind) (d : Detail) (s : State) → Few s → Few (block_issue x d s)
unfolding issuing op-work
few-blocked x d s h =
    record { queued = all-modify QueuedFew 0 (with_hazard (Some x)) (λ o y. y) s.queue h.queued; placed = h.placed }

few-placed
    : (o : Op) (rest : List Op) (r w : List ℕ) (i : ℕ) (s : State) → s.queue ≡ o ∷ rest → Few s
    → Few (issue_to o rest r w None (Some i) s)
unfolding issuing units op-work unit-work phase-work
few-placed o rest r w i s q h =
    let a : All QueuedFew (o ∷ rest) = subst (All QueuedFew) q h.queued in
    record {
      queued = a.1;
      placed = all-modify PlacedFew i (occupy o r w (waits_on s.producer r)) (λ u x. omega (arith, a.0)) s.units h.placed;
    }

few-to
    : (o : Op) (rest : List Op) (r w : List ℕ) (t f : Option ℕ) (s : State) → s.queue ≡ o ∷ rest → Few s
    → Few (issue_to o rest r w t f s)
unfolding issuing
few-to o rest r w (Some x) f s q h = few-blocked WriteAfterWrite _ s h
few-to o rest r w None None s q h = few-blocked FunctionalUnitBusy _ s h
few-to o rest r w None (Some i) s q h = few-placed o rest r w i s q h

few-choose : (b y : Bool) (o : Op) (rest : List Op) (s : State) → s.queue ≡ o ∷ rest → Few s → Few (issue_choose b y o rest s)
unfolding issuing
few-choose true y o rest s q h = few-blocked BranchFlush _ s h
few-choose false true o rest s q h = few-blocked FunctionalUnitBusy _ s h
few-choose false false o rest s q h =
    let x = resolve s.names o.info in
    few-to o rest x.read x.written (taken (learn x.names s).producer x.written)
    (free_unit s.machine.specs s.units o.core.decoded.class) (learn x.names s) q
    record { queued = h.queued; placed = h.placed }

few-issue : (s : State) → Few s → Few (issue s)
unfolding issuing
few-issue s h = go s.queue refl
  where
    go : (q : List Op) → s.queue ≡ q → Few (issue_front q s)
    go [] e = h
    go (o ∷ rest) e = few-choose s.marks.branch s.marks.system o rest s e h

few-after : (s : State) → Few s → Few (after_issue s)
unfolding scoreboard issuing
few-after s h = record { queued = h.queued; placed = h.placed }

pub few-cycled : (s : State) → Invariant s → s.front.in_cycle ≡ false → stops s ≡ false → Few s → Few (cycled s)
few-cycled s i out running h =
    let t = settled (start_cycle s).offer.writing (start_cycle s) in
    subst Few (sym (cycled-is s i out running))
    (few-after (issue (before_issue None (closed t)))
    (few-issue (before_issue None (closed t))
    (few-before (closed t) (few-closed t (few-settled (start_cycle s).offer.writing (start_cycle s) (few-start s h))))))

-- ── A fetch ─────────────────────────────────────────────────────────────────

pub few-fetched : (g : Given) (s : State) → s.machine ≡ machine_of forecast_shape → Few s → Few (fetched g s)
unfolding scoreboard op-work machine_of forecast_shape
few-fetched g s e h =
    let l : latency s.machine.times g.decoded.class ≡ latency default_timing g.decoded.class
    = ap (λ (m : Machine). latency m.times g.decoded.class) e in
    record {
      queued = all_append QueuedFew s.queue (fetched_op g s ∷ []) h.queued (omega (arith, l, latency-most g.decoded.class), tt);
      placed = h.placed;
    }

-- ── Their sum ───────────────────────────────────────────────────────────────

counted-most : (b : Bool) (n : ℕ) → cond b n 0 ≤ n
counted-most true n = omega arith
counted-most false n = omega arith

pub few-share : (p : ℕ → Bool) (s : State) → Few s → share p s ≤ 24 * length s.queue + 23 * length s.units
unfolding share op-share unit-share
few-share p s h =
    omega (
      arith,
      total-few (op-share p) 24 QueuedFew (λ o l. omega (arith, l, counted-most (p o.core.seq) (op-work o))) s.queue h.queued,
      total-few (unit-share p) 23 PlacedFew (λ u l. omega (arith, l, counted-most (p u.op.core.seq) (unit-work u))) s.units h.placed,
    )
