-- How many operations are in flight, the flags, the rows, and the counters of cycles and of retired operations, after each step of a cycle.
use Prim.Native.Nat.{ℕ, suc, ◌+◌}
use native.Mathlib.Omega.{arith}
use mathlib.Core.Path.{◌≡◌, refl, ◌∙◌, ap}
use mathlib.Core.Bool.{Bool, true, false, cond}
use Rattle.std.specs.Prelude.{Option, None, Some, slice_get}
use mathlib.Core.List.{List, [], ◌∷◌, map}
use lib.ListN.{length}
use Rattle.laws.specs.Lists.{modify}
use Rattle.laws.specs.Texts.{Text}
use Rattle.capability.specs.declared.PipelineHazardKind.{PipelineHazardKind}
use Rattle.capability.specs.declared.PipelineHazardKind.TheVariants.{BranchFlush, FunctionalUnitBusy, WriteAfterWrite}
use Rattle.model.specs.Op.{Op, with_hazard}
use Rattle.model.specs.Registers.{resolve}
use Rattle.model.specs.State.{Log, Stats, State, count_stalls, count_stall, engine, stall_all}
use Rattle.model.specs.Traces.{Detail}
use Rattle.model.specs.Units.{FunctionalUnit, begin, clear, clear_hazard, mark_hazard, occupy, read_one, tick, units, with_busy, without_waits}
use Rattle.model.specs.Write.{Blocked, blocked_kind, mark_blocked, writing}
use Rattle.model.specs.Issue.{block_issue, free_unit, issue, issue_choose, issue_front, issue_to, issuing, learn, taken, waits_on}
use Rattle.model.specs.Scoreboard.{before_issue, scoreboard}
use Rattle.invariant.proofs.Issued.{free-found}
use Rattle.invariant.proofs.Lists.{length-modify}
use Rattle.ending.proofs.Totals.{total, total-map-same, total-modify-at, total-modify-same}

-- ── Operations in flight ────────────────────────────────────────────────────

unfoldable pub one-busy : FunctionalUnit → ℕ
one-busy u = cond u.busy 1 0

unfoldable pub in_flight-count : State → ℕ
in_flight-count s = length s.queue + total one-busy s.units

pub count-cleared : (us : List FunctionalUnit) → total one-busy (map clear_hazard us) ≡ total one-busy us
unfolding units one-busy
count-cleared us = total-map-same one-busy clear_hazard (λ u. refl) us

pub count-marked : (bs : List (ℕ × Blocked)) (us : List FunctionalUnit) → total one-busy (mark_blocked bs us) ≡ total one-busy us
unfolding units one-busy writing
count-marked [] us = refl
count-marked (b ∷ bs) us =
    count-marked bs (modify b.0 (mark_hazard (blocked_kind b.1)) us)
    ∙ total-modify-same one-busy (mark_hazard (blocked_kind b.1)) (λ u. refl) b.0 us

pub count-out
    : (us : List FunctionalUnit) (i : ℕ) (u : FunctionalUnit) → slice_get us i ≡ Some u → u.busy ≡ true
    → suc (total one-busy (modify i (with_busy false) us)) ≡ total one-busy us
unfolding one-busy
count-out us i u e b =
    let x : one-busy u ≡ 1 = ap (λ (t : Bool). cond t 1 0) b in
    omega (arith, x, total-modify-at one-busy (with_busy false) i us u e)

-- The unit of an offer is not busy, nor is it when it is cleared.
pub count-completed
    : (us : List FunctionalUnit) (i : ℕ) (u : FunctionalUnit) → slice_get us i ≡ Some u → u.busy ≡ false
    → total one-busy (map (without_waits i) (modify i clear us)) ≡ total one-busy us
unfolding units one-busy
count-completed us i u e b =
    let x : one-busy u ≡ 0 = ap (λ (t : Bool). cond t 1 0) b in
    omega (
      arith,
      x,
      total-map-same one-busy (without_waits i) (λ u. refl) (modify i clear us),
      total-modify-at one-busy clear i us u e,
    )

pub count-before : (s : State) → in_flight-count (before_issue None s) ≡ in_flight-count s
unfolding scoreboard issuing units one-busy in_flight-count
count-before s =
    omega (
      arith,
      total-map-same one-busy read_one (λ u. refl) (map begin (map tick s.units)),
      total-map-same one-busy begin (λ u. refl) (map tick s.units),
      total-map-same one-busy tick (λ u. refl) s.units,
    )

count-blocked : (x : PipelineHazardKind) (d : Detail) (s : State) → in_flight-count (block_issue x d s) ≡ in_flight-count s
unfolding issuing in_flight-count
count-blocked x d s = omega (arith, length-modify (with_hazard (Some x)) 0 s.queue)

count-placed
    : (o : Op) (rest : List Op) (r w : List ℕ) (i : ℕ) (s : State) → s.queue ≡ o ∷ rest
    → free_unit s.machine.specs s.units o.core.decoded.class ≡ Some i
    → in_flight-count (issue_to o rest r w None (Some i) s) ≡ in_flight-count s
unfolding issuing units one-busy in_flight-count
count-placed o rest r w i s q e =
    let v = free-found s.machine.specs s.units o.core.decoded.class i e in
    let x : one-busy v.0 ≡ 0 = ap (λ (t : Bool). cond t 1 0) v.2 in
    let l : length s.queue ≡ suc (length rest) = ap length q in
    omega (arith, l, x, total-modify-at one-busy (occupy o r w (waits_on s.producer r)) i s.units v.0 v.1)

count-learned : (ns : List Text) (s : State) → in_flight-count (learn ns s) ≡ in_flight-count s
unfolding issuing in_flight-count
count-learned ns s = refl

count-to
    : (o : Op) (rest : List Op) (r w : List ℕ) (t f : Option ℕ) (s : State) → s.queue ≡ o ∷ rest
    → free_unit s.machine.specs s.units o.core.decoded.class ≡ f
    → in_flight-count (issue_to o rest r w t f s) ≡ in_flight-count s
unfolding issuing
count-to o rest r w (Some x) f s q e = count-blocked WriteAfterWrite _ s
count-to o rest r w None None s q e = count-blocked FunctionalUnitBusy _ s
count-to o rest r w None (Some i) s q e = count-placed o rest r w i s q e

count-choose
    : (b y : Bool) (o : Op) (rest : List Op) (s : State) → s.queue ≡ o ∷ rest
    → in_flight-count (issue_choose b y o rest s) ≡ in_flight-count s
unfolding issuing
count-choose true y o rest s q = count-blocked BranchFlush _ s
count-choose false true o rest s q = count-blocked FunctionalUnitBusy _ s
count-choose false false o rest s q =
    let x = resolve s.names o.info in
    count-to o rest x.read x.written (taken (learn x.names s).producer x.written)
    (free_unit s.machine.specs s.units o.core.decoded.class) (learn x.names s) q refl
    ∙ count-learned x.names s

pub count-issue : (s : State) → in_flight-count (issue s) ≡ in_flight-count s
unfolding issuing
count-issue s = go s.queue refl
  where
    go : (q : List Op) → s.queue ≡ q → in_flight-count (issue_front q s) ≡ in_flight-count s
    go [] e = refl
    go (o ∷ rest) e = count-choose s.marks.branch s.marks.system o rest s e

-- ── Flags, rows and counters ────────────────────────────────────────────────

-- The two counters are as they were.
pub record SameCounters (a b : Stats) : Type 0 where
  pub cycles : b.cycles ≡ a.cycles
  pub committed : b.committed ≡ a.committed

pub counters-stalled : (hs : List PipelineHazardKind) (a : Stats) → SameCounters a (count_stalls hs a)
unfolding engine
counters-stalled [] a = record { cycles = refl; committed = refl }
counters-stalled (h ∷ hs) a = let x = counters-stalled hs (count_stall h a) in record { cycles = x.cycles; committed = x.committed }

-- The flags, the rows and the two counters are as they were.
pub record Aside (s t : State) : Type 0 where
  pub front : t.front ≡ s.front
  pub rows : t.log.rows ≡ s.log.rows
  pub counters : SameCounters s.log.stats t.log.stats

pub aside-before : (s : State) → Aside s (before_issue None s)
unfolding scoreboard issuing stall_all
aside-before s = record { front = refl; rows = refl; counters = counters-stalled _ s.log.stats }

aside-blocked : (x : PipelineHazardKind) (d : Detail) (s : State) → Aside s (block_issue x d s)
unfolding issuing stall_all
aside-blocked x d s = record { front = refl; rows = refl; counters = counters-stalled (x ∷ []) s.log.stats }

aside_same : (s t : State) → t.front ≡ s.front → t.log ≡ s.log → Aside s t
aside_same s t f l =
    record {
      front = f;
      rows = ap (λ (a : Log). a.rows) l;
      counters = record { cycles = ap (λ (a : Log). a.stats.cycles) l; committed = ap (λ (a : Log). a.stats.committed) l };
    }

aside-to : (o : Op) (rest : List Op) (r w : List ℕ) (t f : Option ℕ) (s : State) → Aside s (issue_to o rest r w t f s)
unfolding issuing
aside-to o rest r w (Some x) f s = aside-blocked WriteAfterWrite _ s
aside-to o rest r w None None s = aside-blocked FunctionalUnitBusy _ s
aside-to o rest r w None (Some i) s = aside_same s (issue_to o rest r w None (Some i) s) refl refl

aside-choose : (b y : Bool) (o : Op) (rest : List Op) (s : State) → Aside s (issue_choose b y o rest s)
unfolding issuing
aside-choose true y o rest s = aside-blocked BranchFlush _ s
aside-choose false true o rest s = aside-blocked FunctionalUnitBusy _ s
aside-choose false false o rest s =
    let x = resolve s.names o.info in
    let a =
    aside-to o rest x.read x.written (taken (learn x.names s).producer x.written)
    (free_unit s.machine.specs s.units o.core.decoded.class) (learn x.names s) in
    record { front = a.front; rows = a.rows; counters = a.counters }

pub aside-issue : (s : State) → Aside s (issue s)
unfolding issuing
aside-issue s = go s.queue
  where
    go : (q : List Op) → Aside s (issue_front q s)
    go [] = aside_same s s refl refl
    go (o ∷ rest) = aside-choose s.marks.branch s.marks.system o rest s
