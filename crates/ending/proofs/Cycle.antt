-- A cycle in which every offer is retired: what stays, and what is counted.
use Prim.Native.Nat.{ℕ, ◌+◌, ◌≤◌, ◌<◌}
use native.Mathlib.Omega.{arith}
use mathlib.Core.Path.{◌≡◌, refl, ◌∙◌, ap}
use mathlib.Core.Bool.{Bool, true, false, cond}
use Rattle.std.specs.Prelude.{Option, None, Some, slice_get}
use mathlib.Core.List.{List, map}
use Rattle.laws.specs.Lists.{modify}
use Rattle.laws.specs.Numbers.{max64}
use Rattle.laws.proofs.Maps.{length-of}
use Rattle.capability.specs.declared.Phase.{Phase}
use Rattle.capability.specs.declared.Phase.TheVariants.{Write}
use Rattle.model.specs.Op.{with_hazard}
use Rattle.model.specs.State.{Front, Log, State, count_cycle, stall_all, with_turn}
use Rattle.model.specs.Units.{FunctionalUnit, clear, clear_hazard, units, without_waits}
use Rattle.model.specs.Write.{mark_blocked, retire, start_cycle, take_out, writable_unit, writing}
use Rattle.model.specs.Issue.{complete_offer, issue, issuing, timeline_cells}
use Rattle.model.specs.Timeline.{push_all}
use Rattle.model.specs.Scoreboard.{advance, after_issue, before_issue, close_cycle, closed, may_fetch, scoreboard, stops}
use Rattle.invariant.specs.Invariant.{OnOffer}
use Rattle.invariant.proofs.Lists.{nth-image}
use Rattle.invariant.proofs.Entries.{marked-same}
use Rattle.invariant.proofs.Start.{found-ready}
use Rattle.invariant.proofs.Steps.{Step, step-retire}
use Rattle.ending.proofs.Totals.{total, total-map-same}
use Rattle.ending.proofs.Work.{op-work}
use Rattle.ending.proofs.Share.{op-share, share, share-cleared, share-marked, share-out, share-out-less, unit-share}
use Rattle.ending.proofs.Counts.{SameCounters, aside-before, aside-issue, count-before, count-cleared, count-completed, count-issue, count-marked, count-out, counters-stalled, in_flight-count, one-busy}

-- ── The cycle ───────────────────────────────────────────────────────────────

-- An offer is retired.
unfoldable pub settled : Option ℕ → State → State
settled None t = t
settled (Some i) t = retire t

unfoldable pub cycled : State → State
cycled s = advance None (settled (start_cycle s).offer.writing (start_cycle s))

-- 1 where there is an offer.
abbrev pub one-if : Option ℕ → ℕ
one-if None = 0
one-if (Some i) = 1

-- ── Start ───────────────────────────────────────────────────────────────────

module _ (s : State) where
  abbrev pub cleared : List FunctionalUnit
  cleared = map clear_hazard s.units

  abbrev pub found : Option ℕ
  found = (writable_unit cleared).found

  abbrev pub marked : List FunctionalUnit
  marked = mark_blocked (writable_unit cleared).turned_away cleared

  -- The unit found is busy and finished, also after the marks.
  pub still-finished
      : (i : ℕ) → found ≡ Some i → (u : FunctionalUnit) × (slice_get marked i ≡ Some u) × (u.busy ≡ true) × (u.phase ≡ Write)
  unfolding units
  still-finished i e =
      let f = (found-ready cleared i e).0 in
      let w =
      nth-image part marked cleared i f.0 (marked-same part (λ x v. refl) (writable_unit cleared).turned_away cleared) f.1 in
      (w.0, w.1, ap (λ (z : Bool × Phase). z.0) w.2 ∙ f.2, ap (λ (z : Bool × Phase). z.1) w.2 ∙ f.3)
    where
      part : FunctionalUnit → Bool × Phase
      part u = (u.busy, u.phase)

  started-share
      : (p : ℕ → Bool) → share p (start_cycle s) ≡ total (op-share p) s.queue + total (unit-share p) (take_out found marked)
  unfolding writing share op-work op-share
  started-share p =
      ap (λ (n : ℕ). n + total (unit-share p) (take_out found marked))
      (total-map-same (op-share p) (with_hazard None) (λ o. refl) s.queue)

  marked-share : (p : ℕ → Bool) → total (unit-share p) marked ≡ total (unit-share p) s.units
  marked-share p = share-marked p (writable_unit cleared).turned_away cleared ∙ share-cleared p s.units

  pub share-started : (p : ℕ → Bool) → share p (start_cycle s) ≤ share p s
  unfolding share writing
  share-started p = omega (arith, started-share p, marked-share p, go found)
    where
      go : (f : Option ℕ) → total (unit-share p) (take_out f marked) ≤ total (unit-share p) marked
      go None = omega arith
      go (Some i) = share-out p marked i

  -- The unit that is offered is one of those counted.
  pub share-started-less
      : (p : ℕ → Bool) (i : ℕ) (u : FunctionalUnit) → found ≡ Some i → slice_get marked i ≡ Some u → u.busy ≡ true → u.phase ≡ Write
      → p u.op.core.seq ≡ true → share p (start_cycle s) < share p s
  unfolding share writing
  share-started-less p i u f e b w t =
      let x = ap (λ (o : Option ℕ). total (unit-share p) (take_out o marked)) f in
      omega (arith, started-share p, marked-share p, x, share-out-less p marked i u e b w t)

  pub count-started : in_flight-count (start_cycle s) + one-if found ≡ in_flight-count s
  unfolding writing in_flight-count
  count-started =
      omega (
        arith,
        length-of (with_hazard None) s.queue,
        go found refl,
        count-marked (writable_unit cleared).turned_away cleared,
        count-cleared s.units,
      )
    where
      go : (f : Option ℕ) → found ≡ f → total one-busy (take_out f marked) + one-if f ≡ total one-busy marked
      go None e = omega arith
      go (Some i) e = let w = still-finished i e in omega (arith, count-out marked i w.0 w.1 w.2)

  pub rows-started : (start_cycle s).log.rows ≡ s.log.rows
  unfolding writing stall_all
  rows-started = refl

  pub counters-started : SameCounters (count_cycle s.log.stats) (start_cycle s).log.stats
  unfolding writing stall_all
  counters-started = counters-stalled _ (count_cycle s.log.stats)

-- ── Retire ──────────────────────────────────────────────────────────────────

-- What a retirement leaves as it was.
pub record Settled (t u : State) : Type 0 where
  pub machine : u.machine ≡ t.machine
  pub units : u.units ≡ t.units
  pub queue : u.queue ≡ t.queue
  pub front : u.front ≡ t.front
  pub writing : u.offer.writing ≡ t.offer.writing
  pub rows : u.log.rows ≡ t.log.rows
  pub cycles : u.log.stats.cycles ≡ t.log.stats.cycles

pub settled_same : (w : Option ℕ) (t : State) → Settled t (settled w t)
unfolding settled writing
settled_same None t = record { machine = refl; units = refl; queue = refl; front = refl; writing = refl; rows = refl; cycles = refl }
settled_same (Some i) t = record { machine = refl; units = refl; queue = refl; front = refl; writing = refl; rows = refl; cycles = refl }

pub settled-committed
    : (w : Option ℕ) (t : State) → t.log.stats.committed + one-if w ≤ max64
    → (settled w t).log.stats.committed ≡ t.log.stats.committed + one-if w
unfolding settled writing
settled-committed None t l = omega arith
settled-committed (Some i) t l = omega arith

step_same : (t : State) → Step t t
step_same t =
    record {
      machine = refl;
      next_seq = refl;
      next_row = refl;
      ids = refl;
      places = refl;
      shorter = omega arith;
      queued = λ x. x;
      distinct = λ x. x;
      names = λ q x. x;
      registers = λ x. x;
      rows = λ x. x;
      counters = λ x. x;
    }

pub settled-step : (w : Option ℕ) (t : State) → Step t (settled w t)
unfolding settled
settled-step None t = step_same t
settled-step (Some i) t = step-retire t

-- ── Completion ──────────────────────────────────────────────────────────────

pub closed-front : (s : State) → (closed s).front ≡ with_turn false false s.front
unfolding scoreboard issuing
closed-front s = go s.offer.writing
  where
    go : (w : Option ℕ) → (close_cycle (complete_offer w s)).front ≡ with_turn false false s.front
    go None = refl
    go (Some i) = refl

pub closed-log : (s : State) → (closed s).log ≡ s.log
unfolding scoreboard issuing
closed-log s = go s.offer.writing
  where
    go : (w : Option ℕ) → (close_cycle (complete_offer w s)).log ≡ s.log
    go None = refl
    go (Some i) = refl

pub closed-queue : (s : State) → (closed s).queue ≡ s.queue
unfolding scoreboard issuing
closed-queue s = go s.offer.writing
  where
    go : (w : Option ℕ) → (close_cycle (complete_offer w s)).queue ≡ s.queue
    go None = refl
    go (Some i) = refl

pub closed-units : (s : State) → s.offer.writing ≡ None → (closed s).units ≡ s.units
unfolding scoreboard issuing
closed-units s e = ap (λ (w : Option ℕ). (close_cycle (complete_offer w s)).units) e

pub closed-units-at : (s : State) (i : ℕ) → s.offer.writing ≡ Some i → (closed s).units ≡ map (without_waits i) (modify i clear s.units)
unfolding scoreboard issuing
closed-units-at s i e = ap (λ (w : Option ℕ). (close_cycle (complete_offer w s)).units) e

count-closed
    : (s : State) → ((i : ℕ) → s.offer.writing ≡ Some i → OnOffer s.units i) → in_flight-count (closed s) ≡ in_flight-count s
unfolding scoreboard issuing in_flight-count
count-closed s h = go s.offer.writing refl
  where
    go : (w : Option ℕ) → s.offer.writing ≡ w → in_flight-count (close_cycle (complete_offer w s)) ≡ in_flight-count s
    go None e = refl
    go (Some i) e = let o = h i e in omega (arith, count-completed s.units i o.0 o.1 o.2)

-- ── Advance ─────────────────────────────────────────────────────────────────

abbrev pub advanced : State → State
advanced t = after_issue (issue (before_issue None (closed t)))

pub advance-runs : (t : State) → stops t ≡ false → advance None t ≡ advanced t
unfolding advance
advance-runs t e = ap (λ (b : Bool). cond b (closed t) (advanced t)) e

pub record Advanced (t u : State) : Type 0 where
  pub enabled : u.front.enabled ≡ t.front.enabled
  pub halted : u.front.halted ≡ t.front.halted
  pub faulted : u.front.faulted ≡ t.front.faulted
  pub outside : u.front.in_cycle ≡ false
  pub invited : u.front.invited ≡ may_fetch u
  -- Each operation in flight has a cell.
  pub rows : u.log.rows ≡ push_all (timeline_cells u) t.log.rows
  pub cycles : u.log.stats.cycles ≡ t.log.stats.cycles
  pub committed : u.log.stats.committed ≡ t.log.stats.committed

pub advanced-facts : (t : State) → Advanced t (advanced t)
unfolding scoreboard issuing
advanced-facts t =
    let b = before_issue None (closed t) in
    let f : (issue b).front ≡ with_turn false false t.front
    = (aside-issue b).front ∙ (aside-before (closed t)).front ∙ closed-front t in
    record {
      enabled = ap (λ (x : Front). x.enabled) f;
      halted = ap (λ (x : Front). x.halted) f;
      faulted = ap (λ (x : Front). x.faulted) f;
      outside = ap (λ (x : Front). x.in_cycle) f;
      invited = refl;
      rows =
          ap (push_all (timeline_cells (issue b)))
          ((aside-issue b).rows ∙ (aside-before (closed t)).rows ∙ ap (λ (l : Log). l.rows) (closed-log t));
      cycles =
          (aside-issue b).counters.cycles ∙ (aside-before (closed t)).counters.cycles ∙ ap (λ (l : Log). l.stats.cycles) (closed-log t);
      committed =
          (aside-issue b).counters.committed ∙ (aside-before (closed t)).counters.committed
          ∙ ap (λ (l : Log). l.stats.committed) (closed-log t);
    }

count-after : (s : State) → in_flight-count (after_issue s) ≡ in_flight-count s
unfolding scoreboard issuing in_flight-count
count-after s = refl

pub share-after : (p : ℕ → Bool) (s : State) → share p (after_issue s) ≡ share p s
unfolding scoreboard issuing share
share-after p s = refl

pub count-advanced
    : (t : State) → ((i : ℕ) → t.offer.writing ≡ Some i → OnOffer t.units i) → in_flight-count (advanced t) ≡ in_flight-count t
count-advanced t h =
    count-after (issue (before_issue None (closed t))) ∙ count-issue (before_issue None (closed t)) ∙ count-before (closed t)
    ∙ count-closed t h
