-- An engine after a cycle in which every offer is retired, in one record; and one that has fetched.
use Prim.Native.Nat.{ℕ, suc, ◌+◌, ◌≤◌, ◌<◌}
use native.Mathlib.Omega.{arith}
use mathlib.Core.Path.{◌≡◌, sym, ◌∙◌, ap, ap₂, subst}
use mathlib.Core.Bool.{Bool, false, ◌||◌}
use Rattle.std.specs.Prelude.{None, Some}
use mathlib.Core.List.{List, map}
use lib.ListN.{length}
use Rattle.laws.specs.Numbers.{max64}
use Rattle.model.specs.Op.{Op}
use Rattle.model.specs.Issue.{timeline_cells}
use Rattle.model.specs.Timeline.{push_all}
use Rattle.model.specs.State.{Front, State}
use Rattle.model.specs.Units.{FunctionalUnit}
use Rattle.model.specs.Write.{start_cycle, writing}
use Rattle.model.specs.Scoreboard.{may_fetch, stops}
use Rattle.invariant.specs.Invariant.{Invariant, OnOffer, unit_place}
use Rattle.invariant.proofs.Start.{flight-start}
use Rattle.invariant.proofs.Steps.{Step, step-advance, step_start}
use Rattle.invariant.proofs.Invariant.{kept_of}
use Rattle.ending.proofs.Totals.{total}
use Rattle.ending.proofs.Share.{share}
use Rattle.ending.proofs.Counts.{in_flight-count, one-busy}
use Rattle.ending.proofs.Cycle.{advance-runs, advanced, advanced-facts, count-advanced, count-started, counters-started, cycled, found, one-if, rows-started, settled, settled-committed, settled_same, settled-step}
use Rattle.ending.proofs.Falls.{Down, share-falls, share_most}

pub record Cycled (s u : State) : Type 0 where
  pub machine : u.machine ≡ s.machine
  pub number : u.front.next_seq ≡ s.front.next_seq
  pub shorter : length u.queue ≤ length s.queue
  pub enabled : u.front.enabled ≡ s.front.enabled
  pub halted : u.front.halted ≡ s.front.halted
  pub faulted : u.front.faulted ≡ s.front.faulted
  pub outside : u.front.in_cycle ≡ false
  pub invited : u.front.invited ≡ may_fetch u
  pub places : map unit_place u.units ≡ map unit_place s.units
  -- Each operation in flight has a cell.
  pub rows : u.log.rows ≡ push_all (timeline_cells u) s.log.rows
  pub cycles : u.log.stats.cycles ≤ suc s.log.stats.cycles
  -- What is retired is no longer in flight.
  pub account
      : s.log.stats.committed + in_flight-count s ≤ max64
      → u.log.stats.committed + in_flight-count u ≡ s.log.stats.committed + in_flight-count s
  -- The work of those counted falls while one of them is in flight.
  pub share_most : (p : ℕ → Bool) → Down p → share p u ≤ share p s
  pub share_less : (p : ℕ → Bool) → Down p → 0 < share p s → share p u < share p s

module _ (s : State) (h : Invariant s) (out : s.front.in_cycle ≡ false) (running : stops s ≡ false) where
  abbrev middle : State
  middle = settled (start_cycle s).offer.writing (start_cycle s)

  started-front : (x : Front) → x ≡ (start_cycle s).front
      → (x.enabled ≡ s.front.enabled) × (x.halted ≡ s.front.halted) × (x.faulted ≡ s.front.faulted)
  unfolding writing
  started-front x e = (ap (λ (f : Front). f.enabled) e, ap (λ (f : Front). f.halted) e, ap (λ (f : Front). f.faulted) e)

  middle-front
      : (middle.front.enabled ≡ s.front.enabled) × (middle.front.halted ≡ s.front.halted)
      × (middle.front.faulted ≡ s.front.faulted)
  middle-front = started-front middle.front (settled_same (start_cycle s).offer.writing (start_cycle s)).front

  pub middle-running : stops middle ≡ false
  unfolding stops
  middle-running = ap₂ ◌||◌ middle-front.1 middle-front.2 ∙ running

  offer-there : (i : ℕ) → middle.offer.writing ≡ Some i → OnOffer middle.units i
  offer-there i e =
      let a = settled_same (start_cycle s).offer.writing (start_cycle s) in
      subst (λ (us : List FunctionalUnit). OnOffer us i) (sym a.units)
      ((flight-start s out (kept_of s h).flight).offers i (sym a.writing ∙ e)).1

  middle-count : in_flight-count middle ≡ in_flight-count (start_cycle s)
  unfolding in_flight-count
  middle-count =
      let a = settled_same (start_cycle s).offer.writing (start_cycle s) in
      ap₂ (λ (q : List Op) (us : List FunctionalUnit). length q + total one-busy us) a.queue a.units

  retired : s.log.stats.committed + one-if (found s) ≤ max64
      → middle.log.stats.committed ≡ s.log.stats.committed + one-if (found s)
  unfolding writing
  retired l =
      let c = (counters-started s).committed in
      omega (arith, c, settled-committed (found s) (start_cycle s) (omega (arith, c, l)))

  pub cycled-is : cycled s ≡ advanced middle
  unfolding cycled
  cycled-is = advance-runs middle middle-running

  pub cycled-facts : Cycled s (cycled s)
  cycled-facts = subst (Cycled s) (sym cycled-is) facts
    where
      a : Step middle (advanced middle)
      a = subst (Step middle) (advance-runs middle middle-running) (step-advance None middle)

      facts : Cycled s (advanced middle)
      facts =
          let b = settled-step (start_cycle s).offer.writing (start_cycle s) in
          let c = step_start s in
          let f = advanced-facts middle in
          let g = settled_same (start_cycle s).offer.writing (start_cycle s) in
          let n = counters-started s in
          record {
            machine = a.machine ∙ b.machine ∙ c.machine;
            number = a.next_seq ∙ b.next_seq ∙ c.next_seq;
            shorter = omega (arith, a.shorter, b.shorter, c.shorter);
            enabled = f.enabled ∙ middle-front.0;
            halted = f.halted ∙ middle-front.1;
            faulted = f.faulted ∙ middle-front.2;
            outside = f.outside;
            invited = f.invited;
            places = a.places ∙ b.places ∙ c.places;
            rows = f.rows ∙ ap (push_all (timeline_cells (advanced middle))) (g.rows ∙ rows-started s);
            cycles = omega (arith, f.cycles, g.cycles, n.cycles);
            account = λ l.
                let i = count-advanced middle offer-there in
                let j = count-started s in
                omega (arith, i, j, middle-count, f.committed, retired (omega (arith, j, l)));
            share_most = λ p d. share_most p d s h out;
            share_less = λ p d. share-falls p d s h out;
          }
