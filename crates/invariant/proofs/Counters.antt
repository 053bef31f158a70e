-- Counters stop at 2^64 - 1, whatever is counted.
use Prim.Native.Nat.{ℕ, ◌≤◌}
use native.Mathlib.Omega.{arith}
use mathlib.Core.Bool.{Bool, true, false}
use mathlib.Core.List.{List, [], ◌∷◌}
use Rattle.laws.specs.Numbers.{max64, saturating_add}
use Rattle.capability.specs.declared.PipelineHazardKind.{PipelineHazardKind}
use Rattle.model.specs.State.{Stats, count_cycle, count_flush, count_retired, count_stall, count_stalls, engine, no_stats, up}
use Rattle.invariant.specs.Invariant.{CountersFit}

up-few : (b : Bool) (n : ℕ) → n ≤ max64 → up b n ≤ max64
unfolding engine
up-few true n h = omega arith
up-few false n h = h

pub sum_few : (a b : ℕ) → saturating_add a b ≤ max64
sum_few a b = omega arith

pub counters-none : CountersFit no_stats
counters-none =
    record {
      cycles_few = omega arith;
      committed_few = omega arith;
      stalls_few = omega arith;
      raw_few = omega arith;
      load_use_few = omega arith;
      branch_few = omega arith;
      unit_few = omega arith;
      memory_few = omega arith;
      waw_few = omega arith;
      war_few = omega arith;
      flushes_few = omega arith;
      branches_few = omega arith;
    }

pub counters-cycle : (a : Stats) → CountersFit a → CountersFit (count_cycle a)
counters-cycle a h =
    record {
      cycles_few = sum_few a.cycles 1;
      committed_few = h.committed_few;
      stalls_few = h.stalls_few;
      raw_few = h.raw_few;
      load_use_few = h.load_use_few;
      branch_few = h.branch_few;
      unit_few = h.unit_few;
      memory_few = h.memory_few;
      waw_few = h.waw_few;
      war_few = h.war_few;
      flushes_few = h.flushes_few;
      branches_few = h.branches_few;
    }

pub counters-retired : (b : Bool) (a : Stats) → CountersFit a → CountersFit (count_retired b a)
counters-retired b a h =
    record {
      cycles_few = h.cycles_few;
      committed_few = sum_few a.committed 1;
      stalls_few = h.stalls_few;
      raw_few = h.raw_few;
      load_use_few = h.load_use_few;
      branch_few = h.branch_few;
      unit_few = h.unit_few;
      memory_few = h.memory_few;
      waw_few = h.waw_few;
      war_few = h.war_few;
      flushes_few = h.flushes_few;
      branches_few = up-few b a.branches h.branches_few;
    }

pub counters-flush : (n : ℕ) (a : Stats) → CountersFit a → CountersFit (count_flush n a)
counters-flush n a h =
    record {
      cycles_few = h.cycles_few;
      committed_few = h.committed_few;
      stalls_few = sum_few a.stalls n;
      raw_few = h.raw_few;
      load_use_few = h.load_use_few;
      branch_few = sum_few a.branch_stalls n;
      unit_few = h.unit_few;
      memory_few = h.memory_few;
      waw_few = h.waw_few;
      war_few = h.war_few;
      flushes_few = sum_few a.flushes 1;
      branches_few = h.branches_few;
    }

counters-stall : (x : PipelineHazardKind) (a : Stats) → CountersFit a → CountersFit (count_stall x a)
unfolding count_stall
counters-stall x a h =
    record {
      cycles_few = h.cycles_few;
      committed_few = h.committed_few;
      stalls_few = sum_few a.stalls 1;
      raw_few = up-few _ a.raw_stalls h.raw_few;
      load_use_few = up-few _ a.load_use_stalls h.load_use_few;
      branch_few = up-few _ a.branch_stalls h.branch_few;
      unit_few = up-few _ a.functional_unit_stalls h.unit_few;
      memory_few = up-few _ a.memory_stalls h.memory_few;
      waw_few = up-few _ a.waw_stalls h.waw_few;
      war_few = up-few _ a.war_stalls h.war_few;
      flushes_few = h.flushes_few;
      branches_few = h.branches_few;
    }

pub counters-stalls : (xs : List PipelineHazardKind) (a : Stats) → CountersFit a → CountersFit (count_stalls xs a)
unfolding count_stalls
counters-stalls [] a h = h
counters-stalls (x ∷ xs) a h = counters-stalls xs (count_stall x a) (counters-stall x a h)
