-- An engine whose loads and stores are in order: what the steps of an advance keep, and a fetch.
use Prim.Native.Nat.{ℕ, ◌≤◌, ◌<◌}
use native.Mathlib.Omega.{arith}
use mathlib.Core.Path.{◌≡◌, refl, sym, subst}
use mathlib.Core.Bool.{Bool, true, false, false≢true}
use Rattle.std.specs.Prelude.{Option, None, Some, slice_get}
use mathlib.Core.List.{List, [], ◌∷◌, map}
use Rattle.laws.specs.Lists.{All, keep}
use Rattle.laws.specs.Texts.{Text}
use Rattle.capability.specs.declared.PipelineHazardKind.{PipelineHazardKind}
use Rattle.capability.specs.declared.PipelineHazardKind.TheVariants.{BranchFlush, FunctionalUnitBusy, WriteAfterWrite}
use Rattle.capability.specs.declared.Phase.TheVariants.{Wait}
use Rattle.capability.specs.declared.PipelineInstructionClass.{PipelineInstructionClass}
use Rattle.capability.specs.declared.PipelineInstructionClass.TheVariants.{Alu, Multiply, Divide, Load, Store, Branch, Jump, System, FloatingPoint, Unknown}
use Rattle.model.specs.Config.{Machine, config, default_timing, is_memory, latency, machine_of}
use Rattle.capability.specs.Numbers.{numbers}
use Rattle.model.specs.Op.{Given, Op, with_hazard}
use Rattle.model.specs.Registers.{resolve}
use Rattle.model.specs.State.{State, stall_all}
use Rattle.model.specs.Traces.{Detail, Trace}
use Rattle.model.specs.Units.{FunctionalUnit, begin, tick, waits}
use Rattle.model.specs.Issue.{block_issue, free_unit, issue, issue_choose, issue_front, issue_to, issuing, learn, taken, wait_trace, waits_on}
use Rattle.model.specs.Scoreboard.{after_issue, before_issue, fetched, fetched_op, scoreboard}
use Rattle.model.specs.Forecast.{forecast_shape}
use Rattle.runs.proofs.Tracks.{all_append, all-modify}
use Rattle.invariant.proofs.Issued.{free-found}
use Rattle.ending.proofs.Work.{map-three, three}
use Rattle.ordering.specs.Ordering.{NoneOrders, orders_memory}
use Rattle.ordering.proofs.Ahead.{Ahead, Quick}
use Rattle.ordering.proofs.Placed.{ahead-placed}

-- ── The record ──────────────────────────────────────────────────────────────

abbrev pub QuickOp : Op → Type 0
QuickOp o = Quick o.core.decoded.class o

-- A wait is not one for memory order.
abbrev pub OtherWait : Trace → Type 0
OtherWait t = orders_memory t.detail ≡ false

pub record Orderly (s : State) : Type 0 where
  pub units : Ahead s.units
  pub queue : All QuickOp s.queue
  pub waits : NoneOrders s.log.traces

-- ── Read operands ───────────────────────────────────────────────────────────

none-wait : (us : List FunctionalUnit) (ns : List Text) (vs : List FunctionalUnit) → NoneOrders (map (wait_trace us ns) vs)
unfolding issuing
none-wait us ns [] = tt
none-wait us ns (v ∷ vs) = (refl, none-wait us ns vs)

pub before-units : (s : State) → (before_issue None s).units ≡ map three s.units
unfolding scoreboard issuing
before-units s = map-three s.units

pub orderly-before
    : (s : State) → Ahead (map three s.units) → All QuickOp s.queue → NoneOrders s.log.traces → Orderly (before_issue None s)
unfolding scoreboard issuing stall_all
orderly-before s a q w =
    record {
      units = subst Ahead (sym (before-units s)) a;
      queue = q;
      waits =
          all_append OtherWait s.log.traces (map (wait_trace read s.names) (keep waits read)) w
          (none-wait read s.names (keep waits read));
    }
  where
    read : List FunctionalUnit
    read = map begin (map tick s.units)

-- ── Issue ───────────────────────────────────────────────────────────────────

-- What an issue needs: the units hold older operations than the queue, and where one is free, the other waits for no register.
pub record Room (s : State) : Type 0 where
  pub younger
      : (o : Op) (rest : List Op) → s.queue ≡ o ∷ rest → (i : ℕ) (u : FunctionalUnit) → slice_get s.units i ≡ Some u → u.busy ≡ true
      → u.op.core.seq < o.core.seq
  pub begun
      : (k : ℕ) (f : FunctionalUnit) → slice_get s.units k ≡ Some f → f.busy ≡ false → (i : ℕ) (u : FunctionalUnit)
      → slice_get s.units i ≡ Some u → u.busy ≡ true → u.phase ≡ Wait → ⊥

orderly-blocked
    : (x : PipelineHazardKind) (d : Detail) (s : State) → orders_memory d ≡ false → Orderly s → Orderly (block_issue x d s)
unfolding issuing stall_all
orderly-blocked x d s n h =
    record {
      units = h.units;
      queue = all-modify QuickOp 0 (with_hazard (Some x)) (λ o q. q) s.queue h.queue;
      waits = all_append OtherWait s.log.traces _ h.waits (n, tt);
    }

orderly-to
    : (o : Op) (rest : List Op) (r w : List ℕ) (t f : Option ℕ) (s : State) → s.queue ≡ o ∷ rest
    → free_unit s.machine.specs s.units o.core.decoded.class ≡ f → Room s → Orderly s → Orderly (issue_to o rest r w t f s)
unfolding issuing
orderly-to o rest r w (Some x) f s q e m h = orderly-blocked WriteAfterWrite _ s refl h
orderly-to o rest r w None None s q e m h = orderly-blocked FunctionalUnitBusy _ s refl h
orderly-to o rest r w None (Some k) s q e m h =
    let v = free-found s.machine.specs s.units o.core.decoded.class k e in
    let c : All QuickOp (o ∷ rest) = subst (All QuickOp) q h.queue in
    record {
      units =
          ahead-placed o r w (waits_on s.producer r) s.units h.units k c.0 (m.younger o rest q) (m.begun k v.0 v.1 v.2);
      queue = c.1;
      waits = h.waits;
    }

orderly-choose
    : (b y : Bool) (o : Op) (rest : List Op) (s : State) → s.queue ≡ o ∷ rest → Room s → Orderly s → Orderly (issue_choose b y o rest s)
unfolding issuing
orderly-choose true y o rest s q m h = orderly-blocked BranchFlush _ s refl h
orderly-choose false true o rest s q m h = orderly-blocked FunctionalUnitBusy _ s refl h
orderly-choose false false o rest s q m h =
    let x = resolve s.names o.info in
    orderly-to o rest x.read x.written (taken (learn x.names s).producer x.written)
    (free_unit s.machine.specs s.units o.core.decoded.class) (learn x.names s) q refl
    record { younger = m.younger; begun = m.begun }
    record { units = h.units; queue = h.queue; waits = h.waits }

pub orderly-issue : (s : State) → Room s → Orderly s → Orderly (issue s)
unfolding issuing
orderly-issue s m h = go s.queue refl
  where
    go : (q : List Op) → s.queue ≡ q → Orderly (issue_front q s)
    go [] e = h
    go (o ∷ rest) e = orderly-choose s.marks.branch s.marks.system o rest s e m h

pub orderly-after : (s : State) → Orderly s → Orderly (after_issue s)
unfolding scoreboard issuing
orderly-after s h = record { units = h.units; queue = h.queue; waits = h.waits }

-- ── Fetch ───────────────────────────────────────────────────────────────────

-- A load or store takes one cycle.
access-quick : (c : PipelineInstructionClass) → is_memory c ≡ true → latency default_timing c ≤ 1
unfolding config numbers
access-quick Alu e = omega arith
access-quick Multiply e = absurd (false≢true e)
access-quick Divide e = absurd (false≢true e)
access-quick Load e = omega arith
access-quick Store e = omega arith
access-quick Branch e = omega arith
access-quick Jump e = omega arith
access-quick System e = absurd (false≢true e)
access-quick FloatingPoint e = absurd (false≢true e)
access-quick Unknown e = omega arith

pub orderly-fetched : (g : Given) (s : State) → s.machine ≡ machine_of forecast_shape → Orderly s → Orderly (fetched g s)
unfolding scoreboard machine_of forecast_shape
orderly-fetched g s e h =
    record {
      units = h.units;
      queue = all_append QuickOp s.queue (fetched_op g s ∷ []) h.queue (quick, tt);
      waits = h.waits;
    }
  where
    quick : is_memory g.decoded.class ≡ true → latency s.machine.times g.decoded.class ≤ 1
    quick m =
        subst (λ (x : Machine). latency x.times g.decoded.class ≤ 1) (sym e) (access-quick g.decoded.class m)
