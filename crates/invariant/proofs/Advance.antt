-- The steps of an advance after the completion leave the offer and the flags as they were, and list few waits.
use Prim.Native.Nat.{ℕ, suc, ◌+◌, ◌≤◌}
use native.Mathlib.Omega.{arith}
use mathlib.Core.Path.{◌≡◌, refl, ◌∙◌}
use mathlib.Core.Bool.{Bool, true, false}
use Rattle.std.specs.Prelude.{Option, None, Some}
use mathlib.Core.List.{List, [], ◌∷◌, ◌++◌, map}
use lib.ListN.{length, length-append}
use Rattle.laws.specs.Lists.{keep}
use Rattle.laws.specs.Texts.{Text}
use Rattle.laws.proofs.Maps.{length-of}
use Rattle.laws.proofs.Choices.{none-some}
use Rattle.capability.specs.declared.PipelineHazardKind.{PipelineHazardKind}
use Rattle.capability.specs.declared.PipelineHazardKind.TheVariants.{BranchFlush, FunctionalUnitBusy, WriteAfterWrite}
use Rattle.model.specs.Issue.{block_issue, free_unit, issue, issue_choose, issue_front, issue_to, issuing, learn, taken, flush}
use Rattle.model.specs.Op.{Op}
use Rattle.model.specs.Registers.{resolve}
use Rattle.model.specs.Scoreboard.{before_issue, scoreboard, clear_status}
use Rattle.model.specs.State.{Log, State, engine, stall_all}
use Rattle.model.specs.Traces.{Detail, Trace}
use Rattle.model.specs.Units.{FunctionalUnit, begin, tick, waits}
use Rattle.invariant.proofs.Lists.{keep-length}

-- At most n more waits are listed, and the rest is as it was.
pub record SameFlags (n : ℕ) (s t : State) : Type 0 where
  pub offer : t.offer ≡ s.offer
  pub in_cycle : t.front.in_cycle ≡ s.front.in_cycle
  pub halted : t.front.halted ≡ s.front.halted
  pub faulted : t.front.faulted ≡ s.front.faulted
  -- The status is as it was, or gone.
  pub status : (x : Text) → t.log.status ≡ Some x → s.log.status ≡ Some x
  pub traces : length t.log.traces ≤ n + length s.log.traces

flags-on : (m n : ℕ) (r s t : State) → SameFlags m r s → SameFlags n s t → SameFlags (n + m) r t
flags-on m n r s t a b =
    record {
      offer = b.offer ∙ a.offer;
      in_cycle = b.in_cycle ∙ a.in_cycle;
      halted = b.halted ∙ a.halted;
      faulted = b.faulted ∙ a.faulted;
      status = λ x e. a.status x (b.status x e);
      traces = omega (arith, a.traces, b.traces);
    }

-- Each of a list of waits is listed.
pub stall-length
    : {A : Type 0} (f : A → Trace) (xs : List A) (l : Log)
    → length (stall_all (map f xs) l).traces ≡ length l.traces + length xs
unfolding engine
stall-length f xs l = omega (arith, length-append l.traces (map f xs), length-of f xs)

append-one : {A : Type 0} (xs : List A) (x : A) → length (xs ++ (x ∷ [])) ≤ suc (length xs)
append-one xs x = omega (arith, length-append xs (x ∷ []))

-- The waits of units are at most as many as the units.
waiting_few
    : (f : FunctionalUnit → Trace) (us : List FunctionalUnit) (l : Log) (k : ℕ) → length l.traces ≤ suc k
    → length (stall_all (map f (keep waits (map begin (map tick us)))) l).traces ≤ 1 + length us + k
waiting_few f us l k h =
    omega (
      arith,
      h,
      stall-length f (keep waits (map begin (map tick us))) l,
      keep-length waits (map begin (map tick us)),
      length-of begin (map tick us),
      length-of tick us,
    )

pub flags-before : (r : Option ℕ) (s : State) → SameFlags (1 + length s.units) s (before_issue r s)
unfolding scoreboard issuing stall_all
flags-before None s =
    record {
      offer = refl;
      in_cycle = refl;
      halted = refl;
      faulted = refl;
      status = λ x e. none-some x e;
      traces = waiting_few _ s.units (clear_status s).log (length s.log.traces) (omega arith);
    }
flags-before (Some n) s =
    record {
      offer = refl;
      in_cycle = refl;
      halted = refl;
      faulted = refl;
      status = λ x e. none-some x e;
      traces = waiting_few _ s.units (flush n (clear_status s)).log (length s.log.traces) (append-one s.log.traces _);
    }

flags-blocked : (x : PipelineHazardKind) (d : Detail) (s : State) → SameFlags 1 s (block_issue x d s)
unfolding issuing stall_all
flags-blocked x d s =
    record {
      offer = refl;
      in_cycle = refl;
      halted = refl;
      faulted = refl;
      status = λ x e. e;
      traces = one (append-one s.log.traces _);
    }
  where
    one : {k : ℕ} → k ≤ suc (length s.log.traces) → k ≤ 1 + length s.log.traces
    one h = omega arith

flags-to : (o : Op) (rest : List Op) (r w : List ℕ) (t f : Option ℕ) (s : State) → SameFlags 1 s (issue_to o rest r w t f s)
unfolding issuing
flags-to o rest r w (Some x) f s = flags-blocked WriteAfterWrite _ s
flags-to o rest r w None None s = flags-blocked FunctionalUnitBusy _ s
flags-to o rest r w None (Some i) s =
    record { offer = refl; in_cycle = refl; halted = refl; faulted = refl; status = λ x e. e; traces = omega arith }

flags-choose : (b y : Bool) (o : Op) (rest : List Op) (s : State) → SameFlags 1 s (issue_choose b y o rest s)
unfolding issuing
flags-choose true y o rest s = flags-blocked BranchFlush _ s
flags-choose false true o rest s = flags-blocked FunctionalUnitBusy _ s
flags-choose false false o rest s =
    let x = resolve s.names o.info in
    let s' = learn x.names s in
    let t = taken s'.producer x.written in
    let f = free_unit s.machine.specs s.units o.core.decoded.class in
    let e = issue_to o rest x.read x.written t f s' in
    let h : SameFlags 1 s' e = flags-to o rest x.read x.written t f s' in
    record { offer = h.offer; in_cycle = h.in_cycle; halted = h.halted; faulted = h.faulted; status = h.status; traces = h.traces }

pub flags-issue : (s : State) → SameFlags 1 s (issue s)
unfolding issuing
flags-issue s = go s.queue
  where
    go : (q : List Op) → SameFlags 1 s (issue_front q s)
    go [] = record { offer = refl; in_cycle = refl; halted = refl; faulted = refl; status = λ x e. e; traces = omega arith }
    go (o ∷ rest) = flags-choose s.marks.branch s.marks.system o rest s

pub flags-issued : (r : Option ℕ) (s : State) → SameFlags (1 + (1 + length s.units)) s (issue (before_issue r s))
unfolding before_issue issue
flags-issued r s =
    flags-on (1 + length s.units) 1 s (before_issue r s) (issue (before_issue r s)) (flags-before r s) (flags-issue (before_issue r s))
