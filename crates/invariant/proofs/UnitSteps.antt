-- Each unit by itself, after each step of the engine.
use Prim.Native.Nat.{ℕ, zero, suc, ◌+◌, ◌≤◌, ◌<◌}
use native.Mathlib.Omega.{arith}
use mathlib.Core.Path.{◌≡◌, sym, ◌∙◌, ap, subst}
use mathlib.Core.Bool.{Bool, true, false, cond}
use Rattle.std.specs.Prelude.{Option, None, Some}
use mathlib.Core.List.{List, [], ◌∷◌, map}
use lib.ListN.{length}
use Rattle.laws.specs.Lists.{All, modify}
use Rattle.std.specs.List.{list_any}
use Rattle.model.specs.Config.{UnitSpec, config, capacities, Machine, with_capacity}
use Rattle.model.specs.Issue.{complete_offer, free_unit, issue, issue_choose, issue_front, issue_to, issuing, learn, taken, waits_on}
use Rattle.model.specs.Op.{Op}
use Rattle.model.specs.Registers.{resolve}
use Rattle.model.specs.Scoreboard.{advance, after_issue, before_issue, closed, scoreboard, stops, with_noted, set_capacity, rebuilt}
use Rattle.model.specs.State.{Offer, State}
use Rattle.model.specs.Calls.{Call, advance as advance-call, calls, capacity, cell, fault, fetch, halt, overlap, redirect, refusal, reset, resolve as resolve-call, retire, retry, run, start, text, view}
use Rattle.model.specs.Units.{FunctionalUnit, begin, build_units, clear, instances, mark_hazard, occupy, read_one, tick, units, with_busy, without_waits, clear_hazard, is_busy}
use Rattle.model.specs.Write.{Blocked, blocked_kind, mark_blocked, put_back, take_out, writing, writable_unit}
use Rattle.runs.proofs.Names.{resolve-read, resolve-written}
use Rattle.runs.proofs.Tracks.{all_append, before-names, closed-names}
use Rattle.invariant.specs.Invariant.{OperationFits}
use Rattle.invariant.proofs.Lists.{all-at, length-modify}
use Rattle.invariant.proofs.Tables.{at-known, at_length, waits-length}
use Rattle.invariant.proofs.NameCount.{resolve-longer}
use Rattle.invariant.proofs.Units.{Local, Locals, every_map, every-modify, local-hazard, local-tick, local-begin, local-read, local-idle, local-clear, local_out, local-out-other, local_back, local-back-other, local-unwait, local-occupy, local-more}
use Rattle.invariant.proofs.Steps.{Step, step-before, step-closed}
use Rattle.invariant.proofs.Entries.{Flight}
use Rattle.invariant.proofs.Sizes.{Sizes}
use Rattle.invariant.proofs.Front.{Front, close}
use Rattle.invariant.proofs.Advance.{flags-issued}
use Rattle.invariant.proofs.Taken.{capacity-taken, start_outside}
use Rattle.invariant.proofs.Start.{no-cycle}

-- ── Built units ─────────────────────────────────────────────────────────────

module _ (k n : ℕ) (w : Option ℕ) where
  abbrev Anywhere : FunctionalUnit → Type 0
  Anywhere u = (i : ℕ) → Local k n w i u

  instances-local : (spec m c : ℕ) → spec < k → m + c ≤ 64 → All Anywhere (instances spec m c)
  unfolding units
  instances-local spec m zero a b = tt
  instances-local spec m (suc c) a b =
      ((λ i. local-idle k n w i spec m a (omega arith)), instances-local spec (suc m) c a (omega arith))

  built-local : (spec : ℕ) (ks : List UnitSpec) → spec + length ks ≤ k → capacities ks ≤ 64 → All Anywhere (build_units spec ks)
  unfolding units config
  built-local spec [] a b = tt
  built-local spec (x ∷ ks) a b =
      all_append Anywhere (instances spec 0 x.capacity) (build_units (suc spec) ks)
      (instances-local spec 0 x.capacity (omega arith) (omega arith)) (built-local (suc spec) ks (omega arith) (omega arith))

  pub locals-built : (ks : List UnitSpec) → length ks ≤ k → capacities ks ≤ 64 → Locals k n w (build_units 0 ks)
  locals-built ks a b i u e = all-at Anywhere (build_units 0 ks) i u e (built-local 0 ks (omega arith) b) i

-- ── A start, a retry, a stop ────────────────────────────────────────────────

module _ (k n : ℕ) where
  pub locals-marked
      : (w : Option ℕ) (bs : List (ℕ × Blocked)) (us : List FunctionalUnit) → Locals k n w us → Locals k n w (mark_blocked bs us)
  unfolding writing units
  locals-marked w [] us h = h
  locals-marked w (b ∷ bs) us h =
      locals-marked w bs (modify b.0 (mark_hazard (blocked_kind b.1)) us)
      (every-modify (Local k n w) (Local k n w) _ b.0 (λ i u m x. x)
      (λ u x. local-hazard k n w b.0 u (Some (blocked_kind b.1)) x) us h)

  pub locals-out : (f : Option ℕ) (us : List FunctionalUnit) → Locals k n None us → Locals k n f (take_out f us)
  unfolding writing
  locals-out None us h = h
  locals-out (Some i) us h =
      every-modify (Local k n None) (Local k n (Some i)) (with_busy false) i (local-out-other k n i) (local_out k n i) us h

  pub locals-back : (w : Option ℕ) (us : List FunctionalUnit) → Locals k n w us → Locals k n None (put_back w us)
  unfolding writing
  locals-back None us h = h
  locals-back (Some i) us h =
      every-modify (Local k n (Some i)) (Local k n None) (with_busy true) i (local-back-other k n i) (local_back k n i) us h

  pub locals-cleared : (w : Option ℕ) (us : List FunctionalUnit) → Locals k n w us → Locals k n None (map clear us)
  locals-cleared w us h = every_map (Local k n w) (Local k n None) clear (local-clear k n w None) us h

  -- ── An advance ──────────────────────────────────────────────────────────────

  pub locals-closed : (w : Option ℕ) (s : State) → Locals k n w s.units → Locals k n None (complete_offer w s).units
  unfolding issuing
  locals-closed None s h = h
  locals-closed (Some i) s h =
      every_map (Local k n None) (Local k n None) (without_waits i) (local-unwait k n None i) (modify i clear s.units)
      (every-modify (Local k n (Some i)) (Local k n None) clear i (local-back-other k n i) (local-clear k n (Some i) None i) s.units h)

  pub locals-before : (r : Option ℕ) (s : State) → Locals k n None s.units → Locals k n None (before_issue r s).units
  unfolding scoreboard issuing
  locals-before r s h = go r
    where
      three : Locals k n None (map read_one (map begin (map tick s.units)))
      three =
          every_map (Local k n None) (Local k n None) read_one (local-read k n None) (map begin (map tick s.units))
          (every_map (Local k n None) (Local k n None) begin (local-begin k n None) (map tick s.units)
          (every_map (Local k n None) (Local k n None) tick (local-tick k n None) s.units h))

      go : (r : Option ℕ) → Locals k n None (before_issue r s).units
      go None = three
      go (Some m) = three

-- The units of s, none of them on offer.
abbrev LocalsOf : State → Type 0
LocalsOf s = Locals (length s.machine.specs) (length s.names) None s.units

locals-to
    : (o : Op) (rest : List Op) (r w : List ℕ) (t f : Option ℕ) (s : State) → OperationFits o → length r ≤ 8 → length w ≤ 4
    → All (λ (x : ℕ). x < length s.names) r → All (λ (x : ℕ). x < length s.names) w → LocalsOf s
    → LocalsOf (issue_to o rest r w t f s)
unfolding issuing
locals-to o rest r w (Some x) f s e r8 w4 rk wk h = h
locals-to o rest r w None None s e r8 w4 rk wk h = h
locals-to o rest r w None (Some i) s e r8 w4 rk wk h =
    let k = length s.machine.specs in
    let n = length s.names in
    every-modify (Local k n None) (Local k n None) (occupy o r w (waits_on s.producer r)) i (λ j u m x. x)
    (λ u x.
    local-occupy k n i u o r w (waits_on s.producer r) e r8 w4 (omega (arith, r8, waits-length s.producer r)) rk wk x)
    s.units h

locals-choose
    : (b y : Bool) (o : Op) (rest : List Op) (s : State) → OperationFits o → LocalsOf s → LocalsOf (issue_choose b y o rest s)
unfolding issuing
locals-choose true y o rest s e h = h
locals-choose false true o rest s e h = h
locals-choose false false o rest s e h =
    let x = resolve s.names o.info in
    let rs = resolve-read s.names o.info in
    let ws = resolve-written s.names o.info in
    locals-to o rest x.read x.written (taken (learn x.names s).producer x.written)
    (free_unit s.machine.specs s.units o.core.decoded.class) (learn x.names s) e
    (omega (arith, at_length x.names o.info.sources x.read rs, e.sources_few))
    (omega (arith, at_length x.names o.info.writes x.written ws, e.writes_few))
    (at-known x.names o.info.sources x.read rs) (at-known x.names o.info.writes x.written ws)
    (λ i u q.
    local-more (length s.machine.specs) (length s.names) (length x.names) (resolve-longer s.names o.info) None i u (h i u q))

locals-issue : (s : State) → All OperationFits s.queue → LocalsOf s → LocalsOf (issue s)
unfolding issuing
locals-issue s a h = go s.queue a
  where
    go : (q : List Op) → All OperationFits q → LocalsOf (issue_front q s)
    go [] b = h
    go (o ∷ rest) b = locals-choose s.marks.branch s.marks.system o rest s b.0 h

-- ── Every call ──────────────────────────────────────────────────────────────

abbrev pub LocalsIn : State → Type 0
LocalsIn s = Locals (length s.machine.specs) (length s.names) s.offer.writing s.units

locals-as : (k k' n n' : ℕ) (w : Option ℕ) (us : List FunctionalUnit) → k ≡ k' → n ≡ n' → Locals k n w us → Locals k' n' w us
locals-as k k' n n' w us p q h =
    subst (λ (x : ℕ). Locals x n' w us) p (subst (λ (x : ℕ). Locals k x w us) q h)

locals-unoffered : (s : State) → s.offer.writing ≡ None → LocalsOf s → LocalsIn s
locals-unoffered s e h = subst (λ (w : Option ℕ). Locals (length s.machine.specs) (length s.names) w s.units) (sym e) h

-- The machine and the names are as they were.
locals-step
    : (s t : State) → Step s t → t.names ≡ s.names → Locals (length s.machine.specs) (length s.names) None t.units
    → LocalsOf t
locals-step s t m e h =
    locals-as (length s.machine.specs) (length t.machine.specs) (length s.names) (length t.names) None t.units
    (ap (λ (x : Machine). length x.specs) (sym m.machine)) (ap length (sym e)) h

locals-advance : (r : Option ℕ) (s : State) → All OperationFits s.queue → Front s → LocalsIn s → LocalsIn (advance r s)
unfolding scoreboard issuing
locals-advance r s a f h = go (stops s)
  where
    c : LocalsOf (closed s)
    c =
        locals-step s (closed s) (step-closed s) (closed-names s)
        (locals-closed (length s.machine.specs) (length s.names) s.offer.writing s h)

    b : LocalsOf (before_issue r (closed s))
    b =
        locals-step (closed s) (before_issue r (closed s)) (step-before r (closed s)) (before-names r (closed s))
        (locals-before (length (closed s).machine.specs) (length (closed s).names) r (closed s) c)

    go : (x : Bool) → LocalsIn (cond x (closed s) (after_issue (issue (before_issue r (closed s)))))
    go true = locals-unoffered (closed s) (close s f).writing c
    go false =
        let t = issue (before_issue r (closed s)) in
        let q = (step-before r (closed s)).queued ((step-closed s).queued a) in
        locals-unoffered t (ap (λ (x : Offer). x.writing) (flags-issued r (closed s)).offer ∙ (close s f).writing)
        (locals-issue (before_issue r (closed s)) q b)

locals-capacity : (k m : ℕ) (s : State) → capacities (with_noted k m s) ≤ 64 → LocalsIn s → LocalsIn (set_capacity k m s)
unfolding scoreboard
locals-capacity k m s c h =
    subst (λ (x : ℕ). Locals x (length s.names) s.offer.writing (rebuilt (list_any is_busy s.units) (with_noted k m s) s.units)) (sym e)
    (go (list_any is_busy s.units))
  where
    e : length (modify k (with_capacity m) s.machine.specs) ≡ length s.machine.specs
    e = length-modify (with_capacity m) k s.machine.specs

    go
        : (b : Bool)
        → Locals (length s.machine.specs) (length s.names) s.offer.writing (rebuilt b (with_noted k m s) s.units)
    go true = h
    go false =
        locals-built (length s.machine.specs) (length s.names) s.offer.writing (with_noted k m s)
        (omega (arith, length-modify (with_capacity m) k s.machine.specs)) c

pub locals-run : (s : State) (c : Call) → refusal s c ≡ None → Flight s → Sizes s → Front s → LocalsIn s → LocalsIn (run s c)
unfolding calls writing units scoreboard
locals-run s start p f z v h =
    let k = length s.machine.specs in
    let n = length s.names in
    let us = map clear_hazard s.units in
    let t = writable_unit us in
    let l : Locals k n None s.units
    = subst (λ (w : Option ℕ). Locals k n w s.units) (no-cycle s f (start_outside s p)) h in
    locals-out k n t.found (mark_blocked t.turned_away us)
    (locals-marked k n None t.turned_away us
    (every_map (Local k n None) (Local k n None) clear_hazard (λ i u x. local-hazard k n None i u None x) s.units l))
locals-run s retire p f z v h = h
locals-run s (retry x) p f z v h = locals-back (length s.machine.specs) (length s.names) s.offer.writing s.units h
locals-run s (resolve-call a) p f z v h = h
locals-run s (advance-call r ml) p f z v h = locals-advance r s z.queued v h
locals-run s (fetch g ml) p f z v h = h
locals-run s (capacity k m) p f z v h = locals-capacity k m s (capacity-taken s k m p).1 h
locals-run s (overlap b) p f z v h = h
locals-run s halt p f z v h = locals-cleared (length s.machine.specs) (length s.names) s.offer.writing s.units h
locals-run s (fault x) p f z v h = locals-cleared (length s.machine.specs) (length s.names) s.offer.writing s.units h
locals-run s (reset a ml) p f z v h = locals-built (length s.machine.specs) 0 None s.machine.specs (omega arith) z.kinds.sum_few
locals-run s (redirect a) p f z v h = locals-built (length s.machine.specs) 0 None s.machine.specs (omega arith) z.kinds.sum_few
locals-run s (view x) p f z v h = h
locals-run s (text t m) p f z v h = h
locals-run s (cell i j ml) p f z v h = h
