-- The operations in flight are consistent after every call.
use Prim.Native.Nat.{ℕ, zero, suc, ◌≤◌}
use native.Mathlib.Omega.{arith}
use mathlib.Core.Path.{◌≡◌, refl, sym, ◌∙◌, ap, subst}
use mathlib.Core.Bool.{Bool, true, false, cond}
use Rattle.std.specs.Prelude.{Option, None, Some, slice_get}
use mathlib.Core.List.{List, [], ◌∷◌, ◌++◌, map}
use Rattle.laws.specs.Lists.{All}
use Rattle.std.specs.List.{list_any}
use Rattle.laws.specs.Numbers.{max64, saturating_add}
use Rattle.laws.specs.Texts.{Text}
use Rattle.laws.proofs.Choices.{none-some}
use Rattle.model.specs.Calls.{Call, advance as advance-call, calls, capacity, cell, fault as fault-call, fetch, halt as halt-call, overlap, redirect, refusal, reset, resolve as resolve-call, retire, retry as retry-call, run, start, text, view}
use Rattle.model.specs.Config.{PipelineShape, UnitSpec, machine_of, with_specs}
use Rattle.model.specs.Issue.{issue}
use Rattle.model.specs.Op.{Given}
use Rattle.model.specs.Registers.{producer_of, registers}
use Rattle.model.specs.Scoreboard.{advance, after_issue, before_issue, closed, fetched, fetched_op, rebuilt, scoreboard, set_capacity, stops, with_noted, reset_to}
use Rattle.model.specs.State.{State, engine, new, state}
use Rattle.model.specs.Units.{FunctionalUnit, build_units, clear, instances, is_busy, units}
use Rattle.model.specs.Write.{writing, stopped}
use Rattle.runs.proofs.Tracks.{all_append}
use Rattle.invariant.specs.Invariant.{front_number}
use Rattle.invariant.proofs.Lists.{any_none}
use Rattle.invariant.proofs.Consistent.{Entry, Consistent, consistent-none}
use Rattle.invariant.proofs.Entries.{entry, entry_at, in_flight, ConsistentOf, Flight, consistent-as, front-last, rising-last, entry-empty, Unoffered, unoffered-flight}
use Rattle.invariant.proofs.Bools.{or-false}
use Rattle.invariant.proofs.Start.{no-cycle, flight-start, flight-retry}
use Rattle.invariant.proofs.Complete.{unoffered-closed, unoffered-before}
use Rattle.invariant.proofs.Issued.{unoffered-issue, unoffered-after}
use Rattle.invariant.proofs.Taken.{fetch-taken, next-number, capacity-taken, start_outside}

-- ── Advance ─────────────────────────────────────────────────────────────────

flight-advance : (r : Option ℕ) (s : State) → Flight s → Flight (advance r s)
unfolding scoreboard
flight-advance r s h = unoffered-flight (advance r s) (go (stops s))
  where
    go : (b : Bool) → Unoffered (cond b (closed s) (after_issue (issue (before_issue r (closed s)))))
    go true = unoffered-closed s h
    go false =
        unoffered-after (issue (before_issue r (closed s)))
        (unoffered-issue (before_issue r (closed s)) (unoffered-before r (closed s) (unoffered-closed s h)))

-- ── The other calls ─────────────────────────────────────────────────────────

-- Nothing in flight.
dropped
    : (s : State) → ((i : ℕ) → in_flight s i ≡ None) → ((r : ℕ) → producer_of s.producer r ≡ None) → s.marks.branch ≡ false
    → s.marks.system ≡ false → ConsistentOf s
dropped s hc hp pb py =
    let lo = front_number s.queue s.front.next_seq in
    subst (λ (x : Bool). Consistent (in_flight s) (producer_of s.producer) x s.marks.system lo) (sym pb)
    (subst (λ (x : Bool). Consistent (in_flight s) (producer_of s.producer) false x lo) (sym py)
    (consistent-none (in_flight s) (producer_of s.producer) lo hc hp))

none-claimed : (ps : List (Option ℕ)) (r : ℕ) → producer_of (map (λ (p : Option ℕ). None) ps) r ≡ None
unfolding registers
none-claimed [] r = refl
none-claimed (p ∷ ps) zero = refl
none-claimed (p ∷ ps) (suc r) = none-claimed ps r

pub none-held : (k : ℕ) (us : List FunctionalUnit) (i : ℕ) → entry_at None k (slice_get (map clear us) i) ≡ None
unfolding units
none-held k [] i = refl
none-held k (u ∷ us) zero = refl
none-held k (u ∷ us) (suc i) = none-held k us i

instances-idle : (spec i n : ℕ) → All (λ (u : FunctionalUnit). u.busy ≡ false) (instances spec i n)
unfolding units
instances-idle spec i zero = tt
instances-idle spec i (suc n) = (refl, instances-idle spec (suc i) n)

pub built-idle : (spec : ℕ) (ks : List UnitSpec) → All (λ (u : FunctionalUnit). u.busy ≡ false) (build_units spec ks)
unfolding units
built-idle spec [] = tt
built-idle spec (k ∷ ks) =
    all_append (λ (u : FunctionalUnit). u.busy ≡ false) (instances spec 0 k.capacity) (build_units (suc spec) ks)
    (instances-idle spec 0 k.capacity) (built-idle (suc spec) ks)

pub idle-empty
    : (k : ℕ) (us : List FunctionalUnit) → All (λ (u : FunctionalUnit). u.busy ≡ false) us → (i : ℕ)
    → entry_at None k (slice_get us i) ≡ None
idle-empty k [] h i = refl
idle-empty k (u ∷ us) h zero = entry-empty None k u (or-false u.busy ∙ h.0)
idle-empty k (u ∷ us) h (suc i) = idle-empty k us h.1 i

-- With nothing in flight there is no claim and no mark.
module _ (c : ℕ → Option Entry) (p : ℕ → Option ℕ) (b y : Bool) (lo : ℕ) (h : Consistent c p b y lo) (n : (i : ℕ) → c i ≡ None) where
  pub no-claim : (r : ℕ) → p r ≡ None
  no-claim r = go (p r) refl
    where
      go : (x : Option ℕ) → p r ≡ x → p r ≡ None
      go None e = e
      go (Some i) e = let w = h.held r i e in none-some w.0 (sym (n i) ∙ w.1)

-- s after a capacity change, with these units.
abbrev pub noted : ℕ → ℕ → State → List FunctionalUnit → State
noted k m s us =
    state (with_specs (with_noted k m s) s.machine) us s.queue s.names s.producer s.marks s.offer s.front s.log

flight-capacity : (k m : ℕ) (s : State) → s.front.in_cycle ≡ false → Flight s → Flight (set_capacity k m s)
unfolding scoreboard is_busy
flight-capacity k m s c h = go (list_any is_busy s.units) refl
  where
    go : (b : Bool) → list_any is_busy s.units ≡ b → Flight (noted k m s (rebuilt b (with_noted k m s) s.units))
    go true e = record { core = h.core; rising = h.rising; offers = h.offers }
    go false e =
        let ks = with_noted k m s in
        let w = no-cycle s h c in
        let lo = front_number s.queue s.front.next_seq in
        let empty : (i : ℕ) → in_flight s i ≡ None
        = λ i. ap (λ (x : Option ℕ). entry_at x i (slice_get s.units i)) w ∙ idle-empty i s.units (any_none is_busy s.units e) i in
        record {
          core =
              consistent-as (in_flight s) (λ i. entry_at s.offer.writing i (slice_get (build_units 0 ks) i)) (producer_of s.producer)
              (producer_of s.producer) s.marks.branch s.marks.system lo lo
              (λ i.
              ap (λ (x : Option ℕ). entry_at x i (slice_get (build_units 0 ks) i)) w ∙ idle-empty i (build_units 0 ks) (built-idle 0 ks) i
              ∙ sym (empty i))
              (λ r. refl) refl h.core;
          rising = h.rising;
          offers = λ i q. none-some i (sym w ∙ q);
        }

flight-fetched
    : (g : Given) (s : State) → saturating_add s.front.next_seq 1 ≡ suc s.front.next_seq → s.offer.writing ≡ None
    → Flight s → Flight (fetched g s)
unfolding scoreboard
flight-fetched g s more w h =
    let n = s.front.next_seq in
    record {
      core =
          consistent-as (in_flight s) (in_flight s) (producer_of s.producer) (producer_of s.producer) s.marks.branch
          s.marks.system (front_number s.queue n) (front_number (s.queue ++ (fetched_op g s ∷ [])) (saturating_add n 1)) (λ j. refl) (λ r. refl)
          (front-last s.queue (fetched_op g s) n (saturating_add n 1) refl) h.core;
      rising = rising-last s.queue (fetched_op g s) n (saturating_add n 1) refl (omega (arith, more)) h.rising;
      offers = λ i q. none-some i (sym w ∙ q);
    }

flight-stopped : (a b : Bool) (x : Text) (s : State) → Flight (stopped a b x s)
unfolding writing
flight-stopped a b x s =
    record {
      core = consistent-none _ _ _ (λ i. none-held i s.units i) (none-claimed s.producer);
      rising = tt;
      offers = λ i q. none-some i q;
    }

flight-reset : (a : ℕ) (k : Bool) (s : State) → Flight (reset_to a k s)
unfolding scoreboard registers build_units
flight-reset a k s =
    record {
      core = consistent-none _ _ _ (λ i. idle-empty i (build_units 0 s.machine.specs) (built-idle 0 s.machine.specs) i) (λ r. refl);
      rising = tt;
      offers = λ i q. none-some i q;
    }

pub flight-new : (d : PipelineShape) (entry : ℕ) → Flight (new d entry)
unfolding engine registers build_units
flight-new d entry =
    record {
      core = consistent-none _ _ _ (λ i. idle-empty i (build_units 0 (machine_of d).specs) (built-idle 0 (machine_of d).specs) i) (λ r. refl);
      rising = tt;
      offers = λ i q. none-some i q;
    }

pub flight-run : (s : State) (c : Call) → refusal s c ≡ None → s.front.next_seq ≤ max64 → Flight s → Flight (run s c)
unfolding calls scoreboard writing
flight-run s start p few h = flight-start s (start_outside s p) h
flight-run s retire p few h = record { core = h.core; rising = h.rising; offers = h.offers }
flight-run s (retry-call x) p few h = flight-retry x s h
flight-run s (resolve-call a) p few h = h
flight-run s (advance-call r ml) p few h = flight-advance r s h
flight-run s (fetch g ml) p few h =
    let a = fetch-taken s g ml p in
    flight-fetched g s (next-number s.front.next_seq few a.number) (no-cycle s h a.outside) h
flight-run s (capacity k m) p few h = flight-capacity k m s (capacity-taken s k m p).0 h
flight-run s (overlap b) p few h = record { core = h.core; rising = h.rising; offers = h.offers }
flight-run s halt-call p few h = flight-stopped true false _ s
flight-run s (fault-call x) p few h = flight-stopped false true x s
flight-run s (reset a ml) p few h = flight-reset a false s
flight-run s (redirect a) p few h = flight-reset a true s
flight-run s (view v) p few h = h
flight-run s (text t m) p few h = h
flight-run s (cell i j ml) p few h = h
