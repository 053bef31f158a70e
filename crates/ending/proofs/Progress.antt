-- The engine when it is to issue; with no unit busy nothing keeps the first of the queue from issuing.
use Prim.Native.Nat.{ℕ, ◌≤◌, ◌<◌}
use native.Mathlib.Omega.{arith}
use mathlib.Core.Path.{◌≡◌, refl, sym, ◌∙◌, ap, ap₂}
use mathlib.Core.Bool.{Bool, true, false, not, ◌&&◌, ◌||◌, true≢false}
use Rattle.std.specs.Prelude.{Option, None, Some, slice_get, option_map}
use mathlib.Core.List.{List, [], ◌∷◌, map}
use lib.Dec.{eqb}
use lib.ListN.{length}
use borrow.Author.Tests.{eq-eqb}
use Rattle.laws.specs.Lists.{find_at, keep, lists, modify}
use Rattle.std.specs.List.{list_any}
use Rattle.laws.specs.Optional.{value_or}
use Rattle.laws.proofs.Choices.{none-some}
use Rattle.laws.proofs.Maps.{nth-map}
use Rattle.capability.specs.declared.Phase.{Phase}
use Rattle.capability.specs.declared.PipelineInstructionClass.{PipelineInstructionClass}
use Rattle.model.specs.Config.{UnitSpec, config, handles, spec_index, Machine}
use Rattle.model.specs.Op.{with_hazard}
use Rattle.model.specs.Registers.{producer_of}
use Rattle.model.specs.State.{State}
use Rattle.model.specs.Units.{FunctionalUnit, begin, clear, clear_hazard, is_busy, mark_hazard, read_one, tick, units, with_busy, without_waits}
use Rattle.model.specs.Write.{Blocked, blocked_kind, mark_blocked, start_cycle, take_out, writable_unit, writing}
use Rattle.model.specs.Issue.{free_unit, is_free, issuing}
use Rattle.model.specs.Scoreboard.{before_issue, closed, scoreboard}
use Rattle.runs.proofs.Tracks.{all_map, all-modify}
use Rattle.invariant.specs.Invariant.{Invariant, front_number, unit_place}
use Rattle.invariant.proofs.Lists.{all-at, find-hit, find-miss, map_same, nth-image, nth-other, nth-short}
use Rattle.invariant.proofs.Consistent.{Entry, Marked}
use Rattle.invariant.proofs.Entries.{Flight, Unoffered, entry_at, in_flight, marked-same}
use Rattle.invariant.proofs.Start.{flight-start}
use Rattle.invariant.proofs.Complete.{unoffered-before, unoffered-closed}
use Rattle.invariant.proofs.Flight.{idle-empty, no-claim}
use Rattle.invariant.proofs.Steps.{step-before, step-closed, step_start}
use Rattle.invariant.proofs.Invariant.{kept_of}
use Rattle.ending.proofs.Oldest.{Quiet}
use Rattle.ending.proofs.Share.{Clear}
use Rattle.ending.proofs.Cycle.{cleared, closed-units, closed-units-at, found, marked, settled, settled_same, settled-step}

-- ── No unit is busy ─────────────────────────────────────────────────────────

pub quiet-marked : (bs : List (ℕ × Blocked)) (us : List FunctionalUnit) → Quiet us → Quiet (mark_blocked bs us)
unfolding writing units
quiet-marked [] us h = h
quiet-marked (b ∷ bs) us h =
    quiet-marked bs _ (all-modify (λ (u : FunctionalUnit). u.busy ≡ false) b.0 (mark_hazard (blocked_kind b.1)) (λ u e. e) us h)

pub quiet-before : (s : State) → Quiet s.units → Quiet (before_issue None s).units
unfolding scoreboard issuing units
quiet-before s h =
    kept read_one (λ u e. e) (map begin (map tick s.units))
    (kept begin (λ u e. e) (map tick s.units) (kept tick (λ u e. e) s.units h))
  where
    kept
        : (f : FunctionalUnit → FunctionalUnit) → ((u : FunctionalUnit) → u.busy ≡ false → (f u).busy ≡ false) → (us : List FunctionalUnit)
        → Quiet us → Quiet (map f us)
    kept f r us q = all_map (λ (u : FunctionalUnit). u.busy ≡ false) (λ (u : FunctionalUnit). u.busy ≡ false) f r us q

pub quiet-idle : (us : List FunctionalUnit) → Quiet (map clear_hazard us) → list_any is_busy us ≡ false
unfolding units
quiet-idle [] h = refl
quiet-idle (u ∷ us) h = ap₂ ◌||◌ h.0 (quiet-idle us h.1)

-- ── A unit of each kind is free then ────────────────────────────────────────

spec_known : (ks : List UnitSpec) (c : PipelineInstructionClass) → 1 ≤ length ks → spec_index ks c < length ks
unfolding config
spec_known ks c l = go (find_at (λ (i : ℕ) (k : UnitSpec). handles c k) 0 ks) refl
  where
    go : (o : Option ℕ) → find_at (λ (i : ℕ) (k : UnitSpec). handles c k) 0 ks ≡ o → value_or 0 o < length ks
    go None e = omega arith
    go (Some i) e =
        let w = find-hit (λ (i : ℕ) (k : UnitSpec). handles c k) 0 ks i e in
        omega (arith, w.1, nth-short ks w.0 w.2.0 w.2.1)

free-there
    : (ks : List UnitSpec) (us : List FunctionalUnit) (c : PipelineInstructionClass) (j : ℕ) (u : FunctionalUnit) → slice_get us j ≡ Some u
    → u.spec ≡ spec_index ks c → u.busy ≡ false → (i : ℕ) × (free_unit ks us c ≡ Some i)
unfolding issuing
free-there ks us c j u e k b = go (free_unit ks us c) refl
  where
    go : (o : Option ℕ) → free_unit ks us c ≡ o → (i : ℕ) × (o ≡ Some i)
    go (Some i) q = (i, refl)
    go None q =
        let m = find-miss (is_free (spec_index ks c)) 0 us q j u e in
        absurd (true≢false (sym (ap₂ (λ (x y : Bool). x && not y) (eq-eqb u.spec (spec_index ks c) k) b) ∙ m))

kind-free
    : (s t : State) → Invariant s → t.machine ≡ s.machine → map unit_place t.units ≡ map unit_place s.units → Quiet t.units
    → (c : PipelineInstructionClass) → (i : ℕ) × (free_unit t.machine.specs t.units c ≡ Some i)
kind-free s t h m p q c =
    let same : length t.machine.specs ≡ length s.machine.specs = ap (λ (x : Machine). length x.specs) m in
    let k = spec_known t.machine.specs c (omega (arith, same, h.kinds_fit.some_kind)) in
    there (h.kind_has_unit (spec_index t.machine.specs c) (omega (arith, same, k)))
  where
    there
        : (i : ℕ) × (u : FunctionalUnit) × (slice_get s.units i ≡ Some u) × (u.spec ≡ spec_index t.machine.specs c)
        → (i : ℕ) × (free_unit t.machine.specs t.units c ≡ Some i)
    there (i, u, e, k) = same_place (nth-image unit_place t.units s.units i u p e)
      where
        same_place
            : (v : FunctionalUnit) × (slice_get t.units i ≡ Some v) × (unit_place v ≡ unit_place u)
            → (i : ℕ) × (free_unit t.machine.specs t.units c ≡ Some i)
        same_place (v, f, l) =
            free-there t.machine.specs t.units c i v f (ap (λ (x : ℕ × ℕ). x.0) l ∙ k)
            (all-at (λ (u : FunctionalUnit). u.busy ≡ false) t.units i v f q)

-- ── The engine when it is to issue ──────────────────────────────────────────

settled-flight : (w : Option ℕ) (t : State) → Flight t → Flight (settled w t)
unfolding settled writing
settled-flight None t h = h
settled-flight (Some i) t h = record { core = h.core; rising = h.rising; offers = h.offers }

no-mark : (m : Bool) (flag : Entry → Bool) (c : ℕ → Option Entry) → Marked m flag c → ((i : ℕ) → c i ≡ None) → m ≡ false
no-mark true flag c h n = let w = h.marked refl in none-some w.1 (sym (n w.0) ∙ w.2)
no-mark false flag c h n = refl

pub queue-before : (s : State) → (before_issue None s).queue ≡ s.queue
unfolding scoreboard issuing
queue-before s = refl

pub queue-started : (s : State) → (start_cycle s).queue ≡ map (with_hazard None) s.queue
unfolding writing
queue-started s = refl

-- What a start's marks leave of a unit.
abbrev pub Part : Type 0
Part = Bool × Phase × List (ℕ × ℕ) × ℕ

abbrev pub part : FunctionalUnit → Part
part u = (u.busy, u.phase, u.pending, u.op.core.seq)

marked-part : (bs : List (ℕ × Blocked)) (us : List FunctionalUnit) → map part (mark_blocked bs us) ≡ map part us
unfolding units
marked-part bs us = marked-same part (λ x v. refl) bs us

module _ (s : State) (h : Invariant s) (out : s.front.in_cycle ≡ false) where
  abbrev pub before : State
  before = before_issue None (closed (settled (start_cycle s).offer.writing (start_cycle s)))

  abbrev pub middle : State
  middle = settled (start_cycle s).offer.writing (start_cycle s)

  flight : Flight s
  flight = (kept_of s h).flight

  pub unoffered : Unoffered before
  unoffered =
      unoffered-before None (closed middle)
      (unoffered-closed middle (settled-flight (start_cycle s).offer.writing (start_cycle s) (flight-start s out flight)))

  places : map unit_place before.units ≡ map unit_place s.units
  places =
      (step-before None (closed middle)).places ∙ (step-closed middle).places
      ∙ (settled-step (start_cycle s).offer.writing (start_cycle s)).places ∙ (step_start s).places

  machine : before.machine ≡ s.machine
  machine =
      (step-before None (closed middle)).machine ∙ (step-closed middle).machine
      ∙ (settled-step (start_cycle s).offer.writing (start_cycle s)).machine ∙ (step_start s).machine

  -- With no unit busy nothing keeps the first of the queue from issuing.
  pub clear-before : Quiet before.units → Clear before
  clear-before q =
      record {
        no_branch = no-mark before.marks.branch (λ e. e.redirects) (in_flight before) unoffered.core.branch empty;
        no_system = no-mark before.marks.system (λ e. e.system) (in_flight before) unoffered.core.sys empty;
        unclaimed =
            no-claim (in_flight before) (producer_of before.producer) before.marks.branch before.marks.system
            (front_number before.queue before.front.next_seq) unoffered.core empty;
        free = λ o. kind-free s before h machine places q o.core.decoded.class;
      }
    where
      empty : (i : ℕ) → in_flight before i ≡ None
      empty i = ap (λ (w : Option ℕ). entry_at w i (slice_get before.units i)) unoffered.no_offer ∙ idle-empty i before.units q i

  pub closed-marked : found s ≡ None → (closed middle).units ≡ marked s
  unfolding writing
  closed-marked e =
      let a = settled_same (start_cycle s).offer.writing (start_cycle s) in
      closed-units middle (a.writing ∙ e) ∙ a.units ∙ ap (λ (f : Option ℕ). take_out f (marked s)) e

  pub closed-found
      : (i : ℕ) → found s ≡ Some i
      → (closed middle).units ≡ map (without_waits i) (modify i clear (modify i (with_busy false) (marked s)))
  unfolding writing
  closed-found i e =
      let a = settled_same (start_cycle s).offer.writing (start_cycle s) in
      closed-units-at middle i (a.writing ∙ e)
      ∙ ap (λ (us : List FunctionalUnit). map (without_waits i) (modify i clear us)) (a.units ∙ ap (λ (f : Option ℕ). take_out f (marked s)) e)

  -- Where a unit is not the one offered, it is as it was; one that waits for nothing still does.
  pub stands : (i : ℕ) (u : FunctionalUnit) → slice_get s.units i ≡ Some u → (v : FunctionalUnit) × (slice_get (marked s) i ≡ Some v) × (part v ≡ part u)
  unfolding units
  stands i u e =
      nth-image part (marked s) s.units i u
      (marked-part (writable_unit (cleared s)).turned_away (cleared s) ∙ map_same part clear_hazard (λ x. refl) s.units) e

  pub closed-stands
      : (i : ℕ) (v : FunctionalUnit) → slice_get (marked s) i ≡ Some v → v.pending ≡ [] → (found s ≡ Some i → ⊥)
      → (w : FunctionalUnit) × (slice_get (closed middle).units i ≡ Some w) × (part w ≡ part v)
  unfolding units lists
  closed-stands i v e k n = go (found s) refl
    where
      go : (f : Option ℕ) → found s ≡ f → (w : FunctionalUnit) × (slice_get (closed middle).units i ≡ Some w) × (part w ≡ part v)
      go None q = (v, ap (λ (us : List FunctionalUnit). slice_get us i) (closed-marked q) ∙ e, refl)
      go (Some j) q =
          let other : i ≡ j → ⊥ = λ z. n (q ∙ ap (λ (x : ℕ). Some x) (sym z)) in
          let us = modify j (with_busy false) (marked s) in
          let still : keep (λ (x : ℕ × ℕ). not (eqb x.1 j)) v.pending ≡ v.pending
          = ap (keep (λ (x : ℕ × ℕ). not (eqb x.1 j))) k ∙ sym k in (
            without_waits j v,
            ap (λ (ws : List FunctionalUnit). slice_get ws i) (closed-found j q) ∙ nth-map (without_waits j) (modify j clear us) i
                ∙ ap (option_map (without_waits j)) (nth-other clear us j i other ∙ nth-other (with_busy false) (marked s) j i other ∙ e),
            ap (λ (ws : List (ℕ × ℕ)). (v.busy, v.phase, ws, v.op.core.seq)) still,
          )
