-- The operations in flight stay consistent when one is issued.
use Prim.Native.Nat.{ℕ, ◌<◌}
use native.Mathlib.Omega.{arith}
use mathlib.Core.Path.{◌≡◌, refl, sym, ◌∙◌, ap, subst}
use mathlib.Core.Bool.{Bool, true, false, not, ◌&&◌, ◌||◌}
use Rattle.std.specs.Prelude.{Option, None, Some, slice_get, option_map}
use mathlib.Core.List.{List, [], ◌∷◌}
use mathlib.Core.Logic.{◌⊎◌, inl, inr}
use lib.Dec.{eqb}
use lib.ListN.{length}
use borrow.Author.Tests.{eqb-true, eqb-false}
use Rattle.laws.specs.Lists.{modify}
use Rattle.laws.specs.Texts.{Text}
use Rattle.laws.proofs.Choices.{none-some, some_inj}
use Rattle.capability.specs.declared.PipelineHazardKind.{PipelineHazardKind}
use Rattle.capability.specs.declared.PipelineHazardKind.TheVariants.{BranchFlush, FunctionalUnitBusy, WriteAfterWrite}
use Rattle.capability.specs.declared.PipelineInstructionClass.{PipelineInstructionClass}
use Rattle.model.specs.Config.{UnitSpec, spec_index, is_system}
use Rattle.model.specs.Issue.{block_issue, free_unit, issue, issue_choose, issue_front, issue_to, issuing, learn, place, taken, waits_on}
use Rattle.model.specs.Op.{Op, with_hazard}
use Rattle.model.specs.Registers.{claim_all, pad, producer_of, resolve}
use Rattle.model.specs.Scoreboard.{after_issue, scoreboard}
use Rattle.model.specs.State.{State}
use Rattle.model.specs.Traces.{Detail}
use Rattle.model.specs.Units.{FunctionalUnit, occupy, units}
use Rattle.runs.proofs.Names.{resolve-written}
use Rattle.invariant.specs.Invariant.{In, front_number, Rising}
use Rattle.invariant.proofs.Lists.{all_in, nth-same, nth-other, find-hit, in-dec}
use Rattle.invariant.proofs.Consistent.{Entry, Consistent, Entered, consistent-entered}
use Rattle.invariant.proofs.Tables.{claims-in, claims-out, in-waits, waits_in, pad-same, pad-long, at-known, taken_none}
use Rattle.invariant.proofs.Entries.{entry, entry_at, in_flight, Unoffered, consistent-as, front-first, rising-first, entry-empty}
use Rattle.invariant.proofs.Bools.{and_both, not-true, or-false}

-- ── Issue ───────────────────────────────────────────────────────────────────

unoffered-blocked : (x : PipelineHazardKind) (d : Detail) (s : State) → Unoffered s → Unoffered (block_issue x d s)
unfolding issuing
unoffered-blocked x d s h =
    let n = s.front.next_seq in
    record {
      core =
          consistent-as (in_flight s) (in_flight s) (producer_of s.producer) (producer_of s.producer) s.marks.branch
          s.marks.system (front_number s.queue n) (front_number (modify 0 (with_hazard (Some x)) s.queue) n) (λ j. refl)
          (λ r. refl) (front-first (Some x) s.queue n) h.core;
      rising = rising-first (Some x) s.queue n h.rising;
      no_offer = h.no_offer;
    }

unoffered-learn : (ns : List Text) (s : State) → Unoffered s → Unoffered (learn ns s)
unfolding issuing
unoffered-learn ns s h =
    let n = front_number s.queue s.front.next_seq in
    record {
      core =
          consistent-as (in_flight s) (in_flight s) (producer_of s.producer) (producer_of (pad s.producer ns)) s.marks.branch
          s.marks.system n n (λ j. refl) (pad-same s.producer ns) refl h.core;
      rising = h.rising;
      no_offer = h.no_offer;
    }

-- A free unit is found: it is there, and not busy.
pub free-found
    : (ks : List UnitSpec) (us : List FunctionalUnit) (c : PipelineInstructionClass) (i : ℕ) → free_unit ks us c ≡ Some i
    → (u : FunctionalUnit) × (slice_get us i ≡ Some u) × (u.busy ≡ false) × (u.spec ≡ spec_index ks c)
unfolding issuing
free-found ks us c i h =
    let w = find-hit (λ (i : ℕ) (u : FunctionalUnit). eqb u.spec (spec_index ks c) && not u.busy) 0 us i h in
    let u = w.2.0 in
    let m : w.0 ≡ i = omega (arith, w.1) in
    let a = and_both (eqb u.spec (spec_index ks c)) (not u.busy) w.2.2 in
    (u, subst (λ (z : ℕ). slice_get us z ≡ Some u) m w.2.1, not-true u.busy a.1, eqb-true u.spec (spec_index ks c) a.0)

module _
    (o : Op)
    (r w : List ℕ)
    (i : ℕ)
    (us : List FunctionalUnit)
    (ps : List (Option ℕ))
    (v : FunctionalUnit)
    (at : slice_get us i ≡ Some v)
    (idle : v.busy ≡ false)
    (fits : (x : ℕ) → In x w → x < length ps)
    (clean : (x : ℕ) → In x w → producer_of ps x ≡ None)
  where
    abbrev new-unit : FunctionalUnit
    new-unit = occupy o r w (waits_on ps r) v

    abbrev e-before : ℕ → Option Entry
    e-before j = entry_at None j (slice_get us j)

    abbrev e-after : ℕ → Option Entry
    e-after j = entry_at None j (slice_get (modify i (occupy o r w (waits_on ps r)) us) j)

    free-before : e-before i ≡ None
    free-before = ap (entry_at None i) at ∙ entry-empty None i v (or-false v.busy ∙ idle)

    here-after : e-after i ≡ Some (entry new-unit)
    unfolding units
    here-after = ap (entry_at None i) (nth-same (occupy o r w (waits_on ps r)) us i ∙ ap (option_map (occupy o r w (waits_on ps r))) at)

    away : (j : ℕ) → (j ≡ i → ⊥) → e-after j ≡ e-before j
    away j n = ap (entry_at None j) (nth-other (occupy o r w (waits_on ps r)) us i j n)

    entered : Entered i (entry new-unit) e-before e-after (producer_of ps) (producer_of (claim_all i ps w))
    unfolding units
    entered =
        record {
          was_free = free-before;
          here = here-after;
          kept = λ j f e. away j (λ z. none-some f (sym (ap e-before z ∙ free-before) ∙ e)) ∙ e;
          only = λ j g e. only-go j g e (eqb j i) refl;
          unclaimed = clean;
          waits_for = in-waits ps r;
          waits_all = waits_in ps r;
          claimed = claims-in i w ps fits;
          owed = λ x k e. claims-out i w ps x (λ n. none-some k (sym (clean x n) ∙ e)) ∙ e;
          owes = λ x k e. owes-go x k e (in-dec x w);
        }
      where
        only-go
            : (j : ℕ) (g : Entry) → e-after j ≡ Some g → (b : Bool) → eqb j i ≡ b
            → ((j ≡ i) × (g ≡ entry new-unit)) ⊎ (e-before j ≡ Some g)
        only-go j g e true t =
            let z = eqb-true j i t in
            inl (z, some_inj g (entry new-unit) (sym e ∙ ap e-after z ∙ here-after))
        only-go j g e false t = inr (sym (away j (eqb-false j i t)) ∙ e)

        owes-go
            : (x k : ℕ) → producer_of (claim_all i ps w) x ≡ Some k → In x w ⊎ (In x w → ⊥)
            → ((k ≡ i) × In x w) ⊎ (producer_of ps x ≡ Some k)
        owes-go x k e (inl n) = inl (some_inj k i (sym e ∙ claims-in i w ps fits x n), n)
        owes-go x k e (inr n) = inr (sym (claims-out i w ps x n) ∙ e)

    consistent-placed
        : (lo : ℕ) → o.core.seq < lo → Consistent e-before (producer_of ps) false false o.core.seq
        → Consistent e-after (producer_of (claim_all i ps w)) o.core.decoded.branch (is_system o.core.decoded.class) lo
    unfolding units
    consistent-placed lo l h = consistent-entered i (entry new-unit) e-before e-after (producer_of ps) (producer_of (claim_all i ps w)) entered lo l h

unoffered-placed
    : (o : Op) (rest : List Op) (r w : List ℕ) (i : ℕ) (s : State) → s.queue ≡ o ∷ rest → s.marks.branch ≡ false
    → s.marks.system ≡ false → ((v : FunctionalUnit) × (slice_get s.units i ≡ Some v) × (v.busy ≡ false))
    → ((x : ℕ) → In x w → x < length s.producer) → ((x : ℕ) → In x w → producer_of s.producer x ≡ None) → Unoffered s
    → Unoffered (place o rest r w i s)
unfolding issuing
unoffered-placed o rest r w i s q pb py v fits clean h =
    let n = s.front.next_seq in
    let us = s.units in
    let ps = s.producer in
    let up : Rising (o ∷ rest) n = subst (λ (z : List Op). Rising z n) q h.rising in
    let before : Consistent (λ j. entry_at None j (slice_get us j)) (producer_of ps) false false o.core.seq
    = subst (λ (x : Option ℕ). Consistent (λ j. entry_at x j (slice_get us j)) (producer_of ps) false false o.core.seq) h.no_offer
    (subst (λ (x : Bool). Consistent (in_flight s) (producer_of ps) x false o.core.seq) pb
    (subst (λ (x : Bool). Consistent (in_flight s) (producer_of ps) s.marks.branch x o.core.seq) py
    (subst (λ (x : List Op). Consistent (in_flight s) (producer_of ps) s.marks.branch s.marks.system (front_number x n)) q h.core))) in
    let placed = consistent-placed o r w i us ps v.0 v.1 v.2 fits clean (front_number rest n) up.0 before in
    let c : ℕ → Option Entry = λ j. entry_at s.offer.writing j (slice_get (modify i (occupy o r w (waits_on ps r)) us) j) in
    record {
      core =
          subst
          (λ (x : Bool).
          Consistent c (producer_of (claim_all i ps w)) (o.core.decoded.branch || x) (is_system o.core.decoded.class || s.marks.system)
          (front_number rest n))
          (sym pb)
          (subst
          (λ (x : Bool).
          Consistent c (producer_of (claim_all i ps w)) (o.core.decoded.branch || false) (is_system o.core.decoded.class || x)
          (front_number rest n))
          (sym py)
          (subst (λ (x : Bool). Consistent c (producer_of (claim_all i ps w)) x (is_system o.core.decoded.class || false) (front_number rest n))
          (sym (or-false o.core.decoded.branch))
          (subst (λ (x : Bool). Consistent c (producer_of (claim_all i ps w)) o.core.decoded.branch x (front_number rest n))
          (sym (or-false (is_system o.core.decoded.class)))
          (subst
          (λ (x : Option ℕ).
          Consistent (λ j. entry_at x j (slice_get (modify i (occupy o r w (waits_on ps r)) us) j)) (producer_of (claim_all i ps w)) o.core.decoded.branch
          (is_system o.core.decoded.class) (front_number rest n))
          (sym h.no_offer) placed))));
      rising = up.1;
      no_offer = h.no_offer;
    }

unoffered-to
    : (o : Op) (rest : List Op) (r w : List ℕ) (t f : Option ℕ) (s : State) → s.queue ≡ o ∷ rest → s.marks.branch ≡ false
    → s.marks.system ≡ false → taken s.producer w ≡ t → free_unit s.machine.specs s.units o.core.decoded.class ≡ f
    → ((x : ℕ) → In x w → x < length s.producer) → Unoffered s → Unoffered (issue_to o rest r w t f s)
unfolding issuing
unoffered-to o rest r w (Some x) f s q pb py tk fr fits h = unoffered-blocked WriteAfterWrite _ s h
unoffered-to o rest r w None None s q pb py tk fr fits h = unoffered-blocked FunctionalUnitBusy _ s h
unoffered-to o rest r w None (Some i) s q pb py tk fr fits h =
    let v = free-found s.machine.specs s.units o.core.decoded.class i fr in
    unoffered-placed o rest r w i s q pb py (v.0, v.1, v.2) fits (taken_none s.producer w tk) h

unoffered-choose
    : (b y : Bool) (o : Op) (rest : List Op) (s : State) → s.queue ≡ o ∷ rest → s.marks.branch ≡ b → s.marks.system ≡ y → Unoffered s
    → Unoffered (issue_choose b y o rest s)
unfolding issuing
unoffered-choose true y o rest s q pb py h = unoffered-blocked BranchFlush _ s h
unoffered-choose false true o rest s q pb py h = unoffered-blocked FunctionalUnitBusy _ s h
unoffered-choose false false o rest s q pb py h =
    let x = resolve s.names o.info in
    unoffered-to o rest x.read x.written (taken (learn x.names s).producer x.written)
    (free_unit s.machine.specs s.units o.core.decoded.class) (learn x.names s) q pb py refl refl
    (λ k n.
    let a = all_in (λ (r : ℕ). r < length x.names) x.written k n (at-known x.names o.info.writes x.written (resolve-written s.names o.info)) in
    let b = pad-long s.producer x.names in
    omega arith)
    (unoffered-learn x.names s h)

pub unoffered-issue : (s : State) → Unoffered s → Unoffered (issue s)
unfolding issuing
unoffered-issue s h = go s.queue refl
  where
    go : (q : List Op) → s.queue ≡ q → Unoffered (issue_front q s)
    go [] e = h
    go (o ∷ rest) e = unoffered-choose s.marks.branch s.marks.system o rest s e refl refl h

pub unoffered-after : (s : State) → Unoffered s → Unoffered (after_issue s)
unfolding scoreboard issuing
unoffered-after s h = record { core = h.core; rising = h.rising; no_offer = h.no_offer }
