-- What holds of each unit by itself, after every way in which a unit changes.
use Prim.Native.Nat.{ℕ, suc, ◌-◌, ◌≤◌, ◌<◌}
use native.Mathlib.Omega.{arith}
use mathlib.Core.Path.{◌≡◌, refl, sym, ◌∙◌, ap, subst}
use mathlib.Core.Bool.{Bool, true, false, cond, not, ◌&&◌, ◌||◌, true≢false}
use Rattle.std.specs.Prelude.{Option, None, Some, slice_get, option_map}
use mathlib.Core.List.{List, [], ◌∷◌, map}
use lib.Dec.{eqb}
use lib.ListN.{length}
use borrow.Author.Tests.{eqb-true, eqb-false, ne_eqb}
use Rattle.laws.specs.Lists.{lists, All, is_empty, keep, modify}
use Rattle.laws.proofs.Choices.{none-some, some_inj}
use Rattle.laws.proofs.Maps.{nth-map}
use Rattle.capability.specs.Numbers.{numbers, phase_number}
use Rattle.capability.specs.declared.Phase.{Phase}
use Rattle.capability.specs.declared.Phase.TheVariants.{Execute, Read, Wait, Write}
use Rattle.capability.specs.declared.PipelineHazardKind.{PipelineHazardKind}
use Rattle.capability.specs.declared.PipelineHazardKind.TheVariants.{ReadAfterWrite}
use Rattle.model.specs.Calls.{calls}
use Rattle.model.specs.Op.{Op, no_op, with_hazard, with_cycles, Decoded}
use Rattle.model.specs.Units.{FunctionalUnit, begin, clear, idle_unit, in_phase, occupy, read_one, tick, units, waits, with_busy, with_progress, without_waits}
use Rattle.runs.proofs.Tracks.{all-weaken}
use Rattle.invariant.specs.Invariant.{Blank, OperationFits, UnitFits, occupied}
use Rattle.invariant.proofs.Bools.{and-false, or-false, or-neither}
use Rattle.invariant.proofs.Lists.{nth-same, nth-other, keep-length, keep-empty}
use Rattle.invariant.proofs.Entries.{offered-self}

-- ── A fact of each unit, by its place ───────────────────────────────────────

abbrev pub Every : (ℕ → FunctionalUnit → Type 0) → List FunctionalUnit → Type 0
Every P us = (i : ℕ) (u : FunctionalUnit) → slice_get us i ≡ Some u → P i u

module _ (P Q : ℕ → FunctionalUnit → Type 0) where
  pub every_map
      : (f : FunctionalUnit → FunctionalUnit) → ((i : ℕ) (u : FunctionalUnit) → P i u → Q i (f u)) → (us : List FunctionalUnit) → Every P us
      → Every Q (map f us)
  every_map f r us h i u e = go (slice_get us i) refl (sym (nth-map f us i) ∙ e)
    where
      go : (o : Option FunctionalUnit) → slice_get us i ≡ o → option_map f o ≡ Some u → Q i u
      go None k q = none-some u q
      go (Some v) k q = subst (Q i) (some_inj (f v) u q) (r i v (h i v k))

  pub every-modify
      : (f : FunctionalUnit → FunctionalUnit) (m : ℕ) → ((i : ℕ) (u : FunctionalUnit) → (i ≡ m → ⊥) → P i u → Q i u)
      → ((u : FunctionalUnit) → P m u → Q m (f u)) → (us : List FunctionalUnit) → Every P us → Every Q (modify m f us)
  every-modify f m away here us h i u e = at (eqb i m) refl
    where
      go : (o : Option FunctionalUnit) → slice_get us m ≡ o → option_map f o ≡ Some u → Q m u
      go None k q = none-some u q
      go (Some v) k q = subst (Q m) (some_inj (f v) u q) (here v (h m v k))

      at : (b : Bool) → eqb i m ≡ b → Q i u
      at true t =
          let z = eqb-true i m t in
          subst (λ (x : ℕ). Q x u) (sym z)
          (go (slice_get us m) refl (sym (nth-same f us m) ∙ ap (slice_get (modify m f us)) (sym z) ∙ e))
      at false t = let n = eqb-false i m t in away i u n (h i u (sym (nth-other f us m i n) ∙ e))

pub all-every : (P : FunctionalUnit → Type 0) (us : List FunctionalUnit) → Every (λ (i : ℕ) (u : FunctionalUnit). P u) us → All P us
unfolding lists
all-every P [] h = tt
all-every P (u ∷ us) h = (h 0 u refl, all-every P us (λ i v e. h (suc i) v e))

-- ── An operation ────────────────────────────────────────────────────────────

pub fits-hazard : (x : Option PipelineHazardKind) (o : Op) → OperationFits o → OperationFits (with_hazard x o)
fits-hazard x o h =
    record {
      row_is_number = h.row_is_number;
      cycles_few = h.cycles_few;
      predicted_few = h.predicted_few;
      sources_few = h.sources_few;
      writes_few = h.writes_few;
      texts_fit = h.texts_fit;
    }

-- Fewer cycles, or as many, are left.
fits-cycles
    : (b : Bool) (o : Op) → OperationFits o
    → OperationFits (with_cycles (cond b (o.core.cycles_left - 1) o.core.cycles_left) o)
fits-cycles b o h =
    record {
      row_is_number = h.row_is_number;
      cycles_few = go b;
      predicted_few = h.predicted_few;
      sources_few = h.sources_few;
      writes_few = h.writes_few;
      texts_fit = h.texts_fit;
    }
  where
    go : (b : Bool) → cond b (o.core.cycles_left - 1) o.core.cycles_left ≤ 255
    go true = let k = h.cycles_few in omega arith
    go false = h.cycles_few

fits-none : OperationFits no_op
unfolding calls lists
fits-none =
    record {
      row_is_number = refl;
      cycles_few = omega arith;
      predicted_few = omega arith;
      sources_few = omega arith;
      writes_few = omega arith;
      texts_fit = refl;
    }

-- ── A unit ──────────────────────────────────────────────────────────────────

-- In a machine of k kinds with n names: it fits, and if it is free, and its result not on offer, its lists are empty.
pub record Local (k n : ℕ) (w : Option ℕ) (i : ℕ) (u : FunctionalUnit) : Type 0 where
  pub blank : occupied w i u ≡ false → Blank u
  pub fits : UnitFits k n u

abbrev pub Locals : ℕ → ℕ → Option ℕ → List FunctionalUnit → Type 0
Locals k n w us = Every (Local k n w) us

module _ (k n : ℕ) where
  -- Its operation or its phase changes.
  pub local-progress
      : (w : Option ℕ) (i : ℕ) (o : Op) (p : Phase) (u : FunctionalUnit) → o.core.decoded ≡ u.op.core.decoded → OperationFits o
      → (is_empty u.pending ≡ false → p ≡ Wait) → Local k n w i u → Local k n w i (with_progress o p u)
  local-progress w i o p u d f e h =
      record {
        blank = λ q. let b = h.blank q in record { no_sources = b.no_sources; no_destinations = b.no_destinations; no_waits = b.no_waits };
        fits =
            record {
              spec_known = h.fits.spec_known;
              instance_few = h.fits.instance_few;
              operation_fits = f;
              class_same = h.fits.class_same ∙ ap (λ (x : Decoded). x.class) (sym d);
              redirects_same = h.fits.redirects_same ∙ ap (λ (x : Decoded). x.branch) (sym d);
              sources_few = h.fits.sources_few;
              destinations_few = h.fits.destinations_few;
              waits_few = h.fits.waits_few;
              sources_known = h.fits.sources_known;
              destinations_known = h.fits.destinations_known;
              waits_early = e;
            };
      }

  -- Its hazard is set or cleared.
  pub local-hazard
      : (w : Option ℕ) (i : ℕ) (u : FunctionalUnit) (x : Option PipelineHazardKind) → Local k n w i u
      → Local k n w i (with_progress (with_hazard x u.op) u.phase u)
  local-hazard w i u x h =
      local-progress w i (with_hazard x u.op) u.phase u refl (fits-hazard x u.op h.fits.operation_fits) h.fits.waits_early h

  -- A cycle passes.
  not_in : (u : FunctionalUnit) (p : Phase) → u.phase ≡ Wait → eqb (phase_number Wait) (phase_number p) ≡ false → in_phase p u ≡ false
  unfolding units
  not_in u p e f =
      ap (λ (x : Phase). u.busy && eqb (phase_number x) (phase_number p)) e ∙ ap (λ (b : Bool). u.busy && b) f ∙ and-false u.busy

  pub local-tick : (w : Option ℕ) (i : ℕ) (u : FunctionalUnit) → Local k n w i u → Local k n w i (tick u)
  unfolding units numbers
  local-tick w i u h =
      local-progress w i (with_cycles (cond (in_phase Execute u) (u.op.core.cycles_left - 1) u.op.core.cycles_left) u.op)
      (cond (in_phase Execute u && eqb u.op.core.cycles_left 0) Write u.phase) u refl
      (fits-cycles (in_phase Execute u) u.op h.fits.operation_fits)
      (λ e.
      let p = h.fits.waits_early e in
      ap (λ (b : Bool). cond (b && eqb u.op.core.cycles_left 0) Write u.phase) (not_in u Execute p refl) ∙ p)
      h

  pub local-begin : (w : Option ℕ) (i : ℕ) (u : FunctionalUnit) → Local k n w i u → Local k n w i (begin u)
  unfolding units numbers
  local-begin w i u h =
      local-progress w i (with_cycles (cond (in_phase Read u) (u.op.core.cycles_left - 1) u.op.core.cycles_left) u.op)
      (cond (in_phase Read u) Execute u.phase) u refl (fits-cycles (in_phase Read u) u.op h.fits.operation_fits)
      (λ e. let p = h.fits.waits_early e in ap (λ (b : Bool). cond b Execute u.phase) (not_in u Read p refl) ∙ p) h

  pub local-read : (w : Option ℕ) (i : ℕ) (u : FunctionalUnit) → Local k n w i u → Local k n w i (read_one u)
  unfolding units
  local-read w i u h =
      local-progress w i (with_hazard (cond (waits u) (Some ReadAfterWrite) u.op.core.hazard) u.op)
      (cond (in_phase Wait u && is_empty u.pending) Read u.phase) u refl (fits-hazard _ u.op h.fits.operation_fits)
      (λ e.
      ap (λ (b : Bool). cond (in_phase Wait u && b) Read u.phase) e
      ∙ ap (λ (b : Bool). cond b Read u.phase) (and-false (in_phase Wait u)) ∙ h.fits.waits_early e)
      h

  -- It is made, or cleared.
  pub local-idle : (w : Option ℕ) (i spec m : ℕ) → spec < k → m < 64 → Local k n w i (idle_unit spec m)
  unfolding units lists
  local-idle w i spec m a b =
      record {
        blank = λ e. record { no_sources = refl; no_destinations = refl; no_waits = refl };
        fits =
            record {
              spec_known = a;
              instance_few = b;
              operation_fits = fits-none;
              class_same = refl;
              redirects_same = refl;
              sources_few = omega arith;
              destinations_few = omega arith;
              waits_few = omega arith;
              sources_known = tt;
              destinations_known = tt;
              waits_early = λ e. absurd (true≢false e);
            };
      }

  pub local-clear : (w v : Option ℕ) (i : ℕ) (u : FunctionalUnit) → Local k n w i u → Local k n v i (clear u)
  unfolding units
  local-clear w v i u h = local-idle v i u.spec u.instance h.fits.spec_known h.fits.instance_few

  -- Its result is offered, or put back; the others are as they were.
  fits-busy : (b : Bool) (u : FunctionalUnit) → UnitFits k n u → UnitFits k n (with_busy b u)
  fits-busy b u h =
      record {
        spec_known = h.spec_known;
        instance_few = h.instance_few;
        operation_fits = h.operation_fits;
        class_same = h.class_same;
        redirects_same = h.redirects_same;
        sources_few = h.sources_few;
        destinations_few = h.destinations_few;
        waits_few = h.waits_few;
        sources_known = h.sources_known;
        destinations_known = h.destinations_known;
        waits_early = h.waits_early;
      }

  pub local_out : (i : ℕ) (u : FunctionalUnit) → Local k n None i u → Local k n (Some i) i (with_busy false u)
  local_out i u h =
      record { blank = λ e. absurd (true≢false (sym (offered-self i (with_busy false u)) ∙ e)); fits = fits-busy false u h.fits }

  pub local-out-other : (i j : ℕ) (u : FunctionalUnit) → (j ≡ i → ⊥) → Local k n None j u → Local k n (Some i) j u
  local-out-other i j u m h =
      record { blank = λ e. h.blank (or-false u.busy ∙ (or-neither u.busy (eqb j i) e).0); fits = h.fits }

  pub local_back : (i : ℕ) (u : FunctionalUnit) → Local k n (Some i) i u → Local k n None i (with_busy true u)
  local_back i u h = record { blank = λ e. absurd (true≢false e); fits = fits-busy true u h.fits }

  pub local-back-other : (i j : ℕ) (u : FunctionalUnit) → (j ≡ i → ⊥) → Local k n (Some i) j u → Local k n None j u
  local-back-other i j u m h =
      record { blank = λ e. h.blank (ap (λ (b : Bool). u.busy || b) (ne_eqb j i m) ∙ e); fits = h.fits }

  -- It no longer waits for a unit.
  pub local-unwait : (w : Option ℕ) (m i : ℕ) (u : FunctionalUnit) → Local k n w i u → Local k n w i (without_waits m u)
  unfolding units keep
  local-unwait w m i u h =
      record {
        blank = λ e.
            let b = h.blank e in
            record {
              no_sources = b.no_sources;
              no_destinations = b.no_destinations;
              no_waits = ap (keep (λ (p : ℕ × ℕ). not (eqb p.1 m))) b.no_waits;
            };
        fits =
            record {
              spec_known = h.fits.spec_known;
              instance_few = h.fits.instance_few;
              operation_fits = h.fits.operation_fits;
              class_same = h.fits.class_same;
              redirects_same = h.fits.redirects_same;
              sources_few = h.fits.sources_few;
              destinations_few = h.fits.destinations_few;
              waits_few = omega (arith, h.fits.waits_few, keep-length (λ (p : ℕ × ℕ). not (eqb p.1 m)) u.pending);
              sources_known = h.fits.sources_known;
              destinations_known = h.fits.destinations_known;
              waits_early = λ e. h.fits.waits_early (keep-empty (λ (p : ℕ × ℕ). not (eqb p.1 m)) u.pending e);
            };
      }

  -- It is given an operation, with the numbers of its registers.
  pub local-occupy
      : (i : ℕ) (u : FunctionalUnit) (o : Op) (r w : List ℕ) (p : List (ℕ × ℕ)) → OperationFits o → length r ≤ 8 → length w ≤ 4
      → length p ≤ 8 → All (λ (x : ℕ). x < n) r → All (λ (x : ℕ). x < n) w → Local k n None i u → Local k n None i (occupy o r w p u)
  unfolding units
  local-occupy i u o r w p f r8 w4 p8 rk wk h =
      record {
        blank = λ q. absurd (true≢false q);
        fits =
            record {
              spec_known = h.fits.spec_known;
              instance_few = h.fits.instance_few;
              operation_fits = f;
              class_same = refl;
              redirects_same = refl;
              sources_few = r8;
              destinations_few = w4;
              waits_few = p8;
              sources_known = rk;
              destinations_known = wk;
              waits_early = λ q. refl;
            };
      }

-- More names are known.
pub local-more : (k n m : ℕ) → n ≤ m → (w : Option ℕ) (i : ℕ) (u : FunctionalUnit) → Local k n w i u → Local k m w i u
local-more k n m l w i u h =
    record {
      blank = h.blank;
      fits =
          record {
            spec_known = h.fits.spec_known;
            instance_few = h.fits.instance_few;
            operation_fits = h.fits.operation_fits;
            class_same = h.fits.class_same;
            redirects_same = h.fits.redirects_same;
            sources_few = h.fits.sources_few;
            destinations_few = h.fits.destinations_few;
            waits_few = h.fits.waits_few;
            sources_known = all-weaken (λ (r : ℕ). r < n) (λ (r : ℕ). r < m) (λ r x. omega arith) u.sources h.fits.sources_known;
            destinations_known =
                all-weaken (λ (r : ℕ). r < n) (λ (r : ℕ). r < m) (λ r x. omega arith) u.destinations h.fits.destinations_known;
            waits_early = h.fits.waits_early;
          };
    }
