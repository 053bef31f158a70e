-- Refusals: each answer is that of the first test that holds, and what the tests leave where none does.
use Prim.Native.Nat.{ℕ, ◌≤◌, ◌<◌, min}
use mathlib.Core.Path.{◌≡◌, refl, sym, ap, ◌∙◌}
use mathlib.Core.Bool.{Bool, true, false, cond, true≢false}
use mathlib.Core.Logic.{⊎_elim}
use Rattle.std.specs.Prelude.{None, Some, slice_get}
use mathlib.Core.List.{List, [], ◌∷◌}
use native.Mathlib.Omega.{arith}
use lib.ListN.{length}
use borrow.Author.Tests.{ltb-false, lt-ltb, le-ltb}
use Rattle.laws.specs.Numbers.{max64}
use Rattle.laws.specs.Optional.{is_none}
use Rattle.laws.proofs.Choices.{none-some}
use Rattle.laws.proofs.Tests.{or-neither, true-or-false, lt-or-ge}
use Rattle.laws.proofs.Slices.{nth_end, nth-get_or}
use Rattle.model.specs.Config.{UnitSpec, generic_unit, specs_or_generic, capacities, PipelineShape}
use Rattle.model.specs.Calls.{Check, first_of, too_big, extra_overflows, make_checks, make_refusal}
use Rattle.config.specs.Checks.{nothing_declared, Accepted, noted_specs, capacity_refusal, capacity_checks}

module _ (n : ℕ) {b : Bool} (ps : List Check) where
  first-hit : b ≡ true → first_of ((n, b) ∷ ps) ≡ Some n
  unfolding first_of
  first-hit e = ap (λ t. cond t (Some n) (first_of ps)) e

  first-miss : b ≡ false → first_of ((n, b) ∷ ps) ≡ first_of ps
  unfolding first_of
  first-miss e = ap (λ t. cond t (Some n) (first_of ps)) e

  first-none : first_of ((n, b) ∷ ps) ≡ None → (b ≡ false) × (first_of ps ≡ None)
  first-none e = ⊎_elim (λ h. none-some n (sym e ∙ first-hit h)) (λ h. (h, sym (first-miss h) ∙ e)) (true-or-false b)

first-end : first_of [] ≡ None
unfolding first_of
first-end = refl

-- ── Refusal 1 of a machine ──────────────────────────────────────────────────

-- What it leaves.
pub record Small (d : PipelineShape) : Type 0 where
  pub kinds : length d.units ≤ 16
  pub units : capacities (specs_or_generic d.units) ≤ 64
  pub stages : length d.stages ≤ 16
  pub history : d.history ≤ 256

pub small_of : (d : PipelineShape) → too_big d ≡ false → Small d
unfolding too_big
small_of d e =
    let a = or-neither _ _ e in
    let b = or-neither _ _ a.0 in
    let c = or-neither _ _ b.0 in
    record {
      kinds = ltb-false 16 _ c.0;
      units = ltb-false 64 _ c.1;
      stages = ltb-false 16 _ b.1;
      history = ltb-false 256 _ a.1;
    }

-- ── Making ──────────────────────────────────────────────────────────────────

-- Where making does not refuse, the machine is accepted.
pub accepted : (d : PipelineShape) (lent : ℕ) → make_refusal d lent ≡ None → Accepted d
unfolding make_refusal make_checks
accepted d lent e =
    let a = first-none 1 _ e in
    let b = first-none 2 _ a.1 in
    record { small = a.0; named = b.0; timed = (first-none 3 _ b.1).0 }

pub nothing-accepted : Accepted nothing_declared
unfolding too_big specs_or_generic capacities generic_unit extra_overflows
nothing-accepted = record { small = refl; named = refl; timed = refl }

-- ── A capacity change ───────────────────────────────────────────────────────

module _ (kind n : ℕ) (ks : List UnitSpec) where
  pub no_kind : length ks ≤ kind → Some 12 ≡ capacity_refusal kind n ks
  unfolding capacity_refusal capacity_checks
  no_kind h = sym (first-hit 12 _ (ap is_none (nth_end ks h)))

  -- `sum` stops at 2^64 - 1.
  module _ (h : kind < length ks) {sum : ℕ} (e : sum ≡ min (capacities (noted_specs kind n ks)) max64) where
    there : is_none (slice_get ks kind) ≡ false
    there = ap is_none (nth-get_or ks generic_unit h)

    pub no_room : 64 < sum → Some 1 ≡ capacity_refusal kind n ks
    unfolding capacity_refusal capacity_checks
    no_room k = sym (first-miss 12 _ there ∙ first-hit 1 _ (lt-ltb 64 (capacities (noted_specs kind n ks)) (omega arith)))

    pub has_room : sum ≤ 64 → None ≡ capacity_refusal kind n ks
    unfolding capacity_refusal capacity_checks
    has_room k =
        sym (first-miss 12 _ there ∙ first-miss 1 _ (le-ltb 64 (capacities (noted_specs kind n ks)) (omega arith)) ∙ first-end)

-- What its refusals leave.
pub record Changes (kind n : ℕ) (ks : List UnitSpec) : Type 0 where
  pub there : kind < length ks
  pub units : capacities (noted_specs kind n ks) ≤ 64

pub changes : (kind n : ℕ) (ks : List UnitSpec) → capacity_refusal kind n ks ≡ None → Changes kind n ks
unfolding capacity_refusal capacity_checks
changes kind n ks e =
    let a = first-none 12 _ e in
    record {
      there = ⊎_elim (λ h. h) (λ h. absurd (true≢false (sym (ap is_none (nth_end ks h)) ∙ a.0))) (lt-or-ge kind (length ks));
      units = ltb-false 64 _ (first-none 1 _ a.1).0;
    }
