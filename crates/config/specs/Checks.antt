-- What a check answers, and what it leaves to hold.
use Rattle.std.specs.Prelude.{ℕ, ◌≡◌, false, List, [], ◌∷◌, ltb, Option, None, slice_get}
use Rattle.laws.specs.Optional.{is_none}
use Rattle.laws.specs.Lists.{modify}
use Rattle.std.specs.List.{list_any}
use Rattle.model.specs.Config.{timing, UnitSpec, with_capacity, capacities, PipelineShape, pipeline_shape, Machine, with_specs}
use Rattle.model.specs.Calls.{Check, first_of, too_big, bad_spec_name, extra_overflows}

-- A machine that declares nothing.
abbrev pub nothing_declared : PipelineShape
nothing_declared = pipeline_shape [] None (timing 0 0 0 0 0 0 0) [] 0

-- What making does not refuse, the lent memory aside.
pub record Accepted (d : PipelineShape) : Type 0 where
  pub small : too_big d ≡ false
  pub named : list_any bad_spec_name d.units ≡ false
  pub timed : extra_overflows d.times ≡ false

-- ── A capacity change ───────────────────────────────────────────────────────

unfoldable pub noted_specs : ℕ → ℕ → List UnitSpec → List UnitSpec
noted_specs kind n ks = modify kind (with_capacity n) ks

unfoldable pub noted : ℕ → ℕ → Machine → Machine
noted kind n m = with_specs (noted_specs kind n m.specs) m

-- Refusals 12 and 1.
unfoldable pub capacity_checks : ℕ → ℕ → List UnitSpec → List Check
capacity_checks kind n ks = (12, is_none (slice_get ks kind)) ∷ (1, ltb 64 (capacities (noted_specs kind n ks))) ∷ []

unfoldable pub capacity_refusal : ℕ → ℕ → List UnitSpec → Option ℕ
capacity_refusal kind n ks = first_of (capacity_checks kind n ks)

-- All of these unfold where a line says `unfolding checks`.
unfoldable pub checks : Unit {0}
unfolding noted_specs noted capacity_checks capacity_refusal
checks = tt
