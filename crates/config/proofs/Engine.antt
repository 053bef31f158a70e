-- The model's engine refuses and notes a capacity as these definitions do.
use Prim.Native.Nat.{ℕ}
use mathlib.Core.Path.{◌≡◌, refl}
use mathlib.Core.Bool.{cond}
use Rattle.std.specs.Prelude.{Some}
use Rattle.model.specs.Scoreboard.{with_noted, set_capacity}
use Rattle.model.specs.State.{State}
use Rattle.model.specs.Calls.{capacity, first_of, checks, refusal}
use Rattle.config.specs.Checks.{noted_specs, noted, capacity_checks, capacity_refusal}

module _ (s : State) (kind n : ℕ) where
  -- Refusal 4 comes first.
  pub refusal_is : refusal s (capacity kind n) ≡ cond s.front.in_cycle (Some 4) (capacity_refusal kind n s.machine.specs)
  unfolding refusal checks first_of with_noted noted_specs capacity_checks capacity_refusal
  refusal_is = refl

  pub noted-is : (set_capacity kind n s).machine ≡ noted kind n s.machine
  unfolding set_capacity with_noted noted_specs noted
  noted-is = refl
