-- The queue's depth is 1 to 15, and a class goes to a kind that is there.
use Prim.Native.Nat.{ℕ, suc, ◌+◌, ◌-◌, ◌≤◌, ◌<◌}
use mathlib.Core.Bool.{Bool, true, false, cond}
use Rattle.std.specs.Prelude.{None, Some}
use mathlib.Core.List.{List, [], ◌∷◌}
use native.Mathlib.Omega.{arith}
use lib.ListN.{length}
use Rattle.laws.specs.Optional.{value_or}
use Rattle.std.specs.Option.{option_or}
use Rattle.laws.specs.Lists.{find_at}
use Rattle.capability.specs.declared.PipelineStageRole.{PipelineStageRole}
use Rattle.capability.specs.declared.PipelineInstructionClass.{PipelineInstructionClass}
use Rattle.model.specs.Config.{UnitSpec, spec_index, execute_stage, queue_depth, is_execute}

-- What a search finds from place i on, or else d, is below a bound that is past the list and d.
found_below : {A : Type 0} (p : ℕ → A → Bool) (l : List A) (i d b : ℕ) → d < b → i + length l ≤ b → value_or d (find_at p i l) < b
unfolding find_at
found_below p [] i d b h k = h
found_below p (x ∷ l) i d b h k = one (p i x) (found_below p l (suc i) d b h (omega arith))
  where
    one : (t : Bool) → value_or d (find_at p (suc i) l) < b → value_or d (option_or (cond t (Some i) None) (find_at p (suc i) l)) < b
    one true q = omega arith
    one false q = q

pub depth_least : (stages : List PipelineStageRole) → 1 ≤ queue_depth stages
unfolding queue_depth
depth_least stages = omega arith

pub depth_most : (stages : List PipelineStageRole) → length stages ≤ 16 → queue_depth stages ≤ 15
unfolding queue_depth execute_stage
depth_most stages h = omega (arith, found_below is_execute stages 0 (length stages - 1) 16 (omega arith) (omega arith))

pub spec_index-below : (ks : List UnitSpec) (c : PipelineInstructionClass) → 1 ≤ length ks → spec_index ks c < length ks
unfolding spec_index
spec_index-below ks c h = found_below _ ks 0 0 (length ks) h (omega arith)
