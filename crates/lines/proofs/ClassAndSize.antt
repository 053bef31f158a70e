-- The first two words of a line: a class by the place of its letter, a length by its digits.
use Prim.Native.Nat.{ℕ, ◌-◌}
use mathlib.Core.Path.{◌≡◌, refl}
use mathlib.Core.Logic.{⊎_elim}
use mathlib.Core.List.{List, [], ◌∷◌, map}
use lib.Dec.{eqb}
use lib.ListN.{length}
use Rattle.std.specs.Prelude.{slice_get}
use Rattle.laws.specs.Texts.{before}
use Rattle.laws.proofs.Tests.{true-or-false}
use Rattle.capability.specs.declared.PipelineInstructionClass.{PipelineInstructionClass}
use Rattle.capability.specs.contracts.PipelineInstructionClass as class
use Rattle.model.specs.Forecast.{class_by}

-- ── A class ───────────────────────────────────────────────────────────────────

-- The letter's place among the letters is the class's among the classes.
pub class-place : (ps : List (ℕ × PipelineInstructionClass)) (c : ℕ)
    → class_by ps c ≡ slice_get (map (λ (p : ℕ × PipelineInstructionClass). p.1) ps) (length (before c (map (λ (p : ℕ × PipelineInstructionClass). p.0) ps)))
unfolding class_by before
class-place [] c = refl
class-place (p ∷ ps) c =
    ⊎_elim
    (λ e. rw e)
    (λ e. rw e (class-place ps c))
    (true-or-false (eqb p.0 c))
