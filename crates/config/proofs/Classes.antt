-- Classes as flags: what the list of those whose flag is set answers.
use Prim.Native.Nat.{◌<◌}
use mathlib.Core.Path.{◌≡◌, refl, sym, ap, ◌∙◌}
use mathlib.Core.Bool.{Bool, true, false, cond, not, ◌&&◌, ◌||◌, and-true, and-false, or-false}
use mathlib.Core.List.{List, [], ◌∷◌, ◌++◌}
use native.Mathlib.Omega.{arith}
use lib.ListN.{length, replicate, get_or-replicate}
use Rattle.laws.specs.Lists.{is_empty, keep}
use Rattle.std.specs.List.{list_any, list_all}
use Rattle.laws.proofs.Tests.{or-next, or_yes}
use Rattle.capability.specs.declared.PipelineInstructionClass.{PipelineInstructionClass}
use Rattle.capability.specs.declared.PipelineInstructionClass.TheVariants as class
use Rattle.capability.specs.Numbers.{class_number}
use Rattle.capability.specs.Cases.{classes}
use Rattle.capability.proofs.Numbered.{classes-numbered}
use Rattle.model.specs.Config.{same_class, UnitSpec, handles}
use Rattle.config.specs.declared.UnitSpec.{UnitSpec as DeclaredUnit}
use Rattle.config.specs.View.{flag, flagged, view_unit_spec}

module _ {A : Type 0} (p : A → Bool) where
  any-keep : (q : A → Bool) (l : List A) → list_any q (keep p l) ≡ list_any (λ x. q x && p x) l
  unfolding keep
  any-keep q [] = refl
  any-keep q (x ∷ l) = one (p x) ∙ ap (λ t. (q x && p x) || t) (any-keep q l)
    where
      one : (b : Bool) → list_any q (cond b (x ∷ []) [] ++ keep p l) ≡ ((q x && b) || list_any q (keep p l))
      one true = ap (λ t. t || list_any q (keep p l)) (sym (and-true (q x)))
      one false = ap (λ t. t || list_any q (keep p l)) (sym (and-false (q x)))

  empty-keep : (l : List A) → is_empty (keep p l) ≡ list_all (λ x. not (p x)) l
  unfolding keep is_empty
  empty-keep [] = refl
  empty-keep (x ∷ l) = one (p x) ∙ ap (λ t. not (p x) && t) (empty-keep l)
    where
      one : (b : Bool) → is_empty (cond b (x ∷ []) [] ++ keep p l) ≡ (not b && is_empty (keep p l))
      one true = refl
      one false = refl

-- One class among all.
class-among : (p : PipelineInstructionClass → Bool) (c : PipelineInstructionClass) → list_any (λ x. same_class c x && p x) classes ≡ p c
unfolding same_class class_number
class-among p class.Alu = or-false _
class-among p class.Multiply = or-false _
class-among p class.Divide = or-false _
class-among p class.Load = or-false _
class-among p class.Store = or-false _
class-among p class.Branch = or-false _
class-among p class.Jump = or-false _
class-among p class.System = or-false _
class-among p class.FloatingPoint = or-false _
class-among p class.Unknown = or-false _

pub class_below : (c : PipelineInstructionClass) → class_number c < 10
class_below c = classes-numbered.below c

-- No flag is set.
pub none_listed : (flags : List Bool) → length flags ≡ 10 → list_all not flags ≡ is_empty (flagged flags)
unfolding flagged flag class_number keep is_empty
none_listed (a ∷ b ∷ c ∷ d ∷ e ∷ f ∷ g ∷ h ∷ i ∷ j ∷ []) n = sym (empty-keep (flag (a ∷ b ∷ c ∷ d ∷ e ∷ f ∷ g ∷ h ∷ i ∷ j ∷ [])) classes)
none_listed l n = absurd (let z : ⊥ = omega arith in z)

module _ (flags : List Bool) where
  pub flagged-has : (c : PipelineInstructionClass) → list_any (same_class c) (flagged flags) ≡ flag flags c
  unfolding flagged
  flagged-has c = any-keep (flag flags) (same_class c) classes ∙ class-among (flag flags) c

  -- A kind with these classes.
  module _ (k : UnitSpec) (e : k.classes ≡ flagged flags) (c : PipelineInstructionClass) where
    pub takes-every : is_empty (flagged flags) ≡ true → handles c k ≡ true
    unfolding handles
    takes-every h = or_yes _ (ap is_empty e ∙ h)

    pub takes-flagged : is_empty (flagged flags) ≡ false → handles c k ≡ flag flags c
    unfolding handles
    takes-flagged h = or-next _ (ap is_empty e ∙ h) ∙ ap (list_any (same_class c)) e ∙ flagged-has c

-- A declared kind with no class listed takes each, and another those whose flag is set.
module _ (u : DeclaredUnit) (c : PipelineInstructionClass) where
  pub takes_each : is_empty (flagged u.classes) ≡ true → handles c (view_unit_spec u) ≡ true
  unfolding view_unit_spec
  takes_each h = takes-every u.classes (view_unit_spec u) refl c h

  pub takes_flagged : is_empty (flagged u.classes) ≡ false → handles c (view_unit_spec u) ≡ flag u.classes c
  unfolding view_unit_spec
  takes_flagged h = takes-flagged u.classes (view_unit_spec u) refl c h

pub flag-set : (c : PipelineInstructionClass) → flag (replicate 10 true) c ≡ true
unfolding flag
flag-set c = get_or-replicate 10 (class_number c) true false (classes-numbered.below c)

pub empty-is : {A : Type 0} (l : List A) → is_empty l ≡ true → l ≡ []
unfolding is_empty
empty-is [] e = refl
empty-is (x ∷ l) e = cc
