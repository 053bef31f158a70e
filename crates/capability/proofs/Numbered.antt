-- Classes and roles are numbered by their places in the lists of all.
use Prim.Native.Nat.{ℕ, zero, suc, ◌+◌, ◌<◌, ◌≤◌}
use mathlib.Core.Path.{◌≡◌, refl}
use Rattle.std.specs.Prelude.{None, Some, slice_get}
use mathlib.Core.List.{List, [], ◌∷◌, map}
use native.Mathlib.Omega.{arith}
use lib.ListN.{length, get_or}
use Rattle.capability.specs.declared.PipelineInstructionClass.{PipelineInstructionClass}
use Rattle.capability.specs.declared.PipelineInstructionClass.TheVariants as class
use Rattle.capability.specs.declared.PipelineStageRole.{PipelineStageRole}
use Rattle.capability.specs.declared.PipelineStageRole.TheVariants as role
use Rattle.capability.specs.Numbers.{class_number, role_number}
use Rattle.capability.specs.Cases.{Numbered, classes, class_of, roles, role_of}

module _ {A : Type 0} where
  -- A place within a list has an element, and one past it has none.
  pub nth-within : (l : List A) (n : ℕ) (d : A) → n < length l → slice_get l n ≡ Some (get_or l n d)
  nth-within [] n d h = absurd (omega arith)
  nth-within (x ∷ l) zero d h = refl
  nth-within (x ∷ l) (suc n) d h = nth-within l n d (omega arith)

  pub nth_past : (l : List A) (n : ℕ) → length l ≤ n → slice_get l n ≡ None
  nth_past [] n h = refl
  nth_past (x ∷ l) zero h = absurd (omega arith)
  nth_past (x ∷ l) (suc n) h = nth_past l n (omega arith)

  nth-below : (l : List A) (n : ℕ) (a : A) → slice_get l n ≡ Some a → n < length l
  nth-below [] n a e = let z : ◌≡◌ {A = ℕ} 0 1 = cc in omega arith
  nth-below (x ∷ l) zero a e = omega arith
  nth-below (x ∷ l) (suc n) a e = let h = nth-below l n a e in omega arith

-- k numbers from i on.
abbrev counting : ℕ → ℕ → List ℕ
counting i zero = []
counting i (suc k) = i ∷ counting (suc i) k

module _ {A : Type 0} (number : A → ℕ) where
  -- Where the elements' numbers count up from i, the one at a place has that number.
  counted : (i : ℕ) (l : List A) (n : ℕ) (a : A) → map number l ≡ counting i (length l) → slice_get l n ≡ Some a → number a ≡ i + n
  counted i [] n a h e = let z : ◌≡◌ {A = ℕ} 0 1 = cc in omega arith
  counted i (x ∷ l) zero a h e = let same : number a ≡ i = cc in omega arith
  counted i (x ∷ l) (suc n) a h e = let up = counted (suc i) l n a (cc) e in omega arith

  numbered : (l : List A) → ((a : A) → slice_get l (number a) ≡ Some a) → map number l ≡ counting 0 (length l) → Numbered number (slice_get l) (length l)
  numbered l at order = record {
    back = at;
    only = λ n a e. let up = counted 0 l n a order e in omega arith;
    below = λ a. nth-below l (number a) a (at a);
    one_to_one = λ a b e. cc (at a, at b);
  }

class_at : (c : PipelineInstructionClass) → slice_get classes (class_number c) ≡ Some c
unfolding class_number
class_at class.Alu = refl
class_at class.Multiply = refl
class_at class.Divide = refl
class_at class.Load = refl
class_at class.Store = refl
class_at class.Branch = refl
class_at class.Jump = refl
class_at class.System = refl
class_at class.FloatingPoint = refl
class_at class.Unknown = refl

-- 10 is PipelineInstructionClass::COUNT.
pub classes-numbered : Numbered class_number class_of 10
unfolding class_number class_of
classes-numbered = numbered class_number classes class_at refl

role_at : (r : PipelineStageRole) → slice_get roles (role_number r) ≡ Some r
unfolding role_number
role_at role.Fetch = refl
role_at role.Decode = refl
role_at role.Issue = refl
role_at role.Execute = refl
role_at role.Memory = refl
role_at role.Writeback = refl
role_at role.Commit = refl
role_at role.Other = refl

pub roles-numbered : Numbered role_number role_of 8
unfolding role_number role_of
roles-numbered = numbered role_number roles role_at refl
