-- What stands at a place of a list of bytes (docs/CALLS.md, Parts). A place is counted from the front of the whole list.
use Rattle.std.specs.Prelude.{ℕ, zero, suc, ◌+◌, ◌*◌, Bool, cond, List, [], ◌∷◌, map, eqb, ltb, get_or, take, drop, Option, None, Some}
use Rattle.laws.specs.Optional.{value_or}
use Rattle.std.specs.List.{list_all}
use Rattle.laws.specs.Texts.{Text}
use Rattle.capability.specs.declared.PipelineInstructionClass.{PipelineInstructionClass}
use Rattle.capability.specs.declared.PipelineInstructionClass.TheVariants.{Unknown}
use Rattle.capability.specs.declared.PipelineStageRole.{PipelineStageRole}
use Rattle.capability.specs.declared.PipelineStageRole.TheVariants.{Other}
use Rattle.capability.specs.Cases.{class_of, role_of}
use Rattle.op.specs.Chars.{shown}

unfoldable pub byte_at : List ℕ → ℕ → ℕ
byte_at l at = get_or l at 0

-- The number that bytes stand for, the lowest first.
unfoldable pub little : List ℕ → ℕ
little [] = 0
little (b ∷ bs) = b + 256 * little bs

unfoldable pub number_at : List ℕ → ℕ → ℕ
number_at l at = little (take 8 (drop at l))

unfoldable pub flag_at : List ℕ → ℕ → Bool
flag_at l at = eqb (byte_at l at) 1

unfoldable pub class_at : List ℕ → ℕ → PipelineInstructionClass
class_at l at = value_or Unknown (class_of (byte_at l at))

unfoldable pub role_at : List ℕ → ℕ → PipelineStageRole
role_at l at = value_or Other (role_of (byte_at l at))

-- A length, and so many bytes at most, of which the first count.
unfoldable pub text_at : ℕ → List ℕ → ℕ → Text
text_at most l at = shown most (byte_at l at) (take most (drop (at + 1) l))

-- A flag, and what counts where it is set.
unfoldable pub optional_at : {A : Type 0} → (List ℕ → ℕ → A) → List ℕ → ℕ → Option A
optional_at f l at = cond (flag_at l at) (Some (f l (at + 1))) None

-- n places, `size` bytes apart.
unfoldable pub places : ℕ → ℕ → ℕ → List ℕ
places size zero at = []
places size (suc n) at = at ∷ places size n (at + size)

-- n parts of one kind, one after the other.
unfoldable pub parts_at : {A : Type 0} → (List ℕ → ℕ → A) → ℕ → ℕ → List ℕ → ℕ → List A
parts_at f size n l at = map (f l) (places size n at)

-- Of n bytes each is below a number: what makes flags (2), classes (10), roles (8), places and fields (5) of their form.
unfoldable pub below : ℕ → ℕ → List ℕ → ℕ → Bool
below most n l at = list_all (λ (b : ℕ). ltb b most) (take n (drop at l))

-- All of these unfold where a line says `unfolding bytewise`.
unfoldable pub bytewise : Unit {0}
unfolding byte_at little number_at flag_at class_at role_at text_at optional_at places parts_at below
bytewise = tt
