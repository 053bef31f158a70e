-- The bytes of a part (docs/CALLS.md, Parts). Bytes that do not count are 0.
use Rattle.std.specs.Prelude.{ℕ, zero, suc, ◌-◌, ◌/◌, ◌%◌, Bool, cond, length, replicate}
use Rattle.std.specs.Prelude.{Option}
use mathlib.Core.List.{List, [], ◌∷◌, ◌++◌, map, flatten}
use Rattle.laws.specs.Optional.{value_or}
use Rattle.std.specs.Prelude.{is_some}
use Rattle.laws.specs.Texts.{Text}
use Rattle.capability.specs.declared.PipelineInstructionClass.{PipelineInstructionClass}
use Rattle.capability.specs.declared.PipelineStageRole.{PipelineStageRole}
use Rattle.capability.specs.Numbers.{class_number, role_number}

abbrev pub byte : ℕ → List ℕ
byte n = n ∷ []

-- The k lowest bytes, the lowest first.
unfoldable pub low_bytes : ℕ → ℕ → List ℕ
low_bytes zero n = []
low_bytes (suc k) n = n % 256 ∷ low_bytes k (n / 256)

unfoldable pub number_bytes : ℕ → List ℕ
number_bytes n = low_bytes 8 n

unfoldable pub flag_bytes : Bool → List ℕ
flag_bytes b = byte (cond b 1 0)

unfoldable pub class_bytes : PipelineInstructionClass → List ℕ
class_bytes c = byte (class_number c)

unfoldable pub role_bytes : PipelineStageRole → List ℕ
role_bytes r = byte (role_number r)

-- `most` entries: those there are, and then spare ones.
unfoldable pub filled : {A : Type 0} → ℕ → A → List A → List A
filled most spare l = l ++ replicate (most - length l) spare

-- A length, and `most` bytes.
unfoldable pub text_bytes : ℕ → Text → List ℕ
text_bytes most t = length t ∷ filled most 0 t

-- A flag, and the part, or else the spare one.
unfoldable pub optional_bytes : {A : Type 0} → (A → List ℕ) → A → Option A → List ℕ
optional_bytes f spare o = flag_bytes (is_some o) ++ f (value_or spare o)

-- `most` parts of one kind, one after the other.
unfoldable pub parts_bytes : {A : Type 0} → (A → List ℕ) → ℕ → A → List A → List ℕ
parts_bytes f most spare l = flatten (map f (filled most spare l))
