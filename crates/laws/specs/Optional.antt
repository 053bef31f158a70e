-- What may be missing, besides the library's words on Option.
use Rattle.std.specs.Prelude.{Bool, true, false, Option, None, Some}

module _ {A : Type 0} where
  abbrev pub is_none : Option A → Bool
  is_none None = true
  is_none (Some a) = false

  -- Option::unwrap_or
  abbrev pub value_or : A → Option A → A
  value_or d None = d
  value_or d (Some a) = a

module _ {A B : Type 0} where
  -- Option::map_or
  abbrev pub when_some : Option A → B → (A → B) → B
  when_some None b f = b
  when_some (Some a) b f = f a
