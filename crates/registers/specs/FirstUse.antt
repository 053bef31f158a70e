-- Names stay distinct, and numbers are those of first use.
use Rattle.std.specs.Prelude.{ℕ, ◌<◌, ◌≡◌, List, [], ◌∷◌, ◌++◌, length, Some, slice_get}
use Rattle.laws.specs.Texts.{Text}
use Rattle.model.specs.Registers.{interned, intern, intern_all}
use Rattle.runs.proofs.Names.{Distinct}

-- a stands at place k, and at none before.
pub record First (ns : List Text) (a : Text) (k : ℕ) : Type 0 where
  pub here : slice_get ns k ≡ Some a
  pub before : (j : ℕ) → j < k → slice_get ns j ≡ Some a → ⊥

pub record FirstUse : Type 0 where
  pub distinct : (ns bs : List Text) → Distinct ns → Distinct (intern_all ns bs).names
  -- A name's number is its first place.
  pub first : (ns : List Text) (a : Text) → First (intern ns a).names a (intern ns a).number
  -- A name that is there keeps its number, and nothing changes.
  pub held : (ns : List Text) (a : Text) (k : ℕ) → First ns a k → intern ns a ≡ interned k ns
  -- A new name gets as its number how many there were.
  pub new : (ns : List Text) (a : Text) → ((j : ℕ) → slice_get ns j ≡ Some a → ⊥) → intern ns a ≡ interned (length ns) (ns ++ a ∷ [])
