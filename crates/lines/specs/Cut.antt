-- Where a text is cut at a byte.
use Rattle.std.specs.Prelude.{ℕ, ◌+◌, ◌≤◌, ◌≡◌, eqb, ltb, length, take, drop}
use Rattle.std.specs.List.{list_any}
use Rattle.laws.specs.Texts.{Text, before, beyond}

-- The first byte b of t stands at i; i is the length where there is none.
pub record Cut (b : ℕ) (t : Text) (i : ℕ) : Type 0 where
  pub most : i ≤ length t
  pub front : take i t ≡ before b t
  pub back : drop (i + 1) t ≡ beyond b t
  pub there : list_any (eqb b) t ≡ ltb i (length t)
