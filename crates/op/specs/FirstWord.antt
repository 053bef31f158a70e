-- What the first word of a text is.
use Rattle.std.specs.Prelude.{◌≡◌, ℕ, not, List, [], ◌∷◌, ◌++◌}
use Rattle.laws.specs.Optional.{value_or}
use Rattle.laws.specs.Lists.{All, head, is_empty, keep}
use Rattle.laws.specs.Texts.{Text, bytes, pieces}
use Rattle.model.specs.Op.{skip_spaces, to_space, first_word}

-- The word, or another text where there is none.
unfoldable pub or_text : Text → Text → Text
or_text other [] = other
or_text other (x ∷ xs) = x ∷ xs

unfoldable pub word_or : Text → Text → Text
word_or other t = or_text other (to_space (skip_spaces t))

-- ── By its place: after the leading spaces, up to the next space or the end ───

abbrev pub space : ℕ → Type 0
space b = b ≡ 32

abbrev pub AtSpace : Text → Type 0
AtSpace [] = Unit {0}
AtSpace (b ∷ bs) = space b

pub record IsFirstWord (t w : Text) : Type 0 where
  pub spaces : Text
  pub rest : Text
  pub parts : t ≡ spaces ++ (w ++ rest)
  pub before : All space spaces
  pub inside : All (λ (b : ℕ). space b → ⊥) w
  pub after : AtSpace rest
  -- Without a word all of the text is spaces.
  pub empty : w ≡ [] → t ≡ spaces

-- ── By splitting: str::split_whitespace ───────────────────────────────────────

unfoldable pub split_whitespace : Text → List Text
split_whitespace t = keep (λ (p : Text). not (is_empty p)) (pieces 32 t)

-- ── What holds of every text ──────────────────────────────────────────────────

pub record FirstWords : Type 0 where
  -- What the scans find stands there, and nothing else does.
  pub placed : (t : Text) → IsFirstWord t (to_space (skip_spaces t))
  pub only : (t w : Text) → IsFirstWord t w → w ≡ to_space (skip_spaces t)
  -- split_whitespace().next().unwrap_or("?")
  pub split : (t : Text) → first_word t ≡ value_or (bytes "?") (head (split_whitespace t))
  -- The word of a text to which "?" is lent.
  pub lent : (t : Text) → word_or (bytes "?") t ≡ first_word t
