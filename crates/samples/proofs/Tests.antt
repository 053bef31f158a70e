-- A test that gives true at each element gives true over the list.
use mathlib.Core.Path.{◌≡◌, refl}
use mathlib.Core.Bool.{Bool, true}
use mathlib.Core.List.{List, [], ◌∷◌}
use Rattle.laws.specs.Lists.{All}
use Rattle.std.specs.List.{list_all}

module _ {A : Type 0} (p : A → Bool) where
  pub all_true : (l : List A) → All (λ (a : A). p a ≡ true) l → list_all p l ≡ true
  all_true [] h = refl
  all_true (x ∷ xs) h = rw h.0 (all_true xs h.1)
