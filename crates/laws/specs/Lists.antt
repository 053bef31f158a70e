-- Lists: searched from the front, a place in one counted from 0.
use Rattle.std.specs.Prelude.{ℕ, zero, suc, ◌+◌, Bool, true, false, cond, ◌||◌, List, [], ◌∷◌, ◌++◌, eqb, Option, None, Some}
use Rattle.std.specs.Option.{option_or}
use Rattle.std.specs.List.{list_any}

-- P holds of each element.
abbrev pub All : {A : Type 0} → (A → Type 0) → List A → Type 0
All P [] = Unit {0}
All P (x ∷ xs) = P x × All P xs

-- r holds of each pair of elements that stand at one place, and the lists are equally long.
pub data All2 {A B : Type 0} (r : A → B → Type 0) : List A → List B → Type 0 where
  none2 : All2 r [] []
  more2 : {a : A} {b : B} {as' : List A} {bs : List B} → r a b → All2 r as' bs → All2 r (a ∷ as') (b ∷ bs)

module _ {A : Type 0} where
  unfoldable pub head : List A → Option A
  head [] = None
  head (x ∷ xs) = Some x

  -- All but the first.
  unfoldable pub rest : List A → List A
  rest [] = []
  rest (x ∷ xs) = xs

  unfoldable pub is_empty : List A → Bool
  is_empty [] = true
  is_empty (x ∷ xs) = false

  unfoldable pub count : (A → Bool) → List A → ℕ
  count p [] = 0
  count p (x ∷ xs) = cond (p x) 1 0 + count p xs

  -- Those that pass, in order.
  unfoldable pub keep : (A → Bool) → List A → List A
  keep p [] = []
  keep p (x ∷ xs) = cond (p x) (x ∷ []) [] ++ keep p xs

  -- One element, changed at its place.
  unfoldable pub modify : ℕ → (A → A) → List A → List A
  modify n f [] = []
  modify zero f (x ∷ xs) = f x ∷ xs
  modify (suc n) f (x ∷ xs) = x ∷ modify n f xs

  -- The first place, counted from i, whose place and element pass.
  unfoldable pub find_at : (ℕ → A → Bool) → ℕ → List A → Option ℕ
  find_at p i [] = None
  find_at p i (x ∷ xs) = option_or (cond (p i x) (Some i) None) (find_at p (suc i) xs)

  -- A place and its element pass.
  unfoldable pub any_at : (ℕ → A → Bool) → ℕ → List A → Bool
  any_at p i [] = false
  any_at p i (x ∷ xs) = p i x || any_at p (suc i) xs

module _ {A B : Type 0} where
  -- f at each place, counted from i, and its element: the results in a row.
  unfoldable pub each_at : (ℕ → A → List B) → ℕ → List A → List B
  each_at f i [] = []
  each_at f i (x ∷ xs) = f i x ++ each_at f (suc i) xs

-- Is a number in a list?
abbrev pub elem : ℕ → List ℕ → Bool
elem n xs = list_any (eqb n) xs

-- All of these unfold where a line says `unfolding lists`.
unfoldable pub lists : Unit {0}
unfolding head rest is_empty count keep modify find_at any_at each_at
lists = tt
