-- How searches and changes of a list go with `map e`.
use Prim.Native.Nat.{ℕ, zero, suc, ◌+◌}
use mathlib.Core.Path.{◌≡◌, refl, sym, ◌∙◌, ap, ap₂}
use mathlib.Core.Bool.{Bool, true, false, cond, ◌||◌}
use Rattle.std.specs.Prelude.{None, Some, slice_get, option_map}
use mathlib.Core.List.{List, [], ◌∷◌, ◌++◌, map}
use lib.ListN.{length, drop}
use Rattle.laws.specs.Lists.{any_at, count, find_at, is_empty, keep, modify}
use Rattle.std.specs.List.{list_any}
use Rattle.std.specs.Option.{option_or}

module _ {A B : Type 0} (e : A → B) where
  pub map-append : (xs ys : List A) → map e (xs ++ ys) ≡ map e xs ++ map e ys
  map-append [] ys = refl
  map-append (x ∷ xs) ys = ap (λ (l : List B). e x ∷ l) (map-append xs ys)

  pub length-of : (xs : List A) → length (map e xs) ≡ length xs
  length-of [] = refl
  length-of (x ∷ xs) = ap suc (length-of xs)

  pub map-drop : (n : ℕ) (xs : List A) → map e (drop n xs) ≡ drop n (map e xs)
  map-drop zero xs = refl
  map-drop (suc n) [] = refl
  map-drop (suc n) (x ∷ xs) = map-drop n xs

  pub nth-map : (xs : List A) (n : ℕ) → slice_get (map e xs) n ≡ option_map e (slice_get xs n)
  nth-map [] n = refl
  nth-map (x ∷ xs) zero = refl
  nth-map (x ∷ xs) (suc n) = nth-map xs n

  pub empty-map : (xs : List A) → is_empty (map e xs) ≡ is_empty xs
  unfolding is_empty
  empty-map [] = refl
  empty-map (x ∷ xs) = refl

  module _ (p : A → Bool) (q : B → Bool) (pq : (x : A) → q (e x) ≡ p x) where
    pub any-map : (xs : List A) → list_any q (map e xs) ≡ list_any p xs
    any-map [] = refl
    any-map (x ∷ xs) = ap₂ ◌||◌ (pq x) (any-map xs)

    pub count_map : (xs : List A) → count q (map e xs) ≡ count p xs
    unfolding count
    count_map [] = refl
    count_map (x ∷ xs) = ap₂ ◌+◌ (ap (λ (b : Bool). cond b 1 0) (pq x)) (count_map xs)

    pub keep-map : (xs : List A) → keep q (map e xs) ≡ map e (keep p xs)
    unfolding keep
    keep-map [] = refl
    keep-map (x ∷ xs) = rw (pq x, keep-map xs) (picks (p x))
      where
        picks : (b : Bool) → cond b (e x ∷ []) [] ++ map e (keep p xs) ≡ map e (cond b (x ∷ []) [] ++ keep p xs)
        picks true = refl
        picks false = refl

  module _ (p : ℕ → A → Bool) (q : ℕ → B → Bool) (pq : (i : ℕ) (x : A) → q i (e x) ≡ p i x) where
    pub find-map : (i : ℕ) (xs : List A) → find_at q i (map e xs) ≡ find_at p i xs
    unfolding find_at
    find-map i [] = refl
    find-map i (x ∷ xs) = ap₂ option_or (ap (λ (b : Bool). cond b (Some i) None) (pq i x)) (find-map (suc i) xs)

    pub any-at-map : (i : ℕ) (xs : List A) → any_at q i (map e xs) ≡ any_at p i xs
    unfolding any_at
    any-at-map i [] = refl
    any-at-map i (x ∷ xs) = ap₂ ◌||◌ (pq i x) (any-at-map (suc i) xs)

  pub modify-map : (f : A → A) (g : B → B) → ((x : A) → e (f x) ≡ g (e x)) → (i : ℕ) (xs : List A) → map e (modify i f xs) ≡ modify i g (map e xs)
  unfolding modify
  modify-map f g fg i [] = refl
  modify-map f g fg zero (x ∷ xs) = ap (λ (y : B). y ∷ map e xs) (fg x)
  modify-map f g fg (suc i) (x ∷ xs) = ap (λ (l : List B). e x ∷ l) (modify-map f g fg i xs)

module _ {A B C : Type 0} where
  -- One function after another, by a rule at each element.
  pub map-swap : {D : Type 0} (e : A → B) (f : A → C) (g : B → D) (h : C → D) → ((x : A) → g (e x) ≡ h (f x)) → (xs : List A) → map g (map e xs) ≡ map h (map f xs)
  map-swap e f g h r [] = refl
  map-swap {D} e f g h r (x ∷ xs) = ap₂ {B = List D} ◌∷◌ (r x) (map-swap e f g h r xs)

-- A function that sees of a list only its image under d or e.
pub sees-only {κ}
    : {A B : Type 0} {C : Type κ} (d e : A → B) (f : List A → C) (g : List B → C) → ((xs : List A) → g (map d xs) ≡ f xs)
    → ((xs : List A) → g (map e xs) ≡ f xs) → (xs ys : List A) → map d xs ≡ map e ys → f xs ≡ f ys
sees-only d e f g p q xs ys h = sym (p xs) ∙ ap g h ∙ q ys
