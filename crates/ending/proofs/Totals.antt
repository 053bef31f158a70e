-- The sum of a number for each element of a list, after a change of the elements.
use Prim.Native.Nat.{ℕ, zero, suc, ◌+◌, ◌≤◌, ◌<◌}
use native.Mathlib.Omega.{arith}
use mathlib.Core.Path.{◌≡◌, refl, ap}
use Rattle.std.specs.Prelude.{Some, slice_get}
use mathlib.Core.List.{List, [], ◌∷◌, ◌++◌, map}
use Rattle.laws.specs.Lists.{modify}
use Rattle.laws.proofs.Choices.{none-some, some_inj}

module _ {A : Type 0} (w : A → ℕ) where
  unfoldable pub total : List A → ℕ
  total [] = 0
  total (x ∷ xs) = w x + total xs

  pub total-append : (xs ys : List A) → total (xs ++ ys) ≡ total xs + total ys
  unfolding total
  total-append [] ys = omega arith
  total-append (x ∷ xs) ys = let e = total-append xs ys in omega arith

  pub total-map : (f : A → A) → ((x : A) → w (f x) ≤ w x) → (xs : List A) → total (map f xs) ≤ total xs
  unfolding total
  total-map f h [] = omega arith
  total-map f h (x ∷ xs) = omega (arith, h x, total-map f h xs)

  pub total-map-less
      : (f : A → A) → ((x : A) → w (f x) ≤ w x) → (xs : List A) (i : ℕ) (a : A) → slice_get xs i ≡ Some a → w (f a) < w a
      → total (map f xs) < total xs
  unfolding total
  total-map-less f h [] i a e l = none-some a e
  total-map-less f h (x ∷ xs) zero a e l =
      let q : w x ≡ w a = ap w (some_inj x a e) in
      let r : w (f x) ≡ w (f a) = ap (λ (y : A). w (f y)) (some_inj x a e) in
      omega (arith, q, r, l, total-map f h xs)
  total-map-less f h (x ∷ xs) (suc i) a e l = omega (arith, h x, total-map-less f h xs i a e l)

  pub total-map-same : (f : A → A) → ((x : A) → w (f x) ≡ w x) → (xs : List A) → total (map f xs) ≡ total xs
  unfolding total
  total-map-same f h [] = refl
  total-map-same f h (x ∷ xs) = omega (arith, h x, total-map-same f h xs)

  pub total-modify : (f : A → A) → ((x : A) → w (f x) ≤ w x) → (i : ℕ) (xs : List A) → total (modify i f xs) ≤ total xs
  unfolding modify total
  total-modify f h i [] = omega arith
  total-modify f h zero (x ∷ xs) = omega (arith, h x)
  total-modify f h (suc i) (x ∷ xs) = omega (arith, total-modify f h i xs)

  pub total-modify-same : (f : A → A) → ((x : A) → w (f x) ≡ w x) → (i : ℕ) (xs : List A) → total (modify i f xs) ≡ total xs
  unfolding modify total
  total-modify-same f h i [] = refl
  total-modify-same f h zero (x ∷ xs) = omega (arith, h x)
  total-modify-same f h (suc i) (x ∷ xs) = omega (arith, total-modify-same f h i xs)

  pub total-modify-most
      : (f : A → A) (b : ℕ) → ((x : A) → w (f x) ≤ b) → (i : ℕ) (xs : List A) → total (modify i f xs) ≤ b + total xs
  unfolding modify total
  total-modify-most f b h i [] = omega arith
  total-modify-most f b h zero (x ∷ xs) = omega (arith, h x)
  total-modify-most f b h (suc i) (x ∷ xs) = omega (arith, total-modify-most f b h i xs)

  -- One element is changed, whatever it becomes.
  pub total-modify-at
      : (f : A → A) (i : ℕ) (xs : List A) (a : A) → slice_get xs i ≡ Some a → total (modify i f xs) + w a ≡ total xs + w (f a)
  unfolding modify total
  total-modify-at f i [] a e = none-some a e
  total-modify-at f zero (x ∷ xs) a e =
      let q : w x ≡ w a = ap w (some_inj x a e) in
      let r : w (f x) ≡ w (f a) = ap (λ (y : A). w (f y)) (some_inj x a e) in
      omega (arith, q, r)
  total-modify-at f (suc i) (x ∷ xs) a e = omega (arith, total-modify-at f i xs a e)

  pub total-zero : (xs : List A) → ((i : ℕ) (a : A) → slice_get xs i ≡ Some a → w a ≡ 0) → total xs ≡ 0
  unfolding total
  total-zero [] h = refl
  total-zero (x ∷ xs) h = omega (arith, h 0 x refl, total-zero xs (λ i a e. h (suc i) a e))
