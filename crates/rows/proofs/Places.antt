-- Lists: the element at a place, and a list without its first.
use Prim.Native.Nat.{ℕ, zero, suc, ◌+◌, ◌-◌, ◌≤◌, ◌<◌}
use native.Mathlib.Omega.{arith}
use mathlib.Core.Path.{◌≡◌, refl, ap}
use Rattle.std.specs.Prelude.{None, Some, slice_get}
use mathlib.Core.List.{List, [], ◌∷◌, ◌++◌, map}
use lib.ListN.{length, drop}
use Rattle.laws.specs.Lists.{All, rest}
use Rattle.laws.proofs.Choices.{none-some}

module _ {A : Type 0} where
  pub nth_left : (xs ys : List A) (n : ℕ) → n < length xs → slice_get (xs ++ ys) n ≡ slice_get xs n
  nth_left [] ys n l = absurd (omega arith)
  nth_left (x ∷ xs) ys zero l = refl
  nth_left (x ∷ xs) ys (suc n) l = nth_left xs ys n (omega arith)

  pub nth_last : (xs : List A) (y : A) (n : ℕ) → n ≡ length xs → slice_get (xs ++ (y ∷ [])) n ≡ Some y
  nth_last [] y zero e = refl
  nth_last [] y (suc n) e = absurd (omega arith)
  nth_last (x ∷ xs) y zero e = absurd (omega arith)
  nth_last (x ∷ xs) y (suc n) e = nth_last xs y n (omega arith)

  pub nth_past : (xs : List A) (n : ℕ) → length xs ≤ n → slice_get xs n ≡ None
  nth_past [] n l = refl
  nth_past (x ∷ xs) zero l = absurd (omega arith)
  nth_past (x ∷ xs) (suc n) l = nth_past xs n (omega arith)

  pub nth-below : (xs : List A) (n : ℕ) (x : A) → slice_get xs n ≡ Some x → n < length xs
  nth-below [] n x e = none-some x e
  nth-below (y ∷ xs) zero x e = omega arith
  nth-below (y ∷ xs) (suc n) x e = let l = nth-below xs n x e in omega arith

  pub nth_drop : (n p q : ℕ) (l : List A) → q ≡ n + p → slice_get (drop n l) p ≡ slice_get l q
  nth_drop zero p q l e = ap (λ (k : ℕ). slice_get l k) (omega arith)
  nth_drop (suc n) p q [] e = refl
  nth_drop (suc n) p zero (x ∷ l) e = absurd (omega arith)
  nth_drop (suc n) p (suc q) (x ∷ l) e = nth_drop n p q l (omega arith)

  pub nth-rest : (xs : List A) (n : ℕ) → slice_get (rest xs) n ≡ slice_get xs (suc n)
  unfolding rest
  nth-rest [] n = refl
  nth-rest (x ∷ xs) n = refl

  pub length_rest : (xs : List A) → length (rest xs) ≡ length xs - 1
  unfolding rest
  length_rest [] = refl
  length_rest (x ∷ xs) = omega arith

  pub rest-drop : (xs : List A) → rest xs ≡ drop 1 xs
  unfolding rest
  rest-drop [] = refl
  rest-drop (x ∷ xs) = refl

  pub map-rest : {B : Type 0} (e : A → B) (xs : List A) → map e (rest xs) ≡ rest (map e xs)
  unfolding rest
  map-rest e [] = refl
  map-rest e (x ∷ xs) = refl

  pub all_rest : (P : A → Type 0) (xs : List A) → All P xs → All P (rest xs)
  unfolding rest
  all_rest P [] p = tt
  all_rest P (x ∷ xs) p = p.1
