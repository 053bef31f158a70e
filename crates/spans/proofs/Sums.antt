-- Sums of a number for each element of a list, by what the elements are.
use Prim.Native.Nat.{ℕ, zero, suc, ◌+◌, ◌*◌, ◌≤◌, ◌<◌}
use native.Mathlib.Omega.{arith}
use mathlib.Core.Path.{◌≡◌, refl, ap}
use mathlib.Core.Bool.{Bool, true, false, cond}
use Rattle.std.specs.Prelude.{Some, slice_get}
use mathlib.Core.List.{List, [], ◌∷◌, ◌++◌, map}
use mathlib.Core.Logic.{◌⊎◌, inl, inr}
use lib.ListN.{length}
use Rattle.laws.specs.Lists.{All, keep, lists}
use Rattle.laws.proofs.Tests.{lt-or-ge}
use Rattle.ending.proofs.Totals.{total, total-zero}

module _ {A : Type 0} (w : A → ℕ) where
  pub total-some : (xs : List A) → 0 < total w xs → (i : ℕ) × (a : A) × (slice_get xs i ≡ Some a) × (0 < w a)
  unfolding total lists
  total-some [] l = absurd (omega (arith, l))
  total-some (x ∷ xs) l = go (lt-or-ge 0 (w x)) (total-some xs)
    where
      go
          : (0 < w x) ⊎ (w x ≤ 0) → (0 < total w xs → (i : ℕ) × (a : A) × (slice_get xs i ≡ Some a) × (0 < w a))
          → (i : ℕ) × (a : A) × (slice_get (x ∷ xs) i ≡ Some a) × (0 < w a)
      go (inl y) ih = (0, x, refl, y)
      go (inr y) ih = let z = ih (omega (arith, l, y)) in (suc z.0, z.1, z.2, z.3)

  pub total-once
      : ((x : A) → w x ≤ 1) → (xs : List A)
      → ((i j : ℕ) (a b : A) → slice_get xs i ≡ Some a → slice_get xs j ≡ Some b → 0 < w a → 0 < w b → i ≡ j) → total w xs ≤ 1
  unfolding total lists
  total-once f [] h = omega arith
  total-once f (x ∷ xs) h = go (lt-or-ge 0 (w x)) (total-once f xs (λ i j a b p q y z. ap pred (h (suc i) (suc j) a b p q y z)))
    where
      pred : ℕ → ℕ
      pred zero = zero
      pred (suc n) = n

      go : (0 < w x) ⊎ (w x ≤ 0) → total w xs ≤ 1 → w x + total w xs ≤ 1
      go (inr y) ih = omega (arith, y, ih)
      go (inl y) ih = omega (arith, f x, total-zero w xs (λ i a e. none_more i a e (lt-or-ge 0 (w a))))
        where
          none_more : (i : ℕ) (a : A) → slice_get xs i ≡ Some a → (0 < w a) ⊎ (w a ≤ 0) → w a ≡ 0
          none_more i a e (inl z) = let n = h 0 (suc i) x a refl e y z in absurd (omega (arith, n))
          none_more i a e (inr z) = omega (arith, z)

  pub total-below : (v : A → ℕ) (P : A → Type 0) → ((x : A) → P x → w x ≤ v x) → (xs : List A) → All P xs → total w xs ≤ total v xs
  unfolding total
  total-below v P f [] h = omega arith
  total-below v P f (x ∷ xs) h = omega (arith, f x h.0, total-below v P f xs h.1)

-- Each element at most b.
pub total-few
    : {A : Type 0} (w : A → ℕ) (b : ℕ) (P : A → Type 0) → ((x : A) → P x → w x ≤ b) → (xs : List A) → All P xs → total w xs ≤ b * length xs
unfolding total
total-few w b P f [] h = omega arith
total-few w b P f (x ∷ xs) h = omega (arith, f x h.0, total-few w b P f xs h.1)

pub total_of : {A B : Type 0} (w : B → ℕ) (f : A → B) (xs : List A) → total w (map f xs) ≡ total (λ (x : A). w (f x)) xs
unfolding total
total_of w f [] = refl
total_of w f (x ∷ xs) = ap (λ (n : ℕ). w (f x) + n) (total_of w f xs)

pub total_kept
    : {A : Type 0} (w : A → ℕ) (q : A → Bool) (xs : List A) → total w (keep q xs) ≡ total (λ (x : A). cond (q x) (w x) 0) xs
unfolding total lists
total_kept w q [] = refl
total_kept {A} w q (x ∷ xs) = go (q x) (total_kept w q xs)
  where
    go
        : (b : Bool) → total w (keep q xs) ≡ total (λ (x : A). cond (q x) (w x) 0) xs
        → total w (cond b (x ∷ []) [] ++ keep q xs) ≡ cond b (w x) 0 + total (λ (x : A). cond (q x) (w x) 0) xs
    go true e = ap (λ (n : ℕ). w x + n) e
    go false e = omega (arith, e)
