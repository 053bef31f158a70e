-- The first elements of a list: as many as are asked for, or all.
use Rattle.std.proofs.Common.{◌≡◌, ℕ, ◌<◌, ◌≤◌, min, List, [], ◌∷◌, length, get_or, take, sym, refl, ap, ◌∙◌, ⊎_elim, arith, take_all}
use Rattle.laws.proofs.Tests.{lt-or-ge}

module _ {A : Type 0} (l : List A) (n : ℕ) {k : ℕ} (e : k ≡ min n (length l)) where
  pub take-least : take k l ≡ take n l
  take-least = ⊎_elim within past (lt-or-ge n (length l))
    where
      within : n < length l → take k l ≡ take n l
      within h = let q : k ≡ n = omega arith in ap (λ j. take j l) q

      past : length l ≤ n → take k l ≡ take n l
      past h = take_all k l (omega arith) ∙ sym (take_all n l h)

-- A list of four, by its places.
pub four : {A : Type 0} (l : List A) (d : A) → length l ≡ 4 → l ≡ get_or l 0 d ∷ get_or l 1 d ∷ get_or l 2 d ∷ get_or l 3 d ∷ []
four [] d h = absurd (let z : ⊥ = omega arith in z)
four (a ∷ []) d h = absurd (let z : ⊥ = omega arith in z)
four (a ∷ b ∷ []) d h = absurd (let z : ⊥ = omega arith in z)
four (a ∷ b ∷ c ∷ []) d h = absurd (let z : ⊥ = omega arith in z)
four (a ∷ b ∷ c ∷ e ∷ []) d h = refl
four (a ∷ b ∷ c ∷ e ∷ f ∷ l) d h = absurd (let z : ⊥ = omega arith in z)
