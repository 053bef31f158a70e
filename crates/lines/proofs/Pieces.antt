-- The pieces of a text: the first, and those of what stands beyond it.
use Prim.Native.Nat.{ℕ}
use mathlib.Core.Path.{◌≡◌, refl, sym, ap, ap₂, ◌∙◌}
use mathlib.Core.Logic.{⊎_elim}
use mathlib.Core.Bool.{true, false}
use mathlib.Core.List.{[], ◌∷◌}
use native.Mathlib.Omega.{arith}
use lib.Dec.{eqb}
use borrow.Author.Tests.{eqb-true, eqb-false, eq-eqb, ne_eqb}
use Rattle.std.specs.List.{list_any}
use Rattle.laws.specs.Texts.{Text, before, beyond, onto_first, pieces}
use Rattle.laws.proofs.Tests.{cond-eq, cond-ne, true-or-false}
use Rattle.laws.proofs.Search.{any-hit, any-miss}
use Rattle.lines.proofs.Cut.{before-hit, before-miss, beyond-hit, beyond-miss}

module _ {b x : ℕ} where
  pieces-hit : x ≡ b → (xs : Text) → pieces b (x ∷ xs) ≡ [] ∷ pieces b xs
  unfolding pieces
  pieces-hit h xs = cond-eq _ _ h

  pieces-miss : (x ≡ b → ⊥) → (xs : Text) → pieces b (x ∷ xs) ≡ onto_first x (pieces b xs)
  unfolding pieces
  pieces-miss h xs = cond-ne _ _ h

  by_byte : {P : Type 0} → (x ≡ b → P) → ((x ≡ b → ⊥) → P) → P
  by_byte hit miss = ⊎_elim (λ e. hit (eqb-true x b e)) (λ e. miss (eqb-false x b e)) (true-or-false (eqb x b))

pub pieces-there : (b : ℕ) (t : Text) → list_any (eqb b) t ≡ true → pieces b t ≡ before b t ∷ pieces b (beyond b t)
unfolding onto_first
pieces-there b [] h = absurd (let z : ◌≡◌ {A = ℕ} 0 1 = cc in omega arith)
pieces-there b (x ∷ xs) h = by_byte hit (miss (pieces-there b xs))
  where
    hit : x ≡ b → pieces b (x ∷ xs) ≡ before b (x ∷ xs) ∷ pieces b (beyond b (x ∷ xs))
    hit q = pieces-hit q xs ∙ sym (ap₂ (λ u v. u ∷ pieces b v) (before-hit q xs) (beyond-hit q xs))

    miss : (list_any (eqb b) xs ≡ true → pieces b xs ≡ before b xs ∷ pieces b (beyond b xs)) → (x ≡ b → ⊥)
        → pieces b (x ∷ xs) ≡ before b (x ∷ xs) ∷ pieces b (beyond b (x ∷ xs))
    miss f q =
        let k = sym (any-miss (eqb b) (ne_eqb b x (λ p. q (sym p))) xs) ∙ h in
        pieces-miss q xs ∙ ap (onto_first x) (f k) ∙ sym (ap₂ (λ u v. u ∷ pieces b v) (before-miss q xs) (beyond-miss q xs))

pub pieces-nowhere : (b : ℕ) (t : Text) → list_any (eqb b) t ≡ false → pieces b t ≡ before b t ∷ []
unfolding onto_first pieces before
pieces-nowhere b [] h = refl
pieces-nowhere b (x ∷ xs) h = by_byte hit (miss (pieces-nowhere b xs))
  where
    hit : x ≡ b → pieces b (x ∷ xs) ≡ before b (x ∷ xs) ∷ []
    hit q = absurd (let z : ◌≡◌ {A = ℕ} 0 1 = cc (any-hit (eqb b) (eq-eqb b x (sym q)) xs) in omega arith)

    miss : (list_any (eqb b) xs ≡ false → pieces b xs ≡ before b xs ∷ []) → (x ≡ b → ⊥) → pieces b (x ∷ xs) ≡ before b (x ∷ xs) ∷ []
    miss f q =
        let k = sym (any-miss (eqb b) (ne_eqb b x (λ p. q (sym p))) xs) ∙ h in
        pieces-miss q xs ∙ ap (onto_first x) (f k) ∙ sym (ap (λ u. u ∷ []) (before-miss q xs))
