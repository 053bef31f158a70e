-- Entries past an array's end: they are counted, and a test that they fail does not see them.
use Prim.Native.Nat.{ℕ, zero, suc, ◌-◌, ◌≤◌, min}
use mathlib.Core.Path.{◌≡◌, refl, sym, ap, ◌∙◌}
use mathlib.Core.Bool.{Bool, false, cond, ◌||◌}
use Rattle.std.specs.Prelude.{None, Some}
use mathlib.Core.List.{List, [], ◌∷◌, ◌++◌, append-nil}
use native.Mathlib.Omega.{arith}
use lib.ListN.{length, take, replicate, length-append, length-take, length-replicate}
use Rattle.std.specs.Option.{option_or}
use Rattle.laws.specs.Lists.{find_at}
use Rattle.std.specs.List.{list_any}
use Rattle.laws.proofs.Tests.{or-next, cond_no}
use Rattle.op.proofs.Firsts.{take-least}
use Rattle.config.specs.View.{padded}

module _ {A : Type 0} (p : A → Bool) where
  any-replicate : {x : A} → p x ≡ false → (k : ℕ) → list_any p (replicate k x) ≡ false
  any-replicate h zero = refl
  any-replicate h (suc k) = or-next _ h ∙ any-replicate h k

  any-before : (s t : List A) → list_any p t ≡ false → list_any p (s ++ t) ≡ list_any p s
  any-before [] t h = h
  any-before (y ∷ s) t h = ap (λ b. p y || b) (any-before s t h)

module _ {A : Type 0} (p : ℕ → A → Bool) where
  find-replicate : {x : A} → ((i : ℕ) → p i x ≡ false) → (i k : ℕ) → find_at p i (replicate k x) ≡ None
  unfolding find_at
  find-replicate h i zero = refl
  find-replicate {x} h i (suc k) =
      ap (λ o. option_or o (find_at p (suc i) (replicate k x))) (cond_no (Some i) None (h i)) ∙ find-replicate h (suc i) k

  find-before : (i : ℕ) (s t : List A) → ((j : ℕ) → find_at p j t ≡ None) → find_at p i (s ++ t) ≡ find_at p i s
  unfolding find_at
  find-before i [] t h = h i
  find-before i (y ∷ s) t h = ap (option_or (cond (p i y) (Some i) None)) (find-before (suc i) s t h)

module _ {A : Type 0} (spare : A) (n : ℕ) (l : List A) where
  pub padded-length : length (padded spare n l) ≡ n
  unfolding padded
  padded-length = simp (length-append, length-take, length-replicate) (omega arith)

  pub padded-within : n ≤ length l → padded spare n l ≡ take n l
  unfolding padded
  padded-within h =
      let e : n - length l ≡ 0 = omega arith in
      rw e (append-nil (take n l))

  -- k of the entries stand in the array.
  module _ {k : ℕ} (e : k ≡ min n (length l)) where
    pub any-padded : (p : A → Bool) → p spare ≡ false → list_any p (padded spare n l) ≡ list_any p (take k l)
    unfolding padded
    any-padded p h = any-before p (take n l) _ (any-replicate p h (n - length l)) ∙ ap (list_any p) (sym (take-least l n e))

    pub find-padded : (p : ℕ → A → Bool) → ((i : ℕ) → p i spare ≡ false) → find_at p 0 (padded spare n l) ≡ find_at p 0 (take k l)
    unfolding padded
    find-padded p h =
        find-before p 0 (take n l) _ (λ j. find-replicate p h j (n - length l)) ∙ ap (find_at p 0) (sym (take-least l n e))
