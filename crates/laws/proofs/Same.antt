-- The test `same` tells texts apart.
use Prim.Native.Nat.{ℕ}
use mathlib.Core.Path.{◌≡◌, refl, ap₂, subst}
use mathlib.Core.List.{List, [], ◌∷◌}
use lib.Dec.{T, eqb, eqb→eq, eqb_refl}
use Rattle.laws.specs.Texts.{Text, same}
use Rattle.laws.proofs.Choices.{and_left, and_right, both}

pub same-eq : (a b : Text) → T (same a b) → a ≡ b
unfolding same
same-eq [] [] t = refl
same-eq [] (y ∷ ys) t = absurd t
same-eq (x ∷ xs) [] t = absurd t
same-eq (x ∷ xs) (y ∷ ys) t =
    ap₂ {A = ℕ} {B = List ℕ} ◌∷◌ (eqb→eq x y (and_left (eqb x y) (same xs ys) t)) (same-eq xs ys (and_right (eqb x y) (same xs ys) t))

pub same_self : (a : Text) → T (same a a)
unfolding same
same_self [] = tt
same_self (x ∷ xs) = both (eqb x x) (same xs xs) (eqb_refl x) (same_self xs)

pub same-of-eq : (a b : Text) → a ≡ b → T (same a b)
same-of-eq a b p = subst (λ (c : Text). T (same a c)) p (same_self a)
