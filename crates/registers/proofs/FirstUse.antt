-- Names stay distinct, and numbers are those of first use.
use Prim.Native.Nat.{ℕ, zero, suc, ◌≤◌, ◌<◌}
use mathlib.Core.Path.{◌≡◌, refl, ap, ap₂, ◌∙◌}
use mathlib.Core.Bool.{false}
use mathlib.Core.Logic.{⊎_elim}
use Rattle.std.specs.Prelude.{Some, slice_get}
use mathlib.Core.List.{List, [], ◌∷◌, ◌++◌}
use native.Mathlib.Omega.{arith}
use native.Mathlib.Nat.{not-suc-le-zero, le_of_suc-le-suc}
use lib.ListN.{length}
use Rattle.laws.specs.Texts.{Text, same}
use Rattle.laws.proofs.Tests.{true-or-false, lt-or-ge}
use Rattle.laws.proofs.Choices.{none-some, some_inj, false-T}
use Rattle.laws.proofs.Same.{same-of-eq}
use Rattle.model.specs.Registers.{Interned, interned, behind, intern}
use Rattle.registers.specs.FirstUse.{First, FirstUse}
use Rattle.registers.proofs.Interning.{by_first, intern-here, intern-behind, number-most, names-held, names-new, all-distinct, same-yes, same_true}

module _ (a : Text) where
  -- Behind a name that is not a.
  behind-other : (x : Text) (r : Interned) → same x a ≡ false → First r.names a r.number
      → First (behind x r).names a (behind x r).number
  behind-other x r f p = record { here = p.here; before = none_before }
    where
      none_before : (j : ℕ) → j < suc r.number → slice_get (x ∷ r.names) j ≡ Some a → ⊥
      none_before zero h e = false-T (same x a) f (same-of-eq x a (some_inj x a e))
      none_before (suc j) h e = p.before j (le_of_suc-le-suc h) e

  pub first-place : (ns : List Text) → First (intern ns a).names a (intern ns a).number
  unfolding intern
  first-place [] = record { here = refl; before = λ j h e. not-suc-le-zero h }
  first-place (x ∷ xs) =
      by_first a (λ r. First r.names a r.number) x xs
      (λ t. record { here = ap Some (same-yes x a t); before = λ j h e. not-suc-le-zero h })
      (λ f. behind-other x (intern xs a) f (first-place xs))

  pub held_place : (ns : List Text) (k : ℕ) → First ns a k → intern ns a ≡ interned k ns
  held_place [] k p = none-some a p.here
  held_place (x ∷ xs) zero p = intern-here a x xs (same_true x a (some_inj x a p.here))
  held_place (x ∷ xs) (suc k) p =
      ⊎_elim (λ t. absurd (p.before 0 (omega arith) (ap Some (same-yes x a t))))
      (λ f. intern-behind a x xs f ∙ ap (behind x) (held_place xs k (record { here = p.here; before = λ j h e. p.before (suc j) (omega arith) e })))
      (true-or-false (same x a))

  pub new-place : (ns : List Text) → ((j : ℕ) → slice_get ns j ≡ Some a → ⊥) → intern ns a ≡ interned (length ns) (ns ++ a ∷ [])
  new-place ns none-there = ⊎_elim there new (lt-or-ge (intern ns a).number (length ns))
    where
      there : (intern ns a).number < length ns → intern ns a ≡ interned (length ns) (ns ++ a ∷ [])
      there h = absurd (none-there (intern ns a).number (rw (names-held a ns h) at (first-place ns).here))

      new : length ns ≤ (intern ns a).number → intern ns a ≡ interned (length ns) (ns ++ a ∷ [])
      new h = let n : (intern ns a).number ≡ length ns = omega (arith, number-most a ns) in ap₂ interned n (names-new a ns h)

pub first-use : FirstUse
first-use =
    record {
      distinct = all-distinct;
      first = λ ns a. first-place a ns;
      held = λ ns a. held_place a ns;
      new = λ ns a. new-place a ns;
    }
