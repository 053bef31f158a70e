-- The test `same` is symmetric and transitive: it says yes of equal texts alone.
use Rattle.std.specs.Prelude.{◌≡◌, Bool, true, false, T}
use Rattle.std.specs.Cmp.{IsPartialEquivalence, both_ways}
use mathlib.Core.Path.{refl, sym, subst, ◌∙◌}
use Rattle.laws.specs.Texts.{Text, same}
use Rattle.laws.proofs.Same.{same-eq, same_self}

T_true : (b : Bool) → T b → b ≡ true
T_true true t = refl
T_true false t = absurd t

pub same_yes : (a b : Text) → a ≡ b → same a b ≡ true
same_yes a b e = subst (λ c. same a c ≡ true) e (T_true _ (same_self a))

same-only : (a b : Text) → same a b ≡ true → a ≡ b
same-only a b e = same-eq a b (subst T (sym e) tt)

pub same_per : IsPartialEquivalence same
same_per = record {
  symm = λ a b. both_ways _ _ (λ e. same_yes b a (sym (same-only a b e))) (λ e. same_yes a b (sym (same-only b a e)));
  trans = λ a b c d e. same_yes a c (same-only a b d ∙ same-only b c e);
}
