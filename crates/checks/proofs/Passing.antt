-- Tables of checks, one after the other, and what a table that refuses for none says of its rows.
use Prim.Native.Nat.{ℕ}
use mathlib.Core.Path.{◌≡◌, refl, sym, ◌∙◌}
use mathlib.Core.Bool.{Bool, true, false, not}
use mathlib.Core.Logic.{⊎_elim}
use Rattle.std.specs.Prelude.{Option, None, Some}
use mathlib.Core.List.{List, [], ◌∷◌, ◌++◌}
use Rattle.laws.proofs.Tests.{true-or-false}
use Rattle.laws.proofs.Choices.{none-some}
use Rattle.model.specs.Calls.{Check, first_of}
use Rattle.checks.proofs.Table.{passed, held}

pub first_some : (ps qs : List Check) {n : ℕ} → first_of ps ≡ Some n → first_of (ps ++ qs) ≡ Some n
unfolding first_of
first_some [] qs {n} h = none-some n h
first_some (p ∷ ps) qs h =
    ⊎_elim (λ t. held p.0 (ps ++ qs) t ∙ sym (held p.0 ps t) ∙ h)
    (λ f. passed p.0 (ps ++ qs) f ∙ first_some ps qs (sym (passed p.0 ps f) ∙ h)) (true-or-false p.1)

pub row-passes : (n : ℕ) {b : Bool} (ps : List Check) → first_of ((n, b) ∷ ps) ≡ None → (b ≡ false) × (first_of ps ≡ None)
row-passes n {b} ps h =
    ⊎_elim (λ t. none-some n (sym h ∙ held n ps t)) (λ f. (f, sym (passed n ps f) ∙ h)) (true-or-false b)

pub first-none : (ps qs : List Check) → first_of ps ≡ None → first_of (ps ++ qs) ≡ first_of qs
first-none [] qs h = refl
first-none (p ∷ ps) qs h = let r = row-passes p.0 ps h in passed p.0 (ps ++ qs) r.0 ∙ first-none ps qs r.1

pub yes-of-not : (a : Bool) → not a ≡ false → a ≡ true
yes-of-not true i = refl
yes-of-not false i = sym i
