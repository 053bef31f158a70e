-- What is shown or asked for as an answer of the model, by its laws.
use Prim.Native.Nat.{ℕ, ◌+◌, ◌≤◌}
use mathlib.Core.Path.{◌≡◌, ap, ◌∙◌}
use Rattle.std.specs.Prelude.{Option, None, Some, Result, Ok, Err}
use mathlib.Core.List.{List, [], ◌∷◌}
use native.Mathlib.Omega.{arith}
use Rattle.capability.specs.declared.Refusal.{Refusal}
use Rattle.capability.specs.Refusals.{refusal_number}
use Rattle.model.specs.Calls.{Answer}
use Rattle.engine.specs.View.{answer_by}
use Rattle.answers.specs.Bytes.{optional, optional_length}
use Rattle.answers.specs.Encode.{encode, answer_length}
use Rattle.answers.specs.Shown.{ShownLaws}

module _ {A : Type 0} {bytes : A → List ℕ} {shown : Option A → Answer} (laws : ShownLaws bytes shown) where
  pub encoded : (o : Option A) → encode (shown o) ≡ 0 ∷ optional bytes o
  unfolding optional
  encoded None = laws.none
  encoded (Some a) = laws.some a

  pub told-asked : {r : Result (Option A) Refusal} {o : Option A} → r ≡ Ok o → encode (answer_by shown r) ≡ 0 ∷ optional bytes o
  unfolding answer_by
  told-asked {o = o} e = ap (λ r. encode (answer_by shown r)) e ∙ encoded o

  pub told-refused : {r : Result (Option A) Refusal} {n : Refusal} → r ≡ Err n → encode (answer_by shown r) ≡ refusal_number n ∷ []
  unfolding answer_by encode
  told-refused e = ap (λ r. encode (answer_by shown r)) e

-- ── How much room it takes ──────────────────────────────────────────────────

module _ {A : Type 0} (n : ℕ) where
  pub optional_length-most : (o : Option A) → optional_length n o ≤ 1 + n
  unfolding optional_length
  optional_length-most None = omega arith
  optional_length-most (Some a) = omega arith

  pub answer_length-most : (r : Result (Option A) Refusal) → answer_length n r ≤ 2 + n
  unfolding answer_length
  answer_length-most (Ok o) = omega (arith, optional_length-most o)
  answer_length-most (Err r) = omega arith
