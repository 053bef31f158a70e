-- What a test tells: of `cond`, of `&&`, `||` and `not`, of an Option. By these, not by `rw`: a fact `u.busy ≡ true` would be put into every copy of u.
use mathlib.Core.Path.{◌≡◌, refl, ap, ◌∙◌}
use mathlib.Core.Bool.{Bool, true, false, cond, not, ◌&&◌, ◌||◌}
use mathlib.Core.Logic.{◌⊎◌, inl, inr, ⊎_elim}
use Rattle.std.specs.Prelude.{Option, None, Some, is_some, option_map}
use Prim.Native.Nat.{ℕ, ◌≤◌, ◌<◌}
use lib.Dec.{eqb, ltb, leb}
use borrow.Author.Tests.{ltb-true, ltb-false, eq-eqb, ne_eqb, lt-ltb, le-ltb, le-leb, lt-leb}
use Rattle.laws.specs.Optional.{value_or, when_some}
use Rattle.std.specs.Option.{option_or}

module _ {A : Type 0} (x y : A) where
  pub cond_yes : {b : Bool} → b ≡ true → cond b x y ≡ x
  cond_yes e = ap (λ b. cond b x y) e

  pub cond_no : {b : Bool} → b ≡ false → cond b x y ≡ y
  cond_no e = ap (λ b. cond b x y) e

  pub cond-eq : {m n : ℕ} → m ≡ n → cond (eqb m n) x y ≡ x
  cond-eq {m} {n} e = cond_yes (eq-eqb m n e)

  pub cond-ne : {m n : ℕ} → (m ≡ n → ⊥) → cond (eqb m n) x y ≡ y
  cond-ne {m} {n} e = cond_no (ne_eqb m n e)

  pub cond-lt : {m n : ℕ} → m < n → cond (ltb m n) x y ≡ x
  cond-lt {m} {n} h = cond_yes (lt-ltb m n h)

  pub cond-ge : {m n : ℕ} → n ≤ m → cond (ltb m n) x y ≡ y
  cond-ge {m} {n} h = cond_no (le-ltb m n h)

  pub cond-le : {m n : ℕ} → m ≤ n → cond (leb m n) x y ≡ x
  cond-le {m} {n} h = cond_yes (le-leb m n h)

  pub cond-gt : {m n : ℕ} → n < m → cond (leb m n) x y ≡ y
  cond-gt {m} {n} h = cond_no (lt-leb m n h)

-- f goes into both branches
pub cond-ap : {A B : Type 0} (f : A → B) (b : Bool) (x y : A) → f (cond b x y) ≡ cond b (f x) (f y)
cond-ap f true x y = refl
cond-ap f false x y = refl

pub cond_same : {A : Type 0} (b : Bool) (x : A) → cond b x x ≡ x
cond_same true x = refl
cond_same false x = refl

pub true-or-false : (b : Bool) → (b ≡ true) ⊎ (b ≡ false)
true-or-false true = inl refl
true-or-false false = inr refl

pub lt-or-ge : (m n : ℕ) → (m < n) ⊎ (n ≤ m)
lt-or-ge m n = ⊎_elim (λ e. inl (ltb-true m n e)) (λ e. inr (ltb-false m n e)) (true-or-false (ltb m n))

pub not_yes : {b : Bool} → b ≡ false → not b ≡ true
not_yes e = ap not e

pub not-no : {b : Bool} → b ≡ true → not b ≡ false
not-no e = ap not e

pub and_yes : {a b : Bool} → a ≡ true → b ≡ true → (a && b) ≡ true
and_yes {b = b} e f = ap (λ t. t && b) e ∙ f

pub or_no : {a b : Bool} → a ≡ false → b ≡ false → (a || b) ≡ false
or_no {b = b} e f = ap (λ t. t || b) e ∙ f

module _ {a : Bool} (b : Bool) where
  pub and_no : a ≡ false → (a && b) ≡ false
  and_no e = ap (λ t. t && b) e

  pub or_yes : a ≡ true → (a || b) ≡ true
  or_yes e = ap (λ t. t || b) e

  -- the first does not decide: the second does
  pub and-next : a ≡ true → (a && b) ≡ b
  and-next e = ap (λ t. t && b) e

  pub or-next : a ≡ false → (a || b) ≡ b
  or-next e = ap (λ t. t || b) e

-- the second decides, whatever the first
pub and-no-second : (a : Bool) {b : Bool} → b ≡ false → (a && b) ≡ false
and-no-second true e = e
and-no-second false e = refl

pub or-yes-second : (a : Bool) {b : Bool} → b ≡ true → (a || b) ≡ true
or-yes-second true e = refl
or-yes-second false e = e

pub and_both : (a b : Bool) → (a && b) ≡ true → (a ≡ true) × (b ≡ true)
and_both true b e = (refl, e)
and_both false b e = (e, (cc))

pub or-neither : (a b : Bool) → (a || b) ≡ false → (a ≡ false) × (b ≡ false)
or-neither true b e = (e, (cc))
or-neither false b e = (refl, e)

module _ {A : Type 0} {o : Option A} where
  pub is-some-yes : {a : A} → o ≡ Some a → is_some o ≡ true
  is-some-yes e = ap is_some e

  pub is-some-no : o ≡ None → is_some o ≡ false
  is-some-no e = ap is_some e

  pub or_else_some : {a : A} (p : Option A) → o ≡ Some a → option_or o p ≡ Some a
  or_else_some p e = ap (λ t. option_or t p) e

  pub or_else_none : (p : Option A) → o ≡ None → option_or o p ≡ p
  or_else_none p e = ap (λ t. option_or t p) e

  pub value_or-some : {a : A} (d : A) → o ≡ Some a → value_or d o ≡ a
  value_or-some d e = ap (value_or d) e

  pub value_or-none : (d : A) → o ≡ None → value_or d o ≡ d
  value_or-none d e = ap (value_or d) e

pub or-else-none-right : {A : Type 0} (o : Option A) → option_or o None ≡ o
or-else-none-right None = refl
or-else-none-right (Some a) = refl

module _ {A B : Type 0} {o : Option A} where
  pub when_some-some : {a : A} (b : B) (f : A → B) → o ≡ Some a → when_some o b f ≡ f a
  when_some-some b f e = ap (λ t. when_some t b f) e

  pub when_some-none : (b : B) (f : A → B) → o ≡ None → when_some o b f ≡ b
  when_some-none b f e = ap (λ t. when_some t b f) e

  pub omap-some : {a : A} (f : A → B) → o ≡ Some a → option_map f o ≡ Some (f a)
  omap-some f e = ap (option_map f) e

  pub omap-none : (f : A → B) → o ≡ None → option_map f o ≡ None
  omap-none f e = ap (option_map f) e
