-- Lists: tests of every element, of some element, and of places; two lists that agree at every place.
use Prim.Native.Nat.{ℕ, zero, suc, ◌+◌}
use native.Mathlib.Omega.{arith}
use mathlib.Core.Path.{◌≡◌, refl, sym, ◌∙◌, ap, ap₂, subst}
use mathlib.Core.Bool.{Bool, true, false, ◌&&◌, ◌||◌, false≢true}
use Rattle.std.specs.Prelude.{Some, slice_get}
use mathlib.Core.List.{List, [], ◌∷◌, map}
use mathlib.Core.Logic.{inl, inr}
use lib.Dec.{eqb}
use borrow.Author.Tests.{eqb-true, eq-eqb}
use Rattle.laws.specs.Lists.{any_at, elem, lists}
use Rattle.std.specs.List.{list_all, list_any}
use Rattle.laws.proofs.Choices.{none-some, some_inj}
use Rattle.invariant.specs.Invariant.{In}
use Rattle.invariant.proofs.Bools.{and_both, or-true}

-- ── Truth values ────────────────────────────────────────────────────────────

pub bool_same : (a b : Bool) → (a ≡ true → b ≡ true) → (b ≡ true → a ≡ true) → a ≡ b
bool_same true true f g = refl
bool_same true false f g = sym (f refl)
bool_same false true f g = g refl
bool_same false false f g = refl

pub not-to : (b : Bool) → (b ≡ true → ⊥) → b ≡ false
not-to true h = absurd (h refl)
not-to false h = refl

-- ── Membership ──────────────────────────────────────────────────────────────

module _ {A : Type 0} where
  pub in-nth : (xs : List A) (x : A) → In x xs → (i : ℕ) × (slice_get xs i ≡ Some x)
  unfolding lists
  in-nth [] x h = absurd h
  in-nth (y ∷ xs) x (inl e) = (0, ap (λ (z : A). Some z) (sym e))
  in-nth (y ∷ xs) x (inr h) = let w = in-nth xs x h in (suc w.0, w.1)

  pub nth_in : (xs : List A) (k : ℕ) (x : A) → slice_get xs k ≡ Some x → In x xs
  unfolding lists
  nth_in [] k x z = none-some x z
  nth_in (y ∷ ys) zero x z = inl (sym (some_inj y x z))
  nth_in (y ∷ ys) (suc k) x z = inr (nth_in ys k x z)

  -- Every element passes.
  pub all_from : (q : A → Bool) (xs : List A) → ((x : A) → In x xs → q x ≡ true) → list_all q xs ≡ true
  unfolding lists
  all_from q [] h = refl
  all_from q (x ∷ xs) h = ap₂ ◌&&◌ (h x (inl refl)) (all_from q xs (λ y n. h y (inr n)))

  pub all-to : (q : A → Bool) (xs : List A) → list_all q xs ≡ true → (x : A) → In x xs → q x ≡ true
  unfolding lists
  all-to q [] h x n = absurd n
  all-to q (y ∷ xs) h x (inl e) = ap q e ∙ (and_both (q y) (list_all q xs) h).0
  all-to q (y ∷ xs) h x (inr n) = all-to q xs (and_both (q y) (list_all q xs) h).1 x n

  -- Some element passes, or none does.
  pub any-from : (q : A → Bool) (xs : List A) (x : A) → In x xs → q x ≡ true → list_any q xs ≡ true
  unfolding lists
  any-from q [] x n h = absurd n
  any-from q (y ∷ xs) x (inl e) h = ap (λ (b : Bool). b || list_any q xs) (sym (ap q e) ∙ h)
  any-from q (y ∷ xs) x (inr n) h = ap (λ (b : Bool). q y || b) (any-from q xs x n h) ∙ or-true (q y)

  pub any-to : (q : A → Bool) (xs : List A) → list_any q xs ≡ true → (x : A) × In x xs × (q x ≡ true)
  unfolding lists
  any-to q [] h = absurd (false≢true h)
  any-to q (x ∷ xs) h = go (q x) refl h (any-to q xs)
    where
      go
          : (b : Bool) → q x ≡ b → (b || list_any q xs) ≡ true → (list_any q xs ≡ true → (y : A) × In y xs × (q y ≡ true))
          → (y : A) × In y (x ∷ xs) × (q y ≡ true)
      go true e k ih = (x, inl refl, e)
      go false e k ih = let w = ih k in (w.0, inr w.1, w.2)

  pub any-off : (q : A → Bool) (xs : List A) → ((x : A) → In x xs → q x ≡ true → ⊥) → list_any q xs ≡ false
  any-off q xs h = not-to (list_any q xs) (λ e. let w = any-to q xs e in h w.0 w.1 w.2)

  -- A place and its element pass, or none does.
  pub any-at-from
      : (q : ℕ → A → Bool) (k : ℕ) (xs : List A) (n : ℕ) (x : A) → slice_get xs n ≡ Some x → q (k + n) x ≡ true → any_at q k xs ≡ true
  unfolding lists
  any-at-from q k [] n x e h = none-some x e
  any-at-from q k (y ∷ xs) zero x e h =
      let m : k + 0 ≡ k = omega arith in
      ap (λ (b : Bool). b || any_at q (suc k) xs) (ap (q k) (some_inj y x e) ∙ subst (λ (z : ℕ). q z x ≡ true) m h)
  any-at-from q k (y ∷ xs) (suc n) x e h =
      let m : k + suc n ≡ suc k + n = omega arith in
      ap (λ (b : Bool). q k y || b) (any-at-from q (suc k) xs n x e (subst (λ (z : ℕ). q z x ≡ true) m h)) ∙ or-true (q k y)

  pub any-at-to
      : (q : ℕ → A → Bool) (k : ℕ) (xs : List A) → any_at q k xs ≡ true → (n : ℕ) × (x : A) × (slice_get xs n ≡ Some x) × (q (k + n) x ≡ true)
  unfolding lists
  any-at-to q k [] h = absurd (false≢true h)
  any-at-to q k (x ∷ xs) h = go (q k x) refl h (any-at-to q (suc k) xs)
    where
      go
          : (b : Bool) → q k x ≡ b → (b || any_at q (suc k) xs) ≡ true
          → (any_at q (suc k) xs ≡ true → (n : ℕ) × (y : A) × (slice_get xs n ≡ Some y) × (q (suc k + n) y ≡ true))
          → (n : ℕ) × (y : A) × (slice_get (x ∷ xs) n ≡ Some y) × (q (k + n) y ≡ true)
      go true e z ih = let m : k ≡ k + 0 = omega arith in (0, x, refl, subst (λ (i : ℕ). q i x ≡ true) m e)
      go false e z ih =
          let w = ih z in
          let m : suc k + w.0 ≡ k + suc w.0 = omega arith in
          (suc w.0, w.1, w.2, subst (λ (i : ℕ). q i w.1 ≡ true) m w.3)

  -- The same at every place.
  pub same_places : (xs ys : List A) → ((j : ℕ) → slice_get xs j ≡ slice_get ys j) → xs ≡ ys
  unfolding lists
  same_places [] [] h = refl
  same_places [] (y ∷ ys) h = none-some y (h 0)
  same_places (x ∷ xs) [] h = none-some x (sym (h 0))
  same_places (x ∷ xs) (y ∷ ys) h = ap₂ {A = A} {B = List A} ◌∷◌ (some_inj x y (h 0)) (same_places xs ys (λ j. h (suc j)))

module _ {A B : Type 0} where
  pub in-mapped : (f : A → B) (xs : List A) (y : B) → In y (map f xs) → (x : A) × In x xs × (y ≡ f x)
  in-mapped f [] y h = absurd h
  in-mapped f (x ∷ xs) y (inl e) = (x, inl refl, e)
  in-mapped f (x ∷ xs) y (inr h) = let w = in-mapped f xs y h in (w.0, inr w.1, w.2)

  pub in_map : (f : A → B) (xs : List A) (x : A) → In x xs → In (f x) (map f xs)
  in_map f [] x h = absurd h
  in_map f (y ∷ xs) x (inl e) = inl (ap f e)
  in_map f (y ∷ xs) x (inr h) = inr (in_map f xs x h)

  -- Two functions that agree on the elements.
  pub map-in : (f g : A → B) (xs : List A) → ((x : A) → In x xs → f x ≡ g x) → map f xs ≡ map g xs
  map-in f g [] h = refl
  map-in f g (x ∷ xs) h = ap₂ {A = B} {B = List B} ◌∷◌ (h x (inl refl)) (map-in f g xs (λ y n. h y (inr n)))

  pub map-all : (f g : A → B) (xs : List A) → ((x : A) → f x ≡ g x) → map f xs ≡ map g xs
  map-all f g xs h = map-in f g xs (λ x n. h x)

pub map-two : {A B C : Type 0} (f : A → B) (g : B → C) (xs : List A) → map g (map f xs) ≡ map (λ (x : A). g (f x)) xs
map-two f g [] = refl
map-two {A} {B} {C} f g (x ∷ xs) = ap (λ (l : List C). g (f x) ∷ l) (map-two f g xs)

-- ── Numbers in a list ───────────────────────────────────────────────────────

pub elem_in : (r : ℕ) (xs : List ℕ) → elem r xs ≡ true → In r xs
elem_in r xs h = let w = any-to (eqb r) xs h in subst (λ (z : ℕ). In z xs) (sym (eqb-true r w.0 w.2)) w.1

pub in-elem : (r : ℕ) (xs : List ℕ) → In r xs → elem r xs ≡ true
in-elem r xs h = any-from (eqb r) xs r h (eq-eqb r r refl)

pub out-elem : (r : ℕ) (xs : List ℕ) → (In r xs → ⊥) → elem r xs ≡ false
out-elem r xs h = not-to (elem r xs) (λ e. h (elem_in r xs e))
