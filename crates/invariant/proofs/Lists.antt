-- Lists: membership, the element at a place after a change, and searches.
use Prim.Native.Nat.{ℕ, zero, suc, ◌+◌, ◌<◌, ◌≤◌}
use native.Mathlib.Omega.{arith}
use mathlib.Core.Path.{◌≡◌, refl, sym, ◌∙◌, ap, ap₂, subst}
use mathlib.Core.Bool.{Bool, true, false, cond, false≢true}
use Rattle.std.specs.Prelude.{Option, None, Some, slice_get, option_map}
use mathlib.Core.List.{List, [], ◌∷◌, ◌++◌, map}
use mathlib.Core.Logic.{◌⊎◌, inl, inr}
use lib.Dec.{eqb}
use lib.ListN.{length, take}
use borrow.Author.Tests.{eqb-true, eqb-false}
use Rattle.laws.specs.Lists.{All, find_at, keep, modify, is_empty}
use Rattle.std.specs.List.{list_any}
use Rattle.std.specs.Option.{option_or}
use Rattle.laws.proofs.Maps.{nth-map}
use Rattle.laws.proofs.Choices.{none-some, some_inj}
use Rattle.invariant.specs.Invariant.{In}
use Rattle.invariant.proofs.Bools.{or-neither}

-- ── Membership ──────────────────────────────────────────────────────────────

pub in_left : {A : Type 0} (a : A) (xs ys : List A) → In a xs → In a (xs ++ ys)
in_left a [] ys h = absurd h
in_left a (x ∷ xs) ys (inl e) = inl e
in_left a (x ∷ xs) ys (inr h) = inr (in_left a xs ys h)

pub in_right : {A : Type 0} (a : A) (xs ys : List A) → In a ys → In a (xs ++ ys)
in_right a [] ys h = h
in_right a (x ∷ xs) ys h = inr (in_right a xs ys h)

pub in-append : {A : Type 0} (a : A) (xs ys : List A) → In a (xs ++ ys) → In a xs ⊎ In a ys
in-append a [] ys h = inr h
in-append a (x ∷ xs) ys (inl e) = inl (inl e)
in-append a (x ∷ xs) ys (inr h) = go (in-append a xs ys h)
  where
    go : In a xs ⊎ In a ys → In a (x ∷ xs) ⊎ In a ys
    go (inl k) = inl (inr k)
    go (inr k) = inr k

pub in-keep : {A : Type 0} (q : A → Bool) (a : A) (xs : List A) → In a (keep q xs) → In a xs × (q a ≡ true)
unfolding keep
in-keep q a [] h = absurd h
in-keep {A} q a (x ∷ xs) h = go (λ k. let i = in-keep q a xs k in (inr i.0, i.1)) (q x) refl (in-append a (cond (q x) (x ∷ []) []) (keep q xs) h)
  where
    go
        : (In a (keep q xs) → In a (x ∷ xs) × (q a ≡ true)) → (d : Bool) → q x ≡ d → In a (cond d (x ∷ []) []) ⊎ In a (keep q xs)
        → In a (x ∷ xs) × (q a ≡ true)
    go rest true e (inl (inl k)) = (inl k, ap q k ∙ e)
    go rest true e (inl (inr k)) = absurd k
    go rest true e (inr k) = rest k
    go rest false e (inl k) = absurd k
    go rest false e (inr k) = rest k

pub keep-in : {A : Type 0} (q : A → Bool) (a : A) (xs : List A) → In a xs → q a ≡ true → In a (keep q xs)
unfolding keep
keep-in q a [] h t = absurd h
keep-in q a (x ∷ xs) (inl e) t = in_left a (cond (q x) (x ∷ []) []) (keep q xs) (go (q x) (sym (ap q e) ∙ t))
  where
    go : (d : Bool) → d ≡ true → In a (cond d (x ∷ []) [])
    go true k = inl e
    go false k = absurd (false≢true k)
keep-in q a (x ∷ xs) (inr h) t = in_right a (cond (q x) (x ∷ []) []) (keep q xs) (keep-in q a xs h t)

-- ── Places ──────────────────────────────────────────────────────────────────

module _ {A : Type 0} where
  pub nth-same : (f : A → A) (xs : List A) (i : ℕ) → slice_get (modify i f xs) i ≡ option_map f (slice_get xs i)
  unfolding modify
  nth-same f [] i = refl
  nth-same f (x ∷ xs) zero = refl
  nth-same f (x ∷ xs) (suc i) = nth-same f xs i

  pub nth-other : (f : A → A) (xs : List A) (i j : ℕ) → (j ≡ i → ⊥) → slice_get (modify i f xs) j ≡ slice_get xs j
  unfolding modify
  nth-other f [] i j n = refl
  nth-other f (x ∷ xs) zero zero n = absurd (n refl)
  nth-other f (x ∷ xs) zero (suc j) n = refl
  nth-other f (x ∷ xs) (suc i) zero n = refl
  nth-other f (x ∷ xs) (suc i) (suc j) n = nth-other f xs i j (λ e. n (ap suc e))

  pub length-modify : (f : A → A) (i : ℕ) (xs : List A) → length (modify i f xs) ≡ length xs
  unfolding modify
  length-modify f i [] = refl
  length-modify f zero (x ∷ xs) = refl
  length-modify f (suc i) (x ∷ xs) = ap suc (length-modify f i xs)

  pub nth-short : (xs : List A) (i : ℕ) (a : A) → slice_get xs i ≡ Some a → i < length xs
  nth-short [] i a h = none-some a h
  nth-short (x ∷ xs) zero a h = omega arith
  nth-short (x ∷ xs) (suc i) a h = let k = nth-short xs i a h in omega arith

  -- A search that finds, and one that does not.
  pub find-hit
      : (q : ℕ → A → Bool) (i : ℕ) (xs : List A) (k : ℕ) → find_at q i xs ≡ Some k
      → (n : ℕ) × (k ≡ i + n) × ((x : A) × (slice_get xs n ≡ Some x) × (q k x ≡ true))
  unfolding find_at
  find-hit q i [] k h = none-some k h
  find-hit q i (x ∷ xs) k h = go (λ r. find-hit q (suc i) xs k r) (q i x) refl h
    where
      go
          : (find_at q (suc i) xs ≡ Some k → (n : ℕ) × (k ≡ suc i + n) × ((y : A) × (slice_get xs n ≡ Some y) × (q k y ≡ true))) → (b : Bool)
          → q i x ≡ b → option_or (cond b (Some i) None) (find_at q (suc i) xs) ≡ Some k
          → (n : ℕ) × (k ≡ i + n) × ((y : A) × (slice_get (x ∷ xs) n ≡ Some y) × (q k y ≡ true))
      go ih true e r = let ki : i ≡ k = some_inj i k r in (0, omega arith, (x, refl, subst (λ (z : ℕ). q z x ≡ true) ki e))
      go ih false e r = let w = ih r in (suc w.0, omega (arith, w.1), w.2)

  pub find-miss
      : (q : ℕ → A → Bool) (i : ℕ) (xs : List A) → find_at q i xs ≡ None → (n : ℕ) (x : A) → slice_get xs n ≡ Some x → q (i + n) x ≡ false
  unfolding find_at
  find-miss q i [] h n x k = none-some x k
  find-miss q i (y ∷ ys) h n x k = go (λ r. find-miss q (suc i) ys r) (q i y) refl h n k
    where
      go
          : (find_at q (suc i) ys ≡ None → (n : ℕ) (x : A) → slice_get ys n ≡ Some x → q (suc i + n) x ≡ false) → (b : Bool) → q i y ≡ b
          → option_or (cond b (Some i) None) (find_at q (suc i) ys) ≡ None → (n : ℕ) → slice_get (y ∷ ys) n ≡ Some x → q (i + n) x ≡ false
      go ih true e r n k = none-some i (sym r)
      go ih false e r zero k =
          let z : i + 0 ≡ i = omega arith in
          ap (λ (m : ℕ). q m x) z ∙ sym (ap (q i) (some_inj y x k)) ∙ e
      go ih false e r (suc n) k = let z : i + suc n ≡ suc i + n = omega arith in ap (λ (m : ℕ). q m x) z ∙ ih r n x k

module _ {A B : Type 0} (e : A → B) where
  -- A change that e does not see.
  pub map-modified : (f : A → A) → ((x : A) → e (f x) ≡ e x) → (i : ℕ) (xs : List A) → map e (modify i f xs) ≡ map e xs
  unfolding modify
  map-modified f r i [] = refl
  map-modified f r zero (x ∷ xs) = ap (λ (y : B). y ∷ map e xs) (r x)
  map-modified f r (suc i) (x ∷ xs) = ap (λ (l : List B). e x ∷ l) (map-modified f r i xs)

  pub map_same : (f : A → A) → ((x : A) → e (f x) ≡ e x) → (xs : List A) → map e (map f xs) ≡ map e xs
  map_same f r [] = refl
  map_same f r (x ∷ xs) = ap₂ {B = List B} ◌∷◌ (r x) (map_same f r xs)

  pub omap-back : (o : Option A) (b : B) → option_map e o ≡ Some b → (a : A) × (o ≡ Some a) × (e a ≡ b)
  omap-back None b h = none-some b h
  omap-back (Some a) b h = (a, refl, some_inj (e a) b h)

  -- What stands at a place of a list with the same image.
  pub nth-image : (xs ys : List A) (i : ℕ) (y : A) → map e xs ≡ map e ys → slice_get ys i ≡ Some y → (x : A) × (slice_get xs i ≡ Some x) × (e x ≡ e y)
  nth-image xs ys i y h q =
      omap-back (slice_get xs i) (e y) (sym (nth-map e xs i) ∙ ap (λ (l : List B). slice_get l i) h ∙ nth-map e ys i ∙ ap (option_map e) q)

-- ── Membership of numbers ───────────────────────────────────────────────────

pub in-dec : (r : ℕ) (xs : List ℕ) → In r xs ⊎ (In r xs → ⊥)
in-dec r [] = inr (λ h. h)
in-dec r (x ∷ xs) = go (eqb r x) refl (in-dec r xs)
  where
    go : (b : Bool) → eqb r x ≡ b → In r xs ⊎ (In r xs → ⊥) → In r (x ∷ xs) ⊎ (In r (x ∷ xs) → ⊥)
    go true e d = inl (inl (eqb-true r x e))
    go false e (inl d) = inl (inr d)
    go false e (inr d) = inr (λ h. no_way h)
      where
        no_way : In r (x ∷ xs) → ⊥
        no_way (inl q) = eqb-false r x e q
        no_way (inr q) = d q

-- ── Every element, and those that pass ──────────────────────────────────────

pub all-at : {A : Type 0} (P : A → Type 0) (xs : List A) (i : ℕ) (a : A) → slice_get xs i ≡ Some a → All P xs → P a
all-at P [] i a e h = none-some a e
all-at P (x ∷ xs) zero a e h = subst P (some_inj x a e) h.0
all-at P (x ∷ xs) (suc i) a e h = all-at P xs i a e h.1

module _ {A : Type 0} (q : A → Bool) where
  pub keep-length : (xs : List A) → length (keep q xs) ≤ length xs
  unfolding keep
  keep-length [] = omega arith
  keep-length (x ∷ xs) = go (q x) (keep-length xs)
    where
      go : (b : Bool) → length (keep q xs) ≤ length xs → length (cond b (x ∷ []) [] ++ keep q xs) ≤ suc (length xs)
      go true h = omega arith
      go false h = omega arith

  pub keep-empty : (xs : List A) → is_empty (keep q xs) ≡ false → is_empty xs ≡ false
  unfolding keep is_empty
  keep-empty [] h = h
  keep-empty (x ∷ xs) h = refl

module _ {A : Type 0} (p : A → Bool) where
  pub any_none : (xs : List A) → list_any p xs ≡ false → All (λ (x : A). p x ≡ false) xs
  any_none [] h = tt
  any_none (x ∷ xs) h = let a = or-neither (p x) (list_any p xs) h in (a.0, any_none xs a.1)

  -- A list that is no longer than n, of which the first n were searched.
  pub any-taken : (n : ℕ) (xs : List A) → length xs ≤ n → list_any p (take n xs) ≡ false → All (λ (x : A). p x ≡ false) xs
  any-taken n [] l h = tt
  any-taken zero (x ∷ xs) l h = absurd (omega arith)
  any-taken (suc n) (x ∷ xs) l h =
      let a = or-neither (p x) (list_any p (take n xs)) h in (a.0, any-taken n xs (omega arith) a.1)

pub all_in : {A : Type 0} (P : A → Type 0) (xs : List A) (a : A) → In a xs → All P xs → P a
all_in P [] a n h = absurd n
all_in P (x ∷ xs) a (inl e) h = subst P (sym e) h.0
all_in P (x ∷ xs) a (inr n) h = all_in P xs a n h.1

-- What stands in a list stands in a longer one, further on.
pub nth_after : {A : Type 0} (xs ys : List A) (i : ℕ) (a : A) → slice_get ys i ≡ Some a → (j : ℕ) × (slice_get (xs ++ ys) j ≡ Some a)
nth_after [] ys i a e = (i, e)
nth_after (x ∷ xs) ys i a e = let w = nth_after xs ys i a e in (suc w.0, w.1)
