-- What filter and min_by_key take of a list: the first of the least that pass.
use Prim.Native.Nat.{ℕ, zero, suc, ◌≤◌, ◌<◌}
use mathlib.Core.Path.{◌≡◌, refl, sym, ap, ap₂, subst, ◌∙◌}
use mathlib.Core.Bool.{Bool, true, false, cond}
use mathlib.Core.List.{List, [], ◌∷◌, ◌++◌, map}
use native.Mathlib.Omega.{arith}
use lib.Dec.{ltb}
use borrow.Author.Tests.{ltb-true, ltb-false}
use denote.Ref.{Bor}
use denote.Param.Members.{Mut}
use Rattle.std.specs.Prelude.{Option, None, Some, IfSome, option_map, filter, fold, slice_get}
use Rattle.std.specs.declared.cmp.Ordering.{Ordering}
use Rattle.std.specs.declared.cmp.Ordering.TheVariants.{Less, Equal, Greater}
use Rattle.std.specs.Ordering.{nat_cmp, min_by_ordering, MatchOrdering}
use Rattle.std.specs.List.{FoldsTo}
use Rattle.std.specs.Fn.{CalledAt}
use Rattle.std.specs.Iterator.{KeyTurn, PicksMinByKey}
use Rattle.std.proofs.lemmas.Cmp.{ranked}
use Rattle.std.proofs.lemmas.Iterator.{YieldsList, items_from_drains}
use Rattle.laws.specs.Lists.{All}
use Rattle.laws.proofs.Choices.{none-some, some_inj}
use Rattle.laws.proofs.Tests.{cond-lt, cond-ge, cond-ap}

module _ {B : Type 0} (key : B → ℕ) where
  -- Of one and of what stands behind it.
  abbrev pub sooner : B → Option B → Option B
  sooner x None = Some x
  sooner x (Some y) = cond (ltb (key y) (key x)) (Some y) (Some x)

  unfoldable pub least : List B → Option B
  least [] = None
  least (x ∷ xs) = sooner x (least xs)

  -- The walk from the front: another only where it is less.
  abbrev step : B → B → B
  step x y = cond (ltb (key y) (key x)) y x

  step_first : (x y : B) (m : Option B) → sooner (step x y) m ≡ sooner x (sooner y m)
  step_first x y None = by (ltb (key y) (key x))
    where
      by : (b : Bool) → Some (cond b y x) ≡ cond b (Some y) (Some x)
      by true = refl
      by false = refl
  step_first x y (Some z) = by (ltb (key y) (key x)) refl (ltb (key z) (key y)) refl
    where
      by : (b : Bool) → ltb (key y) (key x) ≡ b → (c : Bool) → ltb (key z) (key y) ≡ c → sooner (cond b y x) (Some z) ≡ sooner x (cond c (Some z) (Some y))
      by true e true d =
          let l = ltb-true (key y) (key x) e in
          let k = ltb-true (key z) (key y) d in
          cond-lt (Some z) (Some y) k ∙ sym (cond-lt (Some z) (Some x) {m = key z} {n = key x} (omega (arith, l, k)))
      by true e false d = ap (λ t. cond t (Some z) (Some y)) d ∙ sym (ap (λ t. cond t (Some y) (Some x)) e)
      by false e true d = refl
      by false e false d =
          let l = ltb-false (key y) (key x) e in
          let k = ltb-false (key z) (key y) d in
          cond-ge (Some z) (Some x) {m = key z} {n = key x} (omega (arith, l, k)) ∙ sym (ap (λ t. cond t (Some y) (Some x)) e)

  -- One that is no less than the one before it does not matter.
  sooner-over : (x y : B) (m : Option B) → key x ≤ key y → sooner x (sooner y m) ≡ sooner x m
  sooner-over x y m h = sym (step_first x y m) ∙ ap (λ z. sooner z m) (cond-ge y x h)

  walked : (x : B) (xs : List B) → Some (fold step x xs) ≡ least (x ∷ xs)
  unfolding least
  walked x [] = refl
  walked x (y ∷ ys) = walked (step x y) ys ∙ step_first x y (least ys)

  abbrev pub sooner-of : Option B → Option B → Option B
  sooner-of None m = m
  sooner-of (Some x) m = sooner x m

  pub least-append : (xs ys : List B) → least (xs ++ ys) ≡ sooner-of (least xs) (least ys)
  unfolding least
  least-append [] ys = refl
  least-append (x ∷ xs) ys = ap (sooner x) (least-append xs ys) ∙ go (least xs) (least ys)
    where
      go : (m n : Option B) → sooner x (sooner-of m n) ≡ sooner-of (sooner x m) n
      go None n = refl
      go (Some y) n = sym (step_first x y n) ∙ by (ltb (key y) (key x))
        where
          by : (b : Bool) → sooner (cond b y x) n ≡ sooner-of (cond b (Some y) (Some x)) n
          by true = refl
          by false = refl

  -- It is one of them.
  pub least-All : (P : B → Type 0) (xs : List B) → All P xs → IfSome (least xs) P
  unfolding least
  least-All P [] a = tt
  least-All P (x ∷ xs) a = go (least xs) (least-All P xs a.1)
    where
      go : (m : Option B) → IfSome m P → IfSome (sooner x m) P
      go None h = a.0
      go (Some y) h = by (ltb (key y) (key x))
        where
          by : (b : Bool) → IfSome (cond b (Some y) (Some x)) P
          by true = h
          by false = a.0

module _ {B : Type 0} (P : B → Type 0) (p : B → Bool) where
  pub filter-All : (xs : List B) → All P xs → All P (filter p xs)
  filter-All [] a = tt
  filter-All (x ∷ xs) a = by (p x) refl (filter-All xs a.1)
    where
      by : (b : Bool) → p x ≡ b → All P (filter p xs) → All P (filter p (x ∷ xs))
      by true e h = rw e (a.0, h)
      by false e h = rw e h

-- ── At a place ──────────────────────────────────────────────────────────────

module _ {B : Type 0} (key : B → ℕ) (p : B → Bool) where
  -- None passes.
  pub least-none : (xs : List B) → ((j : ℕ) (y : B) → slice_get xs j ≡ Some y → p y ≡ false) → None ≡ least key (filter p xs)
  unfolding least
  least-none [] h = refl
  least-none (y ∷ ys) h = rw (h 0 y refl) (least-none ys (λ j. h (suc j)))

  -- x stands before them, and none that passes is less.
  none-less : (x : B) (xs : List B) → ((j : ℕ) (y : B) → slice_get xs j ≡ Some y → p y ≡ true → key x ≤ key y) → Some x ≡ sooner key x (least key (filter p xs))
  unfolding least
  none-less x [] h = refl
  none-less x (y ∷ ys) h = by (p y) refl (none-less x ys (λ j. h (suc j)))
    where
      by : (b : Bool) → p y ≡ b → Some x ≡ sooner key x (least key (filter p ys)) → Some x ≡ sooner key x (least key (filter p (y ∷ ys)))
      by true e r = rw e (r ∙ sym (sooner-over key x y (least key (filter p ys)) (h 0 y refl e)))
      by false e r = rw e r

  -- x at place k passes, none that passes is less, and those before it are greater.
  pub least_at : (xs : List B) (k : ℕ) (x : B) → slice_get xs k ≡ Some x → p x ≡ true
      → ((j : ℕ) (y : B) → slice_get xs j ≡ Some y → p y ≡ true → key x ≤ key y)
      → ((j : ℕ) (y : B) → j < k → slice_get xs j ≡ Some y → p y ≡ true → key x < key y)
      → Some x ≡ least key (filter p xs)
  unfolding least
  least_at [] k x e t lowest first = none-some x e
  least_at (y ∷ ys) zero x e t lowest first = rw (some_inj y x e) (rw t (none-less x ys (λ j. lowest (suc j))))
  least_at (y ∷ ys) (suc k) x e t lowest first =
      by (p y) refl (least_at ys k x e t (λ j. lowest (suc j)) (λ j z l. first (suc j) z (omega (arith, l))))
    where
      by : (b : Bool) → p y ≡ b → Some x ≡ least key (filter p ys) → Some x ≡ least key (filter p (y ∷ ys))
      by true d r = rw d (sym (ap (sooner key y) (sym r) ∙ cond-lt (Some x) (Some y) (first 0 y (omega arith) refl d)))
      by false d r = rw d r

-- Those of a list that is read through f.
pub least-map : {A B : Type 0} (key : B → ℕ) (f : A → B) (xs : List A) → least key (map f xs) ≡ option_map f (least (λ x. key (f x)) xs)
unfolding least
least-map key f [] = refl
least-map key f (x ∷ xs) = ap (sooner key (f x)) (least-map key f xs) ∙ go (least (λ x. key (f x)) xs)
  where
    go : (m : Option _) → sooner key (f x) (option_map f m) ≡ option_map f (sooner (λ y. key (f y)) x m)
    go None = refl
    go (Some y) = sym (cond-ap (option_map f) (ltb (key (f y)) (key (f x))) (Some y) (Some x))

-- ── min_by_key ──────────────────────────────────────────────────────────────

picked : {X : Type 0} (a b : ℕ) (x y : X) → min_by_ordering (nat_cmp a b) x y ≡ cond (ltb b a) y x
picked a b x y = by (nat_cmp a b) (ranked a b (nat_cmp a b) refl)
  where
    by : (o : Ordering) → MatchOrdering o (a < b) (a ≡ b) (b < a) → min_by_ordering o x y ≡ cond (ltb b a) y x
    by Less h = sym (cond-ge y x {m = b} {n = a} (omega (arith, h)))
    by Equal h = sym (cond-ge y x {m = b} {n = a} (omega (arith, h)))
    by Greater h = sym (cond-lt y x h)

module _ {A B F : Type 0} (v : A → B) (key : B → ℕ) {g : Mut F (Bor A × Unit {0}) ℕ} {f : F}
    (reads : (x : A) (k : ℕ) (h : F) → CalledAt g f x k h → (h ≡ f) × (k ≡ key (v x))) where
  turns : (p : (F × ℕ) × A) → p.0.0 ≡ f → p.0.1 ≡ key (v p.1) → (xs : List A) (q : F × ℕ) (y : A)
      → FoldsTo {P = (F × ℕ) × A} (KeyTurn min_by_ordering min_by_ordering g nat_cmp) p xs (q, y) → v y ≡ fold (step key) (v p.1) (map v xs)
  turns p e k [] q y h = ap (λ s. v s.1) (sym h)
  turns p e k (x ∷ xs) q y h =
      let j = h.0 in
      let t = h.1 in
      let called = reads x t.0 j.0.0 (subst (λ s. CalledAt g s x t.0 j.0.0) e t.2) in
      let test : Bool = ltb (key (v x)) (key (v p.1)) in
      let same : ltb t.0 p.0.1 ≡ test = ap₂ ltb called.1 k in
      let now : j.1 ≡ cond test x p.1 = t.5 ∙ ap (λ o. min_by_ordering o p.1 x) (sym t.3) ∙ picked p.0.1 t.0 p.1 x ∙ ap (λ b. cond b x p.1) same in
      let number : j.0.1 ≡ cond test t.0 p.0.1 = t.4 ∙ ap (λ o. min_by_ordering o p.0.1 t.0) (sym t.3) ∙ picked p.0.1 t.0 p.0.1 t.0 ∙ ap (λ b. cond b t.0 p.0.1) same in
      turns j called.0 (number ∙ ap₂ (cond test) called.1 k ∙ sym (ap (λ a. key (v a)) now ∙ cond-ap (λ a. key (v a)) test x p.1)) xs q y h.2
      ∙ ap (λ b. fold (step key) b (map v xs)) (ap v now ∙ cond-ap v test x p.1)

  pub least_from : {S : Type 0} {steps : S → Option A → S → Type 0} {s : S} {all : List B} (r : Option A) → PicksMinByKey steps g nat_cmp s f r
      → YieldsList steps v s all → option_map v r ≡ least key all
  unfolding least
  least_from None h e = ap (least key) (items_from_drains [] (h.1.0, h.1.1, λ _. (h.0, h.1.2)) e)
  least_from (Some y) h e =
      let called = reads h.0 h.2 h.3 h.6 in
      ap Some (turns ((h.3, h.2), h.0) called.0 called.1 h.1 h.4 y h.7) ∙ walked key (v h.0) (map v h.1)
      ∙ ap (least key) (items_from_drains (h.0 ∷ h.1) (h.5.1.0, h.5.1.1, λ _. (h.5.0, h.5.1.2)) e)
