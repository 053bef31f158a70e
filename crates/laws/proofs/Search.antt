-- The loop that searches or folds: what is left gives what the whole gives. A law for any fold, and what each fold of specs/Lists does at an element.
use mathlib.Core.Path.{◌≡◌, refl, sym, ap, ap₂, ◌∙◌}
use mathlib.Core.Bool.{Bool, true, false, cond, ◌||◌, ◌&&◌}
use Rattle.std.specs.Prelude.{None, Some}
use mathlib.Core.List.{List, [], ◌∷◌, ◌++◌, append_assoc, append-nil}
use Prim.Native.Nat.{ℕ, suc, ◌+◌, ◌≤◌}
use native.Mathlib.Nat.{add-zero, zero-add}
use native.Mathlib.Numerals.{add-one}
use native.Mathlib.Omega.{arith}
use lib.Dec.{eqb}
use lib.ListN.{length, drop}
use borrow.Author.Tests.{eq-eqb, ne_eqb}
use Rattle.std.specs.Option.{option_or}
use Rattle.laws.specs.Lists.{count, find_at, any_at, each_at}
use Rattle.std.specs.List.{list_any, list_all}
use Rattle.laws.specs.Texts.{Text, same}
use Rattle.laws.proofs.Tests.{and-no-second}
use Rattle.laws.proofs.Slices.{Seen}

-- The walk over the places of w below n has come to i with s in hand; it began with s₀. The invariant of each fold:
--     any, all           Scan (λ (j : ℕ). any p) 0 w n i i
--     find_at, any_at    Scan (find_at p) 0 w n i i
--     count              Scan (counting p) 0 w n k i
--     same               Scan same a w n (drop i a) i
pub record Scan {S A B : Type 0} (g : S → List A → B) (s₀ : S) (w : List A) (n : ℕ) (s : S) (i : ℕ) : Type 0 where
  pub most : i ≤ n
  pub is : g s₀ w ≡ g s (drop i w)

pub scan-first : {S A B : Type 0} {g : S → List A → B} {s : S} {w : List A} {n : ℕ} → Scan g s w n s 0
scan-first = record { most = omega arith; is = refl }

module _ {S A B : Type 0} {g : S → List A → B} {s₀ s : S} {w : List A} {n i : ℕ} (e : Scan g s₀ w n s i) where
  -- The walk goes on.
  pub scan-next : {t : S} {x : A} → Seen w n i x → ((xs : List A) → g s (x ∷ xs) ≡ g t xs) → Scan g s₀ w n t (i + 1)
  scan-next {t} {x} a h = record { most = omega (arith, a.here); is = e.is ∙ ap (g s) a.is ∙ h (drop (i + 1) w) }

  -- It ends at an element.
  pub scan-stop : {r : B} {x : A} → Seen w n i x → ((xs : List A) → g s (x ∷ xs) ≡ r) → r ≡ g s₀ w
  scan-stop {r} {x} a h = sym (e.is ∙ ap (g s) a.is ∙ h (drop (i + 1) w))

  -- It ends behind the last.
  pub scan-last : {r : B} → drop i w ≡ [] → g s [] ≡ r → r ≡ g s₀ w
  scan-last d h = sym (e.is ∙ ap (g s) d ∙ h)

-- The fold that takes each element into what it has in hand: g s (x ∷ xs) is g (step s x) xs.
pub fold_next : {S A B : Type 0} {g : S → List A → B} (step : S → A → S) {s₀ s t : S} {w : List A} {n i : ℕ} {x : A}
    → ((u : S) (y : A) (xs : List A) → g u (y ∷ xs) ≡ g (step u y) xs)
    → Scan g s₀ w n s i
    → Seen w n i x
    → t ≡ step s x
    → Scan g s₀ w n t (i + 1)
fold_next {g = g} step {s = s} {x = x} law e a q = scan-next e a (λ xs. law s x xs ∙ ap (λ u. g u xs) (sym q))

-- ---- what each fold does at an element and at the end: the last argument of the laws above

module _ {A : Type 0} (p : A → Bool) where
  pub any-hit : {x : A} → p x ≡ true → (xs : List A) → list_any p (x ∷ xs) ≡ true
  any-hit e xs = ap (λ b. b || list_any p xs) e

  pub any-miss : {x : A} → p x ≡ false → (xs : List A) → list_any p (x ∷ xs) ≡ list_any p xs
  any-miss e xs = ap (λ b. b || list_any p xs) e

  pub any-end : list_any p [] ≡ false
  any-end = refl

  pub all-hit : {x : A} → p x ≡ false → (xs : List A) → list_all p (x ∷ xs) ≡ false
  all-hit e xs = ap (λ b. b && list_all p xs) e

  pub all-miss : {x : A} → p x ≡ true → (xs : List A) → list_all p (x ∷ xs) ≡ list_all p xs
  all-miss e xs = ap (λ b. b && list_all p xs) e

  pub all_end : list_all p [] ≡ true
  all_end = refl

  -- k have passed so far.
  abbrev pub counting : ℕ → List A → ℕ
  counting k xs = k + count p xs

  pub count-hit : (k : ℕ) {x : A} → p x ≡ true → (xs : List A) → counting k (x ∷ xs) ≡ counting (k + 1) xs
  unfolding count
  count-hit k e xs = ap (λ b. k + (cond b 1 0 + count p xs)) e ∙ omega arith

  pub count-miss : (k : ℕ) {x : A} → p x ≡ false → (xs : List A) → counting k (x ∷ xs) ≡ counting k xs
  unfolding count
  count-miss k e xs = ap (λ b. k + (cond b 1 0 + count p xs)) e ∙ omega arith

  pub count-last : {w : List A} {n k i : ℕ} → Scan counting 0 w n k i → drop i w ≡ [] → k ≡ count p w
  unfolding count
  count-last {w} {k = k} e d = scan-last e d (add-zero k) ∙ zero-add (count p w)

  pub count_most : (xs : List A) → count p xs ≤ length xs
  unfolding count
  count_most [] = omega arith
  count_most (x ∷ xs) = omega (arith, one (p x), count_most xs)
    where
      one : (b : Bool) → cond b 1 0 ≤ 1
      one true = omega arith
      one false = omega arith

module _ {A : Type 0} (p : ℕ → A → Bool) where
  pub find-hit : {i : ℕ} {x : A} → p i x ≡ true → (xs : List A) → find_at p i (x ∷ xs) ≡ Some i
  unfolding find_at
  find-hit {i} e xs = ap (λ b. option_or (cond b (Some i) None) (find_at p (suc i) xs)) e

  pub find-miss : {i : ℕ} {x : A} → p i x ≡ false → (xs : List A) → find_at p i (x ∷ xs) ≡ find_at p (i + 1) xs
  unfolding find_at
  find-miss {i} e xs = ap (λ b. option_or (cond b (Some i) None) (find_at p (suc i) xs)) e ∙ rw add-one

  pub find-end : (i : ℕ) → find_at p i [] ≡ None
  unfolding find_at
  find-end i = refl

  pub any-at-hit : {i : ℕ} {x : A} → p i x ≡ true → (xs : List A) → any_at p i (x ∷ xs) ≡ true
  unfolding any_at
  any-at-hit {i} e xs = ap (λ b. b || any_at p (suc i) xs) e

  pub any-at-miss : {i : ℕ} {x : A} → p i x ≡ false → (xs : List A) → any_at p i (x ∷ xs) ≡ any_at p (i + 1) xs
  unfolding any_at
  any-at-miss {i} e xs = ap (λ b. b || any_at p (suc i) xs) e ∙ rw add-one

  pub any-at-end : (i : ℕ) → any_at p i [] ≡ false
  unfolding any_at
  any-at-end i = refl

-- ---- each_at: what comes of each element is put behind what has come out so far

pub record Collected {A B : Type 0} (f : ℕ → A → List B) (w : List A) (n : ℕ) (out : List B) (i : ℕ) : Type 0 where
  pub most : i ≤ n
  pub is : out ++ each_at f i (drop i w) ≡ each_at f 0 w

module _ {A B : Type 0} {f : ℕ → A → List B} {w : List A} {n : ℕ} where
  pub collected-first : Collected f w n [] 0
  collected-first = record { most = omega arith; is = refl }

  module _ {out : List B} {i : ℕ} (e : Collected f w n out i) where
    -- o is what has come out then.
    pub collected-next : {x : A} {o r : List B} → Seen w n i x → f i x ≡ r → o ≡ out ++ r → Collected f w n o (i + 1)
    unfolding each_at
    collected-next {x} {o} {r} a p q =
        record {
          most = omega (arith, a.here);
          is =
              ap₂ (λ s j. s ++ each_at f j (drop (i + 1) w)) q (add-one i) ∙ append_assoc out r (each_at f (suc i) (drop (i + 1) w))
              ∙ ap (λ t. out ++ (t ++ each_at f (suc i) (drop (i + 1) w))) (sym p)
              ∙ ap (λ t. out ++ each_at f i t) (sym a.is)
              ∙ e.is;
        }

    -- Nothing comes of x.
    pub collected-skip : {x : A} → Seen w n i x → f i x ≡ [] → Collected f w n out (i + 1)
    collected-skip a p = collected-next a p (sym (append-nil out))

    pub collected-last : drop i w ≡ [] → out ≡ each_at f 0 w
    unfolding each_at
    collected-last d = sym (append-nil out) ∙ ap (λ t. out ++ each_at f i t) (sym d) ∙ e.is

-- ---- same: two texts, place by place

module _ {a : Text} {m i x : ℕ} (s : Seen a m i x) where
  pub same-hit : {y : ℕ} → (x ≡ y → ⊥) → (ys : Text) → same (drop i a) (y ∷ ys) ≡ false
  unfolding same
  same-hit {y} h ys = ap (λ t. same t (y ∷ ys)) s.is ∙ ap (λ b. b && same (drop (i + 1) a) ys) (ne_eqb x y h)

  pub same-miss : {y : ℕ} → x ≡ y → (ys : Text) → same (drop i a) (y ∷ ys) ≡ same (drop (i + 1) a) ys
  unfolding same
  same-miss {y} e ys = ap (λ t. same t (y ∷ ys)) s.is ∙ ap (λ b. b && same (drop (i + 1) a) ys) (eq-eqb x y e)

pub same_end : {a : Text} → a ≡ [] → same a [] ≡ true
unfolding same
same_end e = ap (λ t. same t []) e

pub same-lengths : (a b : Text) → (length a ≡ length b → ⊥) → same a b ≡ false
unfolding same
same-lengths [] [] h = absurd (h refl)
same-lengths [] (y ∷ ys) h = refl
same-lengths (x ∷ xs) [] h = refl
same-lengths (x ∷ xs) (y ∷ ys) h = and-no-second (eqb x y) (same-lengths xs ys (λ e. h (ap suc e)))
