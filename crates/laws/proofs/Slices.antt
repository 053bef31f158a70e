-- A list read and written by place: `nth` and `modify` by `get_or` and `set`, what is left of a view from a place on, what holds of all.
use mathlib.Core.Path.{◌≡◌, refl, sym, ap, ◌∙◌}
use mathlib.Core.Bool.{true, false}
use mathlib.Core.Logic.{◌≢◌}
use Rattle.std.specs.Prelude.{None, Some, option_map, slice_get}
use mathlib.Core.List.{List, [], ◌∷◌, ◌++◌, map}
use Prim.Native.Nat.{ℕ, zero, suc, ◌+◌, ◌≤◌, ◌<◌}
use native.Mathlib.Nat.{le_of_suc-le-suc, not-suc-le-zero, zero-add, suc-add, add-zero}
use native.Mathlib.Numerals.{add-one}
use native.Mathlib.Omega.{arith}
use lib.ListN.{length, get_or, set, take, drop, replicate, length-map, get_or-map, get_or-replicate, length-replicate, length-set}
use lib.Seq.{drop-nil, drop-cons, slice-cons, length-take-le, take-set-lt, get_or-drop, take-suc, drop-drop}
use Rattle.laws.specs.Lists.{All, head, rest, is_empty, modify}

-- ---- one element

module _ {A : Type 0} where
  -- below the length it is all one what a read past the end would give
  pub get_d_any : (l : List A) (a b : A) {i : ℕ} → i < length l → get_or l i a ≡ get_or l i b
  get_d_any [] a b h = absurd (not-suc-le-zero h)
  get_d_any (x ∷ xs) a b {i = zero} h = refl
  get_d_any (x ∷ xs) a b {i = suc i} h = get_d_any xs a b (le_of_suc-le-suc h)

  pub nth-get_or : (l : List A) (d : A) {i : ℕ} → i < length l → slice_get l i ≡ Some (get_or l i d)
  nth-get_or [] d h = absurd (not-suc-le-zero h)
  nth-get_or (x ∷ xs) d {i = zero} h = refl
  nth-get_or (x ∷ xs) d {i = suc i} h = nth-get_or xs d (le_of_suc-le-suc h)

  pub nth_end : (l : List A) {i : ℕ} → length l ≤ i → slice_get l i ≡ None
  nth_end [] h = refl
  nth_end (x ∷ xs) {i = zero} h = absurd (not-suc-le-zero h)
  nth_end (x ∷ xs) {i = suc i} h = nth_end xs (le_of_suc-le-suc h)

  pub nth-take : (l : List A) {n i : ℕ} → i < n → slice_get (take n l) i ≡ slice_get l i
  nth-take l {n = zero} h = absurd (not-suc-le-zero h)
  nth-take [] {n = suc n} h = refl
  nth-take (x ∷ xs) {n = suc n} {i = zero} h = refl
  nth-take (x ∷ xs) {n = suc n} {i = suc i} h = nth-take xs (le_of_suc-le-suc h)

  pub nth_drop : (l : List A) (n i : ℕ) → slice_get (drop n l) i ≡ slice_get l (n + i)
  nth_drop l zero i = rw zero-add
  nth_drop [] (suc n) i = refl
  nth_drop (x ∷ xs) (suc n) i = rw suc-add (nth_drop xs n i)

  pub nth-append : (s t : List A) {i : ℕ} → i < length s → slice_get (s ++ t) i ≡ slice_get s i
  nth-append [] t h = absurd (not-suc-le-zero h)
  nth-append (x ∷ s) t {i = zero} h = refl
  nth-append (x ∷ s) t {i = suc i} h = nth-append s t (le_of_suc-le-suc h)

  pub nth-append-add : (s t : List A) (i : ℕ) → slice_get (s ++ t) (length s + i) ≡ slice_get t i
  nth-append-add [] t i = rw zero-add
  nth-append-add (x ∷ s) t i = rw suc-add (nth-append-add s t i)

  pub nth-set-same : (l : List A) (x : A) {i : ℕ} → i < length l → slice_get (set l i x) i ≡ Some x
  nth-set-same [] x h = absurd (not-suc-le-zero h)
  nth-set-same (y ∷ ys) x {i = zero} h = refl
  nth-set-same (y ∷ ys) x {i = suc i} h = nth-set-same ys x (le_of_suc-le-suc h)

  pub nth-set-other : (l : List A) (x : A) {i j : ℕ} → j ≢ i → slice_get (set l i x) j ≡ slice_get l j
  nth-set-other [] x h = refl
  nth-set-other (y ∷ ys) x {i = zero} {j = zero} h = absurd (h refl)
  nth-set-other (y ∷ ys) x {i = zero} {j = suc j} h = refl
  nth-set-other (y ∷ ys) x {i = suc i} {j = zero} h = refl
  nth-set-other (y ∷ ys) x {i = suc i} {j = suc j} h = nth-set-other ys x (λ e. h (ap suc e))

  -- past the end both leave the list as it is
  pub modify-set : (i : ℕ) (f : A → A) (l : List A) (d : A) → modify i f l ≡ set l i (f (get_or l i d))
  unfolding modify
  modify-set i f [] d = refl
  modify-set zero f (x ∷ xs) d = refl
  modify-set (suc i) f (x ∷ xs) d = ap (λ t. x ∷ t) (modify-set i f xs d)

  pub modify-end : (f : A → A) (l : List A) {i : ℕ} → length l ≤ i → modify i f l ≡ l
  unfolding modify
  modify-end f [] h = refl
  modify-end f (x ∷ xs) {i = zero} h = absurd (not-suc-le-zero h)
  modify-end f (x ∷ xs) {i = suc i} h = ap (λ t. x ∷ t) (modify-end f xs (le_of_suc-le-suc h))

  pub length-modify : (i : ℕ) (f : A → A) (l : List A) → length (modify i f l) ≡ length l
  unfolding modify
  length-modify i f [] = refl
  length-modify zero f (x ∷ xs) = refl
  length-modify (suc i) f (x ∷ xs) = ap suc (length-modify i f xs)

  pub nth-modify-same : (i : ℕ) (f : A → A) (l : List A) → slice_get (modify i f l) i ≡ option_map f (slice_get l i)
  unfolding modify
  nth-modify-same i f [] = refl
  nth-modify-same zero f (x ∷ xs) = refl
  nth-modify-same (suc i) f (x ∷ xs) = nth-modify-same i f xs

  pub nth-modify-other : (f : A → A) (l : List A) {i j : ℕ} → j ≢ i → slice_get (modify i f l) j ≡ slice_get l j
  unfolding modify
  nth-modify-other f [] h = refl
  nth-modify-other f (y ∷ ys) {i = zero} {j = zero} h = absurd (h refl)
  nth-modify-other f (y ∷ ys) {i = zero} {j = suc j} h = refl
  nth-modify-other f (y ∷ ys) {i = suc i} {j = zero} h = refl
  nth-modify-other f (y ∷ ys) {i = suc i} {j = suc j} h = nth-modify-other f ys (λ e. h (ap suc e))

  pub head-nth : (l : List A) → head l ≡ slice_get l 0
  unfolding head
  head-nth [] = refl
  head-nth (x ∷ xs) = refl

  pub rest-drop : (l : List A) → rest l ≡ drop 1 l
  unfolding rest
  rest-drop [] = refl
  rest-drop (x ∷ xs) = refl

  pub empty-yes : (l : List A) → length l ≡ 0 → is_empty l ≡ true
  unfolding is_empty
  empty-yes [] e = refl
  empty-yes (x ∷ xs) e = absurd (let z : ⊥ = omega arith in z)

  pub empty-no : (l : List A) → 0 < length l → is_empty l ≡ false
  unfolding is_empty
  empty-no [] h = absurd (not-suc-le-zero h)
  empty-no (x ∷ xs) h = refl

module _ {A B : Type 0} (v : A → B) where
  pub map-set : (l : List A) (i : ℕ) (x : A) → map v (set l i x) ≡ set (map v l) i (v x)
  map-set [] i x = refl
  map-set (a ∷ l) zero x = refl
  map-set (a ∷ l) (suc i) x = ap (λ t. v a ∷ t) (map-set l i x)

  pub take-map : (n : ℕ) (l : List A) → take n (map v l) ≡ map v (take n l)
  take-map zero l = refl
  take-map (suc n) [] = refl
  take-map (suc n) (x ∷ xs) = ap (λ t. v x ∷ t) (take-map n xs)

-- ---- what is left from a place on

-- x stands at place i of w, in a walk over the places below n.
pub record Seen {A : Type 0} (w : List A) (n i : ℕ) (x : A) : Type 0 where
  pub here : i < n
  pub is : drop i w ≡ x ∷ drop (i + 1) w

module _ {A : Type 0} where
  -- a list to its end, as a lent slice
  pub list-next : (l : List A) (d : A) {i : ℕ} → i < length l → Seen l (length l) i (get_or l i d)
  list-next l d {i} h = record { here = h; is = rw add-one (drop-cons l i d h) }

  -- an array with a count: the view is its first n elements
  pub slice-next : (l : List A) (d : A) {n i : ℕ} → n ≤ length l → i < n → Seen (take n l) n i (get_or l i d)
  slice-next l d {n} {i} k h = record { here = h; is = rw add-one (slice-cons i n l d h k) }

  pub slice-end : (l : List A) {n i : ℕ} → n ≤ i → drop i (take n l) ≡ []
  slice-end l {n = zero} {i} h = drop-nil i
  slice-end [] {n = suc n} {i} h = drop-nil i
  slice-end (x ∷ xs) {n = suc n} {i = zero} h = absurd (not-suc-le-zero h)
  slice-end (x ∷ xs) {n = suc n} {i = suc i} h = slice-end xs (le_of_suc-le-suc h)

  -- one value, n times
  pub replicate_next : (x : A) {n i : ℕ} → i < n → Seen (replicate n x) n i x
  replicate_next x {n} {i} h =
      record {
        here = h;
        is = rw add-one (drop-cons (replicate n x) i x (rw (length-replicate n x) h) ∙ rw (get_or-replicate n i x x h));
      }

  pub drop-set : (l : List A) (x : A) {i : ℕ} → i < length l → drop i (set l i x) ≡ x ∷ drop (i + 1) l
  drop-set [] x h = absurd (not-suc-le-zero h)
  drop-set (y ∷ ys) x {i = zero} h = refl
  drop-set (y ∷ ys) x {i = suc i} h = drop-set ys x (le_of_suc-le-suc h) ∙ rw (add-one i, add-one (suc i))

  -- alike from a place on: alike from the next
  pub drop-next : (l m : List A) (i : ℕ) → drop i l ≡ drop i m → drop (i + 1) l ≡ drop (i + 1) m
  drop-next l m i e = sym (drop-drop 1 i l) ∙ ap (drop 1) e ∙ drop-drop 1 i m

  pub end-length : (w : List A) (i : ℕ) → drop i w ≡ [] → length w ≤ i
  end-length [] i e = omega arith
  end-length (x ∷ xs) zero e = absurd (let z : ◌≡◌ {A = ℕ} 0 1 = cc in omega arith)
  end-length (x ∷ xs) (suc i) e = omega (arith, end-length xs i e)

  module _ {w : List A} {n i : ℕ} {x : A} (s : Seen w n i x) where
    pub seen-length : i < length w
    seen-length = inside w i s.is
      where
        inside : (l : List A) (j : ℕ) {y : A} {ys : List A} → drop j l ≡ y ∷ ys → j < length l
        inside [] j e = absurd (let z : ◌≡◌ {A = ℕ} 0 1 = cc (drop-nil {A = A} j) in omega arith)
        inside (y ∷ ys) zero e = omega arith
        inside (y ∷ ys) (suc j) e = omega (arith, inside ys j e)

    pub seen-get_or : (d : A) → get_or w i d ≡ x
    seen-get_or d = ap (λ k. get_or w k d) (sym (add-zero i)) ∙ sym (get_or-drop i w 0 d) ∙ ap (λ t. get_or t 0 d) s.is

    pub seen-take : take (i + 1) w ≡ take i w ++ x ∷ []
    seen-take = rw (add-one, take-suc w i x seen-length, seen-get_or x)

    pub seen-nth : slice_get w i ≡ Some x
    seen-nth = nth-get_or w x seen-length ∙ ap Some (seen-get_or x)

    pub seen-modify : (f : A → A) → modify i f w ≡ set w i (f x)
    seen-modify f = modify-set i f w x ∙ ap (λ y. set w i (f y)) (seen-get_or x)

-- an array of structs with a count: the view is what its first n elements mean
module _ {A B : Type 0} (v : A → B) (l : List A) {n : ℕ} where
  pub view-length : n ≤ length l → length (take n (map v l)) ≡ n
  view-length k = length-take-le n (map v l) (rw length-map k)

  -- read from what the array means, and read from the array
  pub view-seen : {w : List B} (d : A) {i : ℕ} → Seen w n i (get_or (map v l) i (v d)) → Seen w n i (v (get_or l i d))
  view-seen d {i} s = rw (get_or-map v l i d) at s

  pub view-next : (d : A) {i : ℕ} → n ≤ length l → i < n → Seen (take n (map v l)) n i (v (get_or l i d))
  view-next d k h = view-seen d (slice-next (map v l) (v d) (rw length-map k) h)

  pub view-set : (x : A) {i : ℕ} → i < n → take n (map v (set l i x)) ≡ set (take n (map v l)) i (v x)
  view-set x {i} h = rw (map-set v l i x, take-set-lt n (map v l) i (v x) h)

  pub view-modify : (f : B → B) (d : A) {x : A} {i : ℕ} → n ≤ length l → i < n → v x ≡ f (v (get_or l i d))
      → take n (map v (set l i x)) ≡ modify i f (take n (map v l))
  view-modify f d {x} {i} k h e =
      view-set x h ∙ ap (set (take n (map v l)) i) e ∙ sym (seen-modify (view-next d k h) f)

-- ---- what holds of all

module _ {A : Type 0} (P : A → Type 0) where
  pub All-get_or : (l : List A) (d : A) {i : ℕ} → All P l → i < length l → P (get_or l i d)
  All-get_or [] d a h = absurd (not-suc-le-zero h)
  All-get_or (x ∷ xs) d {i = zero} a h = a.0
  All-get_or (x ∷ xs) d {i = suc i} a h = All-get_or xs d a.1 (le_of_suc-le-suc h)

  pub All-seen : (w : List A) {n i : ℕ} {x : A} → All P w → Seen w n i x → P x
  All-seen w {x = x} a s = rw (seen-get_or s x) at (All-get_or w x a (seen-length s))

  pub All-set : (l : List A) (i : ℕ) (x : A) → All P l → P x → All P (set l i x)
  All-set [] i x a p = a
  All-set (y ∷ ys) zero x a p = (p, a.1)
  All-set (y ∷ ys) (suc i) x a p = (a.0, All-set ys i x a.1 p)

  pub All-modify : (i : ℕ) (f : A → A) (l : List A) → ((x : A) → P x → P (f x)) → All P l → All P (modify i f l)
  unfolding modify
  All-modify i f [] h a = a
  All-modify zero f (x ∷ xs) h a = (h x a.0, a.1)
  All-modify (suc i) f (x ∷ xs) h a = (a.0, All-modify i f xs h a.1)

  pub All-take : (n : ℕ) (l : List A) → All P l → All P (take n l)
  All-take zero l a = tt
  All-take (suc n) [] a = a
  All-take (suc n) (x ∷ xs) a = (a.0, All-take n xs a.1)

  pub All-drop : (n : ℕ) (l : List A) → All P l → All P (drop n l)
  All-drop zero l a = a
  All-drop (suc n) [] a = a
  All-drop (suc n) (x ∷ xs) a = All-drop n xs a.1

  pub All-append : (s t : List A) → All P s → All P t → All P (s ++ t)
  All-append [] t a b = b
  All-append (x ∷ s) t a b = (a.0, All-append s t a.1 b)

  pub All-replicate : (n : ℕ) (x : A) → P x → All P (replicate n x)
  All-replicate zero x p = tt
  All-replicate (suc n) x p = (p, All-replicate n x p)

-- The elements of an array stay as many and stay well formed.
pub record Array {A : Type 0} (Ok : A → Type 0) (l₀ l : List A) : Type 0 where
  pub size : length l ≡ length l₀
  pub each : All Ok l

module _ {A : Type 0} {Ok : A → Type 0} where
  pub array-first : {l : List A} → All Ok l → Array Ok l l
  array-first a = record { size = refl; each = a }

  module _ {l₀ l : List A} (e : Array Ok l₀ l) where
    pub array-read : (d : A) {i : ℕ} → i < length l₀ → Ok (get_or l i d)
    array-read d h = All-get_or Ok l d e.each (omega (arith, e.size))

    pub array-set : (i : ℕ) {x : A} → Ok x → Array Ok l₀ (set l i x)
    array-set i {x} p = record { size = length-set l i x ∙ e.size; each = All-set Ok l i x e.each p }

-- what follows, of f of each element
pub All-map : {A B : Type 0} (P : A → Type 0) (Q : B → Type 0) (f : A → B) (l : List A) → ((x : A) → P x → Q (f x)) → All P l → All Q (map f l)
All-map P Q f [] h a = tt
All-map P Q f (x ∷ xs) h a = (h x a.0, All-map P Q f xs h a.1)
