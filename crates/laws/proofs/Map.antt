-- The loop that changes each element at its place, by a function that may read the place: the first i are changed, the others are as they were.
use mathlib.Core.Path.{◌≡◌, refl, sym, ap, ap₂, ◌∙◌}
use mathlib.Core.List.{List, [], ◌∷◌, ◌++◌, map, append_assoc}
use Prim.Native.Nat.{ℕ, suc, ◌+◌, ◌≤◌, ◌<◌}
use native.Mathlib.Nat.{add-zero, zero-add}
use native.Mathlib.Numerals.{add-one}
use native.Mathlib.Omega.{arith}
use lib.ListN.{length, get_or, set, take, drop, length-set, length-map, get_or-map}
use lib.Seq.{length-take-le, take-suc-set, drop-set-lt, set-get_or}
use Rattle.laws.specs.Means.{Means}
use Rattle.laws.specs.Lists.{All, each_at}
use Rattle.laws.proofs.Slices.{Seen, seen-length, seen-take, list-next, drop-next, map-set, Array, array-first, array-read, array-set}

module _ {B C : Type 0} where
  -- f of each element and its place, counted from i.
  abbrev pub map_at : (ℕ → B → C) → ℕ → List B → List C
  map_at f = each_at (λ j x. f j x ∷ [])

  pub map-at-map : (f : B → C) (i : ℕ) (l : List B) → map_at (λ j. f) i l ≡ map f l
  unfolding each_at
  map-at-map f i [] = refl
  map-at-map f i (x ∷ xs) = ap (λ t. f x ∷ t) (map-at-map f (suc i) xs)

  pub each_append : (f : ℕ → B → List C) (i : ℕ) (s t : List B) → each_at f i (s ++ t) ≡ each_at f i s ++ each_at f (i + length s) t
  unfolding each_at
  each_append f i [] t = ap (λ k. each_at f k t) (sym (add-zero i))
  each_append f i (x ∷ s) t =
      ap (λ r. f i x ++ r) (each_append f (suc i) s t ∙ ap (λ k. each_at f (suc i) s ++ each_at f k t) (omega arith))
      ∙ sym (append_assoc (f i x) (each_at f (suc i) s) (each_at f (i + suc (length s)) t))

-- ---- a list

-- w₀ is the list before, w the list now.
pub record Changed {B : Type 0} (f : ℕ → B → B) (w₀ w : List B) (n i : ℕ) : Type 0 where
  pub most : i ≤ n
  pub room : n ≤ length w
  pub done : take i w ≡ map_at f 0 (take i w₀)
  pub left : drop i w ≡ drop i w₀

module _ {B : Type 0} {f : ℕ → B → B} where
  pub changed-first : {w : List B} {n : ℕ} → n ≤ length w → Changed f w w n 0
  unfolding each_at
  changed-first h = record { most = omega arith; room = h; done = refl; left = refl }

  module _ {w₀ w : List B} {n i : ℕ} (e : Changed f w₀ w n i) where
    -- What a turn reads is as it was.
    pub changed-read : (d : B) → i < n → Seen w₀ n i (get_or w i d)
    changed-read d h =
        let k : i < length w = omega (arith, e.room) in
        record { here = h; is = sym e.left ∙ (list-next w d k).is ∙ ap (λ t. get_or w i d ∷ t) (drop-next w w₀ i e.left) }

    -- u is the list after the store.
    pub changed-next : (d : B) {y : B} {u : List B} → i < n → y ≡ f i (get_or w i d) → u ≡ set w i y → Changed f w₀ u n (i + 1)
    unfolding each_at
    changed-next d {y} {u} h q r =
        let a = changed-read d h in
        let k : i < length w = omega (arith, e.room) in
        let place : 0 + length (take i w₀) ≡ i = zero-add (length (take i w₀)) ∙ length-take-le i w₀ (omega (arith, seen-length a)) in
        record {
          most = omega arith;
          room = rw (r, length-set w i y) e.room;
          done =
              ap (take (i + 1)) r ∙ rw add-one (take-suc-set w i y k) ∙ ap₂ (λ s z. s ++ z ∷ []) e.done q
              ∙ ap (λ j. map_at f 0 (take i w₀) ++ map_at f j (get_or w i d ∷ [])) (sym place)
              ∙ sym (ap (map_at f 0) (seen-take a) ∙ each_append (λ j x. f j x ∷ []) 0 (take i w₀) (get_or w i d ∷ []));
          left = ap (drop (i + 1)) r ∙ drop-set-lt (i + 1) w i y (omega arith) ∙ drop-next w w₀ i e.left;
        }

    -- A turn that stores nothing.
    pub changed-skip : (d : B) → i < n → f i (get_or w i d) ≡ get_or w i d → Changed f w₀ w n (i + 1)
    changed-skip d h q = changed-next d h (sym q) (sym (set-get_or w i d))

    pub changed-last : n ≤ i → take n w ≡ map_at f 0 (take n w₀)
    changed-last h = let q : i ≡ n = omega (arith, e.most) in rw q at e.done

-- by a function that does not read the place
pub changed-map : {B : Type 0} {f : B → B} {w₀ w : List B} {n i : ℕ} → Changed (λ j. f) w₀ w n i → n ≤ i → take n w ≡ map f (take n w₀)
changed-map {f = f} {w₀ = w₀} {n = n} e h = changed-last e h ∙ map-at-map f 0 (take n w₀)

-- ---- an array of structs; its last is changed-map or changed-last of `.is`

pub record Mapped {A B : Type 0} (view : A → B) (Ok : A → Type 0) (f : ℕ → B → B) (l₀ l : List A) (n i : ℕ) : Type 0 where
  pub array : Array Ok l₀ l
  pub is : Changed f (map view l₀) (map view l) n i

module _ {A B : Type 0} {view : A → B} {Ok : A → Type 0} {f : ℕ → B → B} where
  pub mapped-first : {l : List A} {n : ℕ} → n ≤ length l → All Ok l → Mapped view Ok f l l n 0
  mapped-first {l} h a = record { array = array-first a; is = changed-first (rw length-map h) }

  module _ {l₀ l : List A} {n i : ℕ} (e : Mapped view Ok f l₀ l n i) (d : A) (h : i < n) where
    pub mapped-read : Ok (get_or l i d)
    mapped-read = array-read e.array d (omega (arith, e.array.size, e.is.room, length-map l view))

    pub mapped_next : {x : A} → Means view Ok x (f i (view (get_or l i d))) → Mapped view Ok f l₀ (set l i x) n (i + 1)
    mapped_next {x} m =
        record {
          array = array-set e.array i m.ok;
          is = changed-next e.is (view d) h (m.is ∙ ap (f i) (sym (get_or-map view l i d))) (map-set view l i x);
        }

    pub mapped-skip : f i (view (get_or l i d)) ≡ view (get_or l i d) → Mapped view Ok f l₀ l n (i + 1)
    mapped-skip q =
        record { array = e.array; is = changed-skip e.is (view d) h (ap (f i) same ∙ q ∙ sym same) }
      where
        same : get_or (map view l) i (view d) ≡ view (get_or l i d)
        same = get_or-map view l i d
