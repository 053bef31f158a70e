-- Places that are a size apart: the one that a walk has come to, and an array that a walk fills with what it reads there.
use mathlib.Core.Path.{◌≡◌, refl, sym, ap, ap₂, ◌∙◌}
use mathlib.Core.List.{List, [], ◌∷◌, map}
use Prim.Native.Nat.{ℕ, zero, suc, ◌+◌, ◌-◌, ◌*◌, ◌≤◌, ◌<◌}
use native.Mathlib.Nat.{le_of_suc-le-suc, not-suc-le-zero, suc-mul, zero-mul}
use native.Mathlib.Numerals.{add-one}
use native.Mathlib.Omega.{arith}
use lib.ListN.{length, get_or, set, take, drop, length-drop, drop_of_length-le}
use lib.Seq.{take_all, get_or-drop}
use Rattle.laws.specs.Lists.{each_at}
use Rattle.laws.proofs.Slices.{Seen, slice-next, map-set, end-length}
use Rattle.laws.proofs.Map.{map_at, Changed, changed-first, changed-next, changed-last}
use Rattle.decoding.specs.Bytes.{places, parts_at}

pub places-next : (size at : ℕ) {n i : ℕ} → i < n → Seen (places size n at) n i (at + i * size)
unfolding places
places-next size at {n} {i} h = record { here = h; is = rw add-one (go n i at h) }
  where
    go : (n i at : ℕ) → i < n → drop i (places size n at) ≡ (at + i * size) ∷ drop (suc i) (places size n at)
    go zero i at h = absurd (not-suc-le-zero h)
    go (suc n) zero at h = ap (λ p. p ∷ places size n (at + size)) (omega (arith, zero-mul size))
    go (suc n) (suc i) at h =
        let p : at + size + i * size ≡ at + suc i * size = omega (arith, suc-mul i size) in
        go n i (at + size) (le_of_suc-le-suc h) ∙ ap (λ q. q ∷ drop (suc i) (places size n (at + size))) p

-- What an array holds where each element is read at its own place.
reads : {B : Type 0} (g : ℕ → B) (size at k : ℕ) (w : List B)
    → map_at (λ j b. g (at + j * size)) k w ≡ map g (places size (length w) (at + k * size))
unfolding places each_at
reads g size at k [] = refl
reads g size at k (x ∷ xs) =
    let p : at + suc k * size ≡ at + k * size + size = omega (arith, suc-mul k size) in
    ap (λ t. g (at + k * size) ∷ t) (reads g size at (suc k) xs ∙ ap (λ q. map g (places size (length xs) q)) p)

-- The first i of n parts stand in w; it was w₀.
pub record Filled {B : Type 0} (f : List ℕ → ℕ → B) (size : ℕ) (l : List ℕ) (at : ℕ) (w₀ w : List B) (n i : ℕ) : Type 0 where
  pub is : Changed (λ j b. f l (at + j * size)) w₀ w n i

module _ {B : Type 0} {f : List ℕ → ℕ → B} {size : ℕ} {l : List ℕ} {at : ℕ} where
  pub filled-first : {w : List B} {n : ℕ} → n ≤ length w → Filled f size l at w w n 0
  filled-first h = record { is = changed-first h }

  module _ {w₀ w : List B} {n i : ℕ} (e : Filled f size l at w₀ w n i) where
    -- y is read at p, u is the array after the store.
    pub filled_next : {p : ℕ} {y : B} {u : List B} → i < n → p ≡ at + i * size → y ≡ f l p → u ≡ set w i y
        → Filled f size l at w₀ u n (i + 1)
    filled_next h q r s = record { is = changed-next e.is (f l at) h (r ∙ ap (f l) q) s }

    -- w is what the elements of an array mean.
    pub filled-view : {A : Type 0} (v : A → B) (out : List A) (x : A) {p : ℕ} → w ≡ map v out → i < n → p ≡ at + i * size → v x ≡ f l p
        → Filled f size l at w₀ (map v (set out i x)) n (i + 1)
    filled-view v out x m h q r = filled_next h q r (map-set v out i x ∙ ap (λ t. set t i (v x)) (sym m))

    pub filled-last : length w₀ ≡ n → n ≤ i → w ≡ parts_at f size n l at
    unfolding parts_at
    filled-last q h =
        let same : i ≡ n = omega (arith, e.is.most) in
        let first : at + 0 * size ≡ at = omega (arith, zero-mul size) in
        let none : drop n w ≡ [] = sym (ap (λ k. drop k w) same) ∙ e.is.left ∙ drop_of_length-le w₀ {i = i} (omega arith) in
        sym (take_all n w (end-length w n none)) ∙ changed-last e.is h
        ∙ ap (map_at (λ j b. f l (at + j * size)) 0) (take_all n w₀ (omega arith))
        ∙ reads (f l) size at 0 w₀
        ∙ ap₂ (λ m p. map (f l) (places size m p)) q first

-- What a slice by its two ends holds.
pub cut : (at n : ℕ) → at + n - at ≡ n
cut at n = omega arith

-- The byte that a walk over n bytes from `at` on has come to.
pub byte_next : (l : List ℕ) (at : ℕ) {n i : ℕ} → at + n ≤ length l → i < n → Seen (take n (drop at l)) n i (get_or l (at + i) 0)
byte_next l at {n} {i} k h = rw (get_or-drop at l i 0) at (slice-next (drop at l) 0 (rw length-drop (omega arith)) h)
