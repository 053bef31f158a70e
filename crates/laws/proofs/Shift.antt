-- The loop that takes one element out and moves those behind it down by one, and a push at the end.
use mathlib.Core.Path.{◌≡◌, refl, sym, ap, ap₂, ◌∙◌}
use mathlib.Core.List.{List, [], ◌∷◌, ◌++◌, map}
use Prim.Native.Nat.{ℕ, ◌+◌, ◌-◌, ◌≤◌, ◌<◌}
use native.Mathlib.Numerals.{add-one}
use native.Mathlib.Omega.{arith}
use lib.ListN.{length, get_or, set, take, drop, length-set, length-map, get_or-map}
use lib.Seq.{drop-set-lt, take_at, drop_at, take-add, take-take, take-append-add, length-take-le, take-suc-set, append_snoc}
use Rattle.laws.specs.Lists.{All}
use Rattle.laws.proofs.Slices.{list-next, map-set, Array, array-first, array-read, array-set}

slice-take : {A : Type 0} (n m : ℕ) (l : List A) → n ≤ length l → drop n (take (n + m) l) ≡ take m (drop n l)
slice-take n m l h = ap (drop n) (take-add n m l) ∙ drop_at (take n l) (take m (drop n l)) n (length-take-le n l h)

-- w₀ is the array before, w the array now, with n elements in use: the one at place p goes, and those up to j have moved.
pub record Shifted {A : Type 0} (p : ℕ) (w₀ w : List A) (n j : ℕ) : Type 0 where
  pub least : p ≤ j
  pub most : j < n
  pub room : n ≤ length w₀
  pub size : length w ≡ length w₀
  pub is : take j w ++ drop (j + 1) w ≡ take p w₀ ++ drop (p + 1) w₀

module _ {A : Type 0} where
  -- u is the array after the store.
  pub pushed : (w : List A) (n : ℕ) (x : A) {u : List A} → n < length w → u ≡ set w n x → take (n + 1) u ≡ take n w ++ x ∷ []
  pushed w n x h q = rw (q, add-one) (take-suc-set w n x h)

  pub shifted-first : {p n : ℕ} {w : List A} → p < n → n ≤ length w → Shifted p w w n p
  shifted-first h k = record { least = omega arith; most = h; room = k; size = refl; is = refl }

  module _ {p n j : ℕ} {w₀ w : List A} (e : Shifted p w₀ w n j) where
    -- x is what stands behind, u the array after the store.
    pub shifted_next : (d : A) {x : A} {u : List A} → j + 1 < n → get_or w (j + 1) d ≡ x → u ≡ set w j x → Shifted p w₀ u n (j + 1)
    shifted_next d {x} {u} h q r =
        let here : j < length w = omega (arith, e.room, e.size) in
        let next : j + 1 < length w = omega (arith, e.room, e.size) in
        let behind : drop (j + 1) w ≡ x ∷ drop (j + 1 + 1) w = (list-next w d next).is ∙ ap (λ y. y ∷ drop (j + 1 + 1) w) q in
        record {
          least = omega (arith, e.least);
          most = h;
          room = e.room;
          size = ap length r ∙ length-set w j x ∙ e.size;
          is =
              ap₂ (λ s t. s ++ t) (pushed w j x here r) (ap (drop (j + 1 + 1)) r ∙ drop-set-lt (j + 1 + 1) w j x (omega arith))
              ∙ append_snoc (take j w) x (drop (j + 1 + 1) w)
              ∙ ap (λ t. take j w ++ t) (sym behind)
              ∙ e.is;
        }

    pub shifted-last : n ≤ j + 1 → take (n - 1) w ≡ take p (take n w₀) ++ drop (p + 1) (take n w₀)
    shifted-last h =
        let m : ℕ = j - p in
        let start : length (take p w₀) ≡ p = length-take-le p w₀ (omega (arith, e.least, e.most, e.room)) in
        let split : n ≡ p + 1 + m = omega (arith, e.least, e.most) in
        let all : j ≡ length (take p w₀) + m = omega (arith, e.least) in
        ap (λ k. take k w) (let z : n - 1 ≡ j = omega (arith, e.most) in z)
        ∙ sym (take_at (take j w) (drop (j + 1) w) j (length-take-le j w (omega (arith, e.most, e.room, e.size))))
        ∙ ap (take j) e.is
        ∙ ap (λ k. take k (take p w₀ ++ drop (p + 1) w₀)) all
        ∙ take-append-add (take p w₀) (drop (p + 1) w₀) m
        ∙ ap₂ (λ s t. s ++ t)
        (sym (take-take p n w₀ (omega (arith, e.least, e.most))))
        (sym (ap (λ k. drop (p + 1) (take k w₀)) split ∙ slice-take (p + 1) m w₀ (omega (arith, e.least, e.most, e.room))))

-- ---- an array of structs; its last is shifted-last of `.is`

pub view-pushed : {A B : Type 0} (view : A → B) (l : List A) (n : ℕ) (x : A) → n < length l
    → take (n + 1) (map view (set l n x)) ≡ take n (map view l) ++ view x ∷ []
view-pushed view l n x h = pushed (map view l) n (view x) (rw length-map h) (map-set view l n x)

pub record Removed {A B : Type 0} (view : A → B) (Ok : A → Type 0) (p : ℕ) (l₀ l : List A) (n j : ℕ) : Type 0 where
  pub array : Array Ok l₀ l
  pub is : Shifted p (map view l₀) (map view l) n j

module _ {A B : Type 0} {view : A → B} {Ok : A → Type 0} where
  pub removed-first : {p n : ℕ} {l : List A} → p < n → n ≤ length l → All Ok l → Removed view Ok p l l n p
  removed-first h k a = record { array = array-first a; is = shifted-first h (rw length-map k) }

  module _ {p n j : ℕ} {l₀ l : List A} (e : Removed view Ok p l₀ l n j) where
    pub removed-next : (d : A) → j + 1 < n → Removed view Ok p l₀ (set l j (get_or l (j + 1) d)) n (j + 1)
    removed-next d h =
        let here : j + 1 < length l₀ = omega (arith, e.is.room, length-map l₀ view) in
        record {
          array = array-set e.array j (array-read e.array d here);
          is = shifted_next e.is (view d) h (get_or-map view l (j + 1) d) (map-set view l j (get_or l (j + 1) d));
        }
