-- The loop that retains: those that pass are moved to the front, in order.
use mathlib.Core.Path.{◌≡◌, refl, sym, ap, ◌∙◌}
use mathlib.Core.Bool.{Bool, true, false, cond}
use mathlib.Core.List.{List, [], ◌∷◌, ◌++◌, map, append-nil}
use Prim.Native.Nat.{ℕ, ◌+◌, ◌≤◌, ◌<◌}
use native.Mathlib.Numerals.{add-one}
use native.Mathlib.Omega.{arith}
use lib.ListN.{length, get_or, set, take, drop, length-set, length-map}
use lib.Seq.{take-suc-set, take-set-lt, drop-set-lt, append_snoc}
use Rattle.laws.specs.Lists.{All, keep}
use Rattle.laws.proofs.Slices.{Seen, slice-next, slice-end, drop-next, view-seen, map-set, All-append, Array, array-first, array-read, array-set}

-- w₀ is the view before, w the array now: k are kept of the i that were looked at.
pub record Kept {A : Type 0} (p : A → Bool) (w₀ w : List A) (n k i : ℕ) : Type 0 where
  pub most : i ≤ n
  pub few : k ≤ i
  pub room : n ≤ length w
  pub left : drop i (take n w) ≡ drop i w₀
  pub is : take k w ++ keep p (drop i w₀) ≡ keep p w₀

module _ {A : Type 0} (p : A → Bool) where
  pub keep-hit : {x : A} → p x ≡ true → (xs : List A) → keep p (x ∷ xs) ≡ x ∷ keep p xs
  unfolding keep
  keep-hit {x} e xs = ap (λ b. cond b (x ∷ []) [] ++ keep p xs) e

  pub keep-miss : {x : A} → p x ≡ false → (xs : List A) → keep p (x ∷ xs) ≡ keep p xs
  unfolding keep
  keep-miss {x} e xs = ap (λ b. cond b (x ∷ []) [] ++ keep p xs) e

module _ {A : Type 0} {p : A → Bool} where
  pub kept-first : {w : List A} {n : ℕ} → n ≤ length w → Kept p (take n w) w n 0 0
  kept-first h = record { most = omega arith; few = omega arith; room = h; left = refl; is = refl }

  module _ {w₀ w : List A} {n k i : ℕ} (e : Kept p w₀ w n k i) where
    -- A turn may read the array before or the array now.
    pub kept_read : (d : A) → i < n → Seen w₀ n i (get_or w i d)
    kept_read d h =
        record { here = h; is = sym e.left ∙ (slice-next w d e.room h).is ∙ ap (λ t. get_or w i d ∷ t) (drop-next (take n w) w₀ i e.left) }

    pub kept-drop : {x : A} → Seen w₀ n i x → p x ≡ false → Kept p w₀ w n k (i + 1)
    kept-drop {x} a t =
        record {
          most = omega (arith, a.here);
          few = omega (arith, e.few);
          room = e.room;
          left = drop-next (take n w) w₀ i e.left;
          is = rw (a.is, keep-miss p t) at e.is;
        }

    -- u is the array after the store.
    pub kept-keep : {x : A} {u : List A} → Seen w₀ n i x → p x ≡ true → u ≡ set w k x → Kept p w₀ u n (k + 1) (i + 1)
    kept-keep {x} {u} a t q =
        let few : k < n = omega (arith, a.here, e.few) in
        let here : k < length w = omega (arith, e.room) in
        record {
          most = omega (arith, a.here);
          few = omega (arith, e.few);
          room = rw (q, length-set w k x) e.room;
          left =
              ap (λ l. drop (i + 1) (take n l)) q ∙ ap (drop (i + 1)) (take-set-lt n w k x few)
              ∙ drop-set-lt (i + 1) (take n w) k x (omega (arith, e.few))
              ∙ drop-next (take n w) w₀ i e.left;
          is = rw (q, add-one k, take-suc-set w k x here, append_snoc) (rw (a.is, keep-hit p t) at e.is);
        }

    pub kept-last : n ≤ i → take k w ≡ keep p w₀
    unfolding keep
    kept-last h = sym (append-nil (take k w)) ∙ rw (sym e.left ∙ slice-end w h) at e.is

-- ---- an array of structs; its last is kept-last of `.is`

pub record Retained {A B : Type 0} (view : A → B) (Ok : A → Type 0) (p : B → Bool) (l₀ l : List A) (n k i : ℕ) : Type 0 where
  pub array : Array Ok l₀ l
  pub is : Kept p (take n (map view l₀)) (map view l) n k i

module _ {A B : Type 0} {view : A → B} {Ok : A → Type 0} {p : B → Bool} where
  pub retained-first : {l : List A} {n : ℕ} → n ≤ length l → All Ok l → Retained view Ok p l l n 0 0
  retained-first h a = record { array = array-first a; is = kept-first (rw length-map h) }

  module _ {l₀ l : List A} {n k i : ℕ} (e : Retained view Ok p l₀ l n k i) where
    -- in place: what a turn reads is well formed, and is what stood there
    pub retained-read : (d : A) → i < n → Ok (get_or l i d)
    retained-read d h = array-read e.array d (omega (arith, e.array.size, e.is.room, length-map l view))

    pub retained-seen : (d : A) → i < n → Seen (take n (map view l₀)) n i (view (get_or l i d))
    retained-seen d h = view-seen view l d (kept_read e.is (view d) h)

    pub retained-drop : {x : A} → Seen (take n (map view l₀)) n i (view x) → p (view x) ≡ false → Retained view Ok p l₀ l n k (i + 1)
    retained-drop a t = record { array = e.array; is = kept-drop e.is a t }

    pub retained-keep : {x : A} → Seen (take n (map view l₀)) n i (view x) → Ok x → p (view x) ≡ true
        → Retained view Ok p l₀ (set l k x) n (k + 1) (i + 1)
    retained-keep {x} a o t = record { array = array-set e.array k o; is = kept-keep e.is a t (map-set view l k x) }

pub All-keep : {A : Type 0} (P : A → Type 0) (p : A → Bool) (l : List A) → All P l → All P (keep p l)
unfolding keep
All-keep P p [] a = tt
All-keep P p (x ∷ xs) a = All-append P (cond (p x) (x ∷ []) []) (keep p xs) (one (p x)) (All-keep P p xs a.1)
  where
    one : (b : Bool) → All P (cond b (x ∷ []) [])
    one true = (a.0, tt)
    one false = tt
