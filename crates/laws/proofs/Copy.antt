-- The loop that copies a list into a buffer from a place on, and the loop that appends one to a text. To fill with one value x is to copy `replicate n x`.
use mathlib.Core.Path.{◌≡◌, refl, sym, ap, ap₂, ◌∙◌}
use mathlib.Core.List.{List, [], ◌++◌, append-nil}
use Prim.Native.Nat.{ℕ, ◌+◌, ◌≤◌, ◌<◌}
use native.Mathlib.Nat.{add-zero, zero-add}
use native.Mathlib.Numerals.{add-one}
use native.Mathlib.Omega.{arith}
use lib.ListN.{length, set, take, drop, length-set}
use lib.Seq.{paste, paste-zero, paste-suc, length-paste, take_all, take_at, length-take-le, append_snoc}
use Rattle.laws.proofs.Slices.{Seen, seen-get_or, seen-length}
use Rattle.laws.proofs.Shift.{pushed}

-- ---- into a buffer

-- The first j of the n elements of s stand in the buffer from place `at` on.
pub record Copied {A : Type 0} (s out₀ out : List A) (n at j : ℕ) : Type 0 where
  pub most : j ≤ n
  pub whole : length s ≡ n
  pub room : at + n ≤ length out₀
  pub is : out ≡ paste out₀ at s j

module _ {A : Type 0} where
  pub copied-first : {s out : List A} {n at : ℕ} → length s ≡ n → at + n ≤ length out → Copied s out out n at 0
  copied-first {s} {out} {n} {at} h k = record { most = omega arith; whole = h; room = k; is = paste-zero out at s }

  module _ {s out₀ out : List A} {n at j : ℕ} (e : Copied s out₀ out n at j) where
    pub copied-size : length out ≡ length out₀
    copied-size = ap length e.is ∙ length-paste out₀ at s j (omega (arith, e.most, e.room)) (omega (arith, e.most, e.whole))

    -- k is the place of the store, u the buffer after it.
    pub copied_next : {k : ℕ} {x : A} {u : List A} → Seen s n j x → k ≡ at + j → u ≡ set out k x → Copied s out₀ u n at (j + 1)
    copied_next {k} {x} {u} a p q =
        record {
          most = omega (arith, a.here);
          whole = e.whole;
          room = e.room;
          is =
              q ∙ ap₂ (λ l i. set l i x) e.is p ∙ ap (set (paste out₀ at s j) (at + j)) (sym (seen-get_or a x))
              ∙ paste-suc out₀ at s j x (omega (arith, a.here, e.room)) (seen-length a)
              ∙ ap (paste out₀ at s) (sym (add-one j));
        }

    pub copied-last : n ≤ j → out ≡ take at out₀ ++ s ++ drop (at + n) out₀
    copied-last h =
        let q : j ≡ n = omega (arith, e.most) in
        let k : length s ≤ n = omega (arith, e.whole) in
        e.is ∙ ap (paste out₀ at s) q ∙ ap (λ t. take at out₀ ++ t ++ drop (at + n) out₀) (take_all n s k)

-- from the start of the buffer
pub copied-front : {A : Type 0} {s out₀ out : List A} {n j : ℕ} → Copied s out₀ out n 0 j → n ≤ j → out ≡ s ++ drop n out₀
copied-front {s = s} {out₀ = out₀} {n = n} e h = copied-last e h ∙ ap (λ k. s ++ drop k out₀) (zero-add n)

-- ---- to the end of a text

-- The first i of the n elements of s stand behind the len₀ bytes that were there.
pub record Appended {A : Type 0} (s w₀ w : List A) (len₀ len n i : ℕ) : Type 0 where
  pub most : i ≤ n
  pub count : len ≡ len₀ + i
  pub size : length w ≡ length w₀
  pub is : take len w ++ drop i s ≡ take len₀ w₀ ++ s

module _ {A : Type 0} where
  pub appended-first : {s w : List A} {len n : ℕ} → Appended s w w len len n 0
  appended-first {len = len} = record { most = omega arith; count = sym (add-zero len); size = refl; is = refl }

  module _ {s w₀ w : List A} {len₀ len n i : ℕ} (e : Appended s w₀ w len₀ len n i) where
    pub appended-next : {x : A} {u : List A} → Seen s n i x → len < length w₀ → u ≡ set w len x → Appended s w₀ u len₀ (len + 1) n (i + 1)
    appended-next {x} {u} a h q =
        let here : len < length w = omega (arith, e.size) in
        record {
          most = omega (arith, a.here);
          count = omega (arith, e.count);
          size = ap length q ∙ length-set w len x ∙ e.size;
          is =
              ap (λ t. t ++ drop (i + 1) s) (pushed w len x here q) ∙ append_snoc (take len w) x (drop (i + 1) s)
              ∙ ap (λ t. take len w ++ t) (sym a.is)
              ∙ e.is;
        }

    pub appended-last : drop i s ≡ [] → take len w ≡ take len₀ w₀ ++ s
    appended-last d = sym (append-nil (take len w)) ∙ ap (λ t. take len w ++ t) (sym d) ∙ e.is

    -- The loop that stops where the text is full: as much as fits.
    pub appended-full : len ≤ length w₀ → take len w ≡ take len (take len₀ w₀ ++ s)
    appended-full h = sym (take_at (take len w) (drop i s) len (length-take-le len w (omega (arith, e.size)))) ∙ ap (take len) e.is
