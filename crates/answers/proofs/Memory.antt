-- Bytes written over others.
use Prim.Native.Nat.{ℕ, zero, suc, ◌+◌, ◌-◌, ◌≤◌}
use mathlib.Core.Path.{◌≡◌, refl, ap, ◌∙◌}
use mathlib.Core.List.{List, [], ◌∷◌, ◌++◌}
use native.Mathlib.Nat.{zero-add, suc-add, not-suc-le-zero, le_of_suc-le-suc}
use native.Mathlib.Omega.{arith}
use lib.ListN.{length, take, drop, replicate, length-replicate}
use Rattle.model.specs.Timeline.{overlay, splice}
use Rattle.answers.specs.Bytes.{pad}

-- ── At the same place ───────────────────────────────────────────────────────

overlay-over : (s t m : List ℕ) → length s ≤ length t → overlay s (overlay t m) ≡ overlay (s ++ drop (length s) t) m
unfolding overlay
overlay-over [] t m h = refl
overlay-over (b ∷ s) [] m h = absurd (not-suc-le-zero h)
overlay-over (b ∷ s) (x ∷ t) [] h = refl
overlay-over (b ∷ s) (x ∷ t) (y ∷ m) h = ap (λ l. b ∷ l) (overlay-over s t m (le_of_suc-le-suc h))

pub splice-over : (p : ℕ) (s t m : List ℕ) → length s ≤ length t → splice p s (splice p t m) ≡ splice p (s ++ drop (length s) t) m
unfolding splice
splice-over zero s t m h = overlay-over s t m h
splice-over (suc p) s t [] h = refl
splice-over (suc p) s t (x ∷ m) h = ap (λ l. x ∷ l) (splice-over p s t m h)

drop-zeros : (k n : ℕ) → drop k (replicate {A = ℕ} n 0) ≡ replicate (n - k) 0
drop-zeros zero n = let e : n ≡ n - 0 = omega arith in ap (λ j. replicate j 0) e
drop-zeros (suc k) zero = let e : 0 ≡ 0 - suc k = omega arith in ap (λ j. replicate j 0) e
drop-zeros (suc k) (suc n) = let e : n - k ≡ suc n - suc k = omega arith in drop-zeros k n ∙ ap (λ j. replicate j 0) e

-- Bytes of 0, and then a list over the first of them.
pub splice-pad : (p n : ℕ) (l m : List ℕ) → length l ≤ n → splice p l (splice p (replicate n 0) m) ≡ splice p (pad n l) m
unfolding pad
splice-pad p n l m h =
    splice-over p l (replicate n 0) m (omega (arith, length-replicate {A = ℕ} n 0)) ∙ ap (λ z. splice p (l ++ z) m) (drop-zeros (length l) n)

-- ── One before another ──────────────────────────────────────────────────────

overlay-before : (s t m : List ℕ) → overlay s (splice (length s) t m) ≡ overlay (s ++ t) m
unfolding overlay splice
overlay-before [] t m = refl
overlay-before (b ∷ s) t [] = refl
overlay-before (b ∷ s) t (x ∷ m) = ap (λ l. b ∷ l) (overlay-before s t m)

-- t was written first.
pub splice-before : (p : ℕ) (s t m : List ℕ) → splice p s (splice (p + length s) t m) ≡ splice p (s ++ t) m
unfolding splice
splice-before zero s t m = ap (λ k. overlay s (splice k t m)) (zero-add (length s)) ∙ overlay-before s t m
splice-before (suc p) s t [] = ap (λ k. splice (suc p) s (splice k t [])) (suc-add p (length s))
splice-before (suc p) s t (x ∷ m) =
    ap (λ k. splice (suc p) s (splice k t (x ∷ m))) (suc-add p (length s)) ∙ ap (λ l. x ∷ l) (splice-before p s t m)

-- ── A part that is written back ─────────────────────────────────────────────

overlay-own : (n : ℕ) (m : List ℕ) → overlay (take n m) m ≡ m
unfolding overlay
overlay-own zero m = refl
overlay-own (suc n) [] = refl
overlay-own (suc n) (x ∷ m) = ap (λ l. x ∷ l) (overlay-own n m)

-- as it was
pub splice-own : (p n : ℕ) (m : List ℕ) → splice p (take n (drop p m)) m ≡ m
unfolding splice
splice-own zero n m = overlay-own n m
splice-own (suc p) n [] = refl
splice-own (suc p) n (x ∷ m) = ap (λ l. x ∷ l) (splice-own p n m)

overlay-within : (n : ℕ) (s m : List ℕ) → length s ≤ n → overlay (overlay s (take n m)) m ≡ overlay s m
unfolding overlay
overlay-within n [] m h = overlay-own n m
overlay-within zero (b ∷ s) m h = absurd (not-suc-le-zero h)
overlay-within (suc n) (b ∷ s) [] h = refl
overlay-within (suc n) (b ∷ s) (x ∷ m) h = ap (λ l. b ∷ l) (overlay-within n s m (le_of_suc-le-suc h))

-- with a list at its front
pub splice-within : (p n : ℕ) (s m : List ℕ) → length s ≤ n → splice p (overlay s (take n (drop p m))) m ≡ splice p s m
unfolding splice
splice-within zero n s m h = overlay-within n s m h
splice-within (suc p) n s [] h = refl
splice-within (suc p) n s (x ∷ m) h = ap (λ l. x ∷ l) (splice-within p n s m h)
