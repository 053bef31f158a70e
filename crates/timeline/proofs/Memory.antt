-- Writes to a lent memory, as the code makes them: one byte stored, and a list copied from a place on.
use Prim.Native.Nat.{ℕ, zero, suc, ◌+◌, ◌≤◌}
use mathlib.Core.Path.{◌≡◌, refl, sym, ap, ◌∙◌}
use mathlib.Core.List.{List, [], ◌∷◌, ◌++◌, append_assoc}
use native.Mathlib.Nat.{zero-add, suc-add, not-suc-le-zero, le_of_suc-le-suc}
use native.Mathlib.Omega.{arith}
use lib.ListN.{length, set, take, drop, replicate, length-drop, length-replicate}
use borrow.Rule.Slice.PartMut.{put_mid}
use lib.Seq.{drop-drop, length-take-le}
use Rattle.model.specs.Timeline.{overlay, splice}

pub splice-set : (p b : ℕ) (m : List ℕ) → splice p (b ∷ []) m ≡ set m p b
unfolding overlay splice
splice-set zero b [] = refl
splice-set zero b (x ∷ m) = refl
splice-set (suc p) b [] = refl
splice-set (suc p) b (x ∷ m) = ap (λ t. x ∷ t) (splice-set p b m)

pub overlay-parts : (s m : List ℕ) → length s ≤ length m → overlay s m ≡ s ++ drop (length s) m
unfolding overlay
overlay-parts [] m h = refl
overlay-parts (b ∷ s) [] h = absurd (not-suc-le-zero h)
overlay-parts (b ∷ s) (x ∷ m) h = ap (λ t. b ∷ t) (overlay-parts s m (le_of_suc-le-suc h))

pub splice-parts : (p : ℕ) (s m : List ℕ) → p + length s ≤ length m → splice p s m ≡ take p m ++ s ++ drop (p + length s) m
unfolding splice
splice-parts zero s m h = overlay-parts s m (omega arith) ∙ ap (λ k. s ++ drop k m) (sym (zero-add (length s)))
splice-parts (suc p) s [] h = absurd (let z : ⊥ = omega arith in z)
splice-parts (suc p) s (x ∷ m) h =
    ap (λ t. x ∷ t) (splice-parts p s m (omega arith)) ∙ ap (λ k. x ∷ (take p m ++ s ++ drop k (x ∷ m))) (sym (suc-add p (length s)))

-- A part of the memory that the code overwrites.
pub put_splice : (a k : ℕ) (m s : List ℕ) → length s ≡ k → a + k ≤ length m → put_mid a k m s ≡ splice a s m
put_splice a k m s e h =
    ap (λ l. take a m ++ (s ++ l)) (drop-drop k a m ∙ ap (λ n. drop (a + n) m) (sym e)) ∙ sym (append_assoc (take a m) s _)
    ∙ sym (splice-parts a s m (omega (arith, e)))

pub put_front : (k : ℕ) (m s : List ℕ) → length s ≡ k → k ≤ length m → s ++ drop k m ≡ overlay s m
put_front k m s e h = ap (λ n. s ++ drop n m) (sym e) ∙ sym (overlay-parts s m (omega arith))

-- What `fill` leaves: of a part of the memory, and of its front.
pub filled_splice : (a k n b : ℕ) (m s : List ℕ) → s ≡ replicate (length (take k (drop a m))) b → k ≡ n → a + n ≤ length m
    → put_mid a k m s ≡ splice a (replicate n b) m
filled_splice a k n b m s e q h =
    let size : length (take k (drop a m)) ≡ n = length-take-le k (drop a m) (omega (arith, length-drop a m)) ∙ q in
    ap (put_mid a k m) (e ∙ ap (λ j. replicate j b) size) ∙ put_splice a k m (replicate n b) (length-replicate n b ∙ sym q) (omega arith)

pub filled_front : (n b : ℕ) (m s : List ℕ) → s ≡ replicate (length (take n m)) b → n ≤ length m → s ++ drop n m ≡ overlay (replicate n b) m
filled_front n b m s e h =
    ap (λ l. l ++ drop n m) (e ∙ ap (λ j. replicate j b) (length-take-le n m h)) ∙ put_front n m (replicate n b) (length-replicate n b) h

-- ── One text behind another ─────────────────────────────────────────────────

overlay-append : (s t m : List ℕ) → overlay (s ++ t) m ≡ splice (length s) t (overlay s m)
unfolding overlay splice
overlay-append [] t m = refl
overlay-append (b ∷ s) t [] = refl
overlay-append (b ∷ s) t (x ∷ m) = ap (λ l. b ∷ l) (overlay-append s t m)

pub splice-append : (p : ℕ) (s t m : List ℕ) → splice p (s ++ t) m ≡ splice (p + length s) t (splice p s m)
unfolding splice
splice-append zero s t m = overlay-append s t m ∙ ap (λ k. splice k t (overlay s m)) (sym (zero-add (length s)))
splice-append (suc p) s t [] = ap (λ k. splice k t []) (sym (suc-add p (length s)))
splice-append (suc p) s t (x ∷ m) =
    ap (λ l. x ∷ l) (splice-append p s t m) ∙ ap (λ k. splice k t (x ∷ splice p s m)) (sym (suc-add p (length s)))

overlay-length : (s m : List ℕ) → length (overlay s m) ≡ length m
unfolding overlay
overlay-length [] m = refl
overlay-length (b ∷ s) [] = refl
overlay-length (b ∷ s) (x ∷ m) = ap suc (overlay-length s m)

pub splice-length : (p : ℕ) (s m : List ℕ) → length (splice p s m) ≡ length m
unfolding splice
splice-length zero s m = overlay-length s m
splice-length (suc p) s [] = refl
splice-length (suc p) s (x ∷ m) = ap suc (splice-length p s m)
