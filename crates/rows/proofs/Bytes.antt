-- What writes do to a memory, byte by byte.
use Prim.Native.Nat.{ℕ, zero, suc, ◌+◌, ◌*◌, ◌/◌, ◌%◌, ◌≤◌, ◌<◌}
use native.Mathlib.Omega.{arith}
use native.Mathlib.Nat.{div-add-mod', mul-le-mul_right, suc-mul}
use mathlib.Core.Path.{◌≡◌, refl, ◌∙◌, ap}
use mathlib.Core.Bool.{Bool, true, false}
use Rattle.std.specs.Prelude.{Some, slice_get}
use mathlib.Core.List.{List, [], ◌∷◌, ◌++◌}
use lib.Dec.{ltb}
use lib.ListN.{length, drop, replicate}
use borrow.Author.Tests.{ltb-true, ltb-false}
use Rattle.laws.specs.Lists.{All}
use Rattle.model.specs.Timeline.{Write, overlay, splice, timeline, write_all}

overlay-length : (bs m : List ℕ) → length (overlay bs m) ≡ length m
unfolding timeline
overlay-length [] m = refl
overlay-length (b ∷ bs) [] = refl
overlay-length (b ∷ bs) (x ∷ m) = ap suc (overlay-length bs m)

pub splice-length : (p : ℕ) (bs m : List ℕ) → length (splice p bs m) ≡ length m
unfolding timeline
splice-length zero bs m = overlay-length bs m
splice-length (suc p) bs [] = refl
splice-length (suc p) bs (x ∷ m) = ap suc (splice-length p bs m)

pub splice-before : (p q : ℕ) (bs m : List ℕ) → q < p → slice_get (splice p bs m) q ≡ slice_get m q
unfolding timeline
splice-before zero q bs m l = absurd (omega arith)
splice-before (suc p) q bs [] l = refl
splice-before (suc p) zero bs (x ∷ m) l = refl
splice-before (suc p) (suc q) bs (x ∷ m) l = splice-before p q bs m (omega arith)

overlay-past : (q : ℕ) (bs m : List ℕ) → length bs ≤ q → slice_get (overlay bs m) q ≡ slice_get m q
unfolding timeline
overlay-past q [] m l = refl
overlay-past q (b ∷ bs) [] l = refl
overlay-past zero (b ∷ bs) (x ∷ m) l = absurd (omega arith)
overlay-past (suc q) (b ∷ bs) (x ∷ m) l = overlay-past q bs m (omega arith)

pub splice-past : (p q : ℕ) (bs m : List ℕ) → p + length bs ≤ q → slice_get (splice p bs m) q ≡ slice_get m q
unfolding timeline
splice-past zero q bs m l = overlay-past q bs m (omega arith)
splice-past (suc p) q bs [] l = refl
splice-past (suc p) zero bs (x ∷ m) l = refl
splice-past (suc p) (suc q) bs (x ∷ m) l = splice-past p q bs m (omega arith)

pub splice-one : (p b : ℕ) (m : List ℕ) → p < length m → slice_get (splice p (b ∷ []) m) p ≡ Some b
unfolding timeline
splice-one p b [] l = absurd (omega arith)
splice-one zero b (x ∷ m) l = refl
splice-one (suc p) b (x ∷ m) l = splice-one p b m (omega arith)

overlay-fill : (q n v : ℕ) (m : List ℕ) → q < n → q < length m → slice_get (overlay (replicate n v) m) q ≡ Some v
unfolding timeline
overlay-fill q zero v m l g = absurd (omega arith)
overlay-fill q (suc n) v [] l g = absurd (omega arith)
overlay-fill zero (suc n) v (x ∷ m) l g = refl
overlay-fill (suc q) (suc n) v (x ∷ m) l g = overlay-fill q n v m (omega arith) (omega arith)

pub splice-fill : (p q n v : ℕ) (m : List ℕ) → p ≤ q → q < p + n → q < length m → slice_get (splice p (replicate n v) m) q ≡ Some v
unfolding timeline
splice-fill zero q n v m f l g = overlay-fill q n v m (omega arith) g
splice-fill (suc p) q n v [] f l g = absurd (omega arith)
splice-fill (suc p) zero n v (x ∷ m) f l g = absurd (omega arith)
splice-fill (suc p) (suc q) n v (x ∷ m) f l g = splice-fill p q n v m (omega arith) (omega arith) (omega arith)

overlay-drop : (n : ℕ) (bs m : List ℕ) → length bs ≤ n → drop n (overlay bs m) ≡ drop n m
unfolding timeline
overlay-drop n [] m l = refl
overlay-drop n (b ∷ bs) [] l = refl
overlay-drop zero (b ∷ bs) (x ∷ m) l = absurd (omega arith)
overlay-drop (suc n) (b ∷ bs) (x ∷ m) l = overlay-drop n bs m (omega arith)

pub splice-drop : (p n : ℕ) (bs m : List ℕ) → p + length bs ≤ n → drop n (splice p bs m) ≡ drop n m
unfolding timeline
splice-drop zero n bs m l = overlay-drop n bs m (omega arith)
splice-drop (suc p) n bs [] l = refl
splice-drop (suc p) zero bs (x ∷ m) l = absurd (omega arith)
splice-drop (suc p) (suc n) bs (x ∷ m) l = splice-drop p n bs m (omega arith)

-- ── Lists of writes ─────────────────────────────────────────────────────────

pub write_all-append : (vs ws : List Write) (m : List ℕ) → write_all (vs ++ ws) m ≡ write_all ws (write_all vs m)
unfolding timeline
write_all-append [] ws m = refl
write_all-append (v ∷ vs) ws m = write_all-append vs ws (splice v.0 v.1 m)

pub write_all-length : (ws : List Write) (m : List ℕ) → length (write_all ws m) ≡ length m
unfolding timeline
write_all-length [] m = refl
write_all-length (w ∷ ws) m = write_all-length ws (splice w.0 w.1 m) ∙ splice-length w.0 w.1 m

-- Every write ends at or before n.
abbrev pub Inside : ℕ → List Write → Type 0
Inside n ws = All (λ (w : Write). w.0 + length w.1 ≤ n) ws

pub write_all-drop : (n : ℕ) (ws : List Write) (m : List ℕ) → Inside n ws → drop n (write_all ws m) ≡ drop n m
unfolding timeline
write_all-drop n [] m i = refl
write_all-drop n (w ∷ ws) m i = write_all-drop n ws (splice w.0 w.1 m) i.1 ∙ splice-drop w.0 n w.1 m i.0

-- ── Slots ───────────────────────────────────────────────────────────────────

-- Fewer than h apart, two numbers have different remainders.
pub apart : (h i j : ℕ) → i < j → j < i + h → i % h ≡ j % h → ⊥
apart h i j l g e = go (ltb (i / h) (j / h)) refl
  where
    go : (b : Bool) → ltb (i / h) (j / h) ≡ b → ⊥
    go true p =
        let more : suc (i / h) * h ≤ j / h * h = mul-le-mul_right h (ltb-true (i / h) (j / h) p) in
        let one_more : suc (i / h) * h ≡ i / h * h + h = suc-mul (i / h) h in
        omega (arith, div-add-mod' i h, div-add-mod' j h)
    go false p =
        let less : j / h * h ≤ i / h * h = mul-le-mul_right h (ltb-false (i / h) (j / h) p) in
        omega (arith, div-add-mod' i h, div-add-mod' j h)

-- Two memories agree on the 200 bytes of slot k.
abbrev pub Agrees : ℕ → List ℕ → List ℕ → Type 0
Agrees k m m' = (q : ℕ) → q < 200 → slice_get m' (k * 200 + q) ≡ slice_get m (k * 200 + q)

-- A write into slot k' leaves every other slot.
pub write-agrees
    : (k k' p : ℕ) (bs m : List ℕ) → (k ≡ k' → ⊥) → k' * 200 ≤ p → p + length bs ≤ k' * 200 + 200 → Agrees k m (splice p bs m)
write-agrees k k' p bs m n f l q g = go (ltb k k') refl
  where
    go : (b : Bool) → ltb k k' ≡ b → slice_get (splice p bs m) (k * 200 + q) ≡ slice_get m (k * 200 + q)
    go true e = splice-before p (k * 200 + q) bs m (omega (arith, ltb-true k k' e))
    go false e = splice-past p (k * 200 + q) bs m (omega (arith, ltb-false k k' e, n))
