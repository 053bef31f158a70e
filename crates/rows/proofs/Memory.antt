-- Every byte of the lent memory.
use Prim.Native.Nat.{ℕ, suc, ◌+◌, ◌-◌, ◌*◌, ◌/◌, ◌%◌, ◌≤◌, ◌<◌}
use native.Mathlib.Omega.{arith}
use mathlib.Core.Path.{◌≡◌, refl, sym, ◌∙◌, ap}
use mathlib.Core.Bool.{Bool, true, false, cond}
use Rattle.std.specs.Prelude.{Some, slice_get}
use mathlib.Core.List.{List, [], ◌∷◌, map}
use lib.Dec.{eqb, ltb}
use lib.ListN.{length}
use borrow.Author.Tests.{ltb-true, ltb-false, eqb-true, eqb-false}
use Rattle.laws.specs.Lists.{All2, lists, more2, none2}
use Rattle.model.specs.State.{State}
use Rattle.model.specs.Timeline.{Row, cell_place, timeline}
use Rattle.model.specs.RustTimeline.{RustCell, RustRow}
use Rattle.rows.specs.Shown.{cell_byte_at, slot_byte, memory_byte}
use Rattle.rows.proofs.Places.{nth_drop}
use Rattle.rows.proofs.Row.{RowShown, byte_of}
use Rattle.rows.proofs.Push.{SlotFree}
use Rattle.rows.proofs.Holds.{Shows}

-- Which place of the list stands at byte q, where the first is the row's cell n.
abbrev turned : ℕ → ℕ → ℕ
turned n q = (q + (200 - n % 200)) % 200

back : (n q : ℕ) → q < 200 → (n % 200 + turned n q) % 200 ≡ q
back n q l = omega arith

-- Past the first, it is one place less.
turned-first : (n q : ℕ) → q < 200 → n % 200 ≡ q → turned n q ≡ 0
turned-first n q l e = omega arith

turned-next : (n q : ℕ) → q < 200 → (n % 200 ≡ q → ⊥) → turned n q ≡ suc (turned (suc n) q)
turned-next n q l d = omega arith

byte-found
    : (n q : ℕ) (xs : List RustCell) → q < 200 → turned n q < length xs → slice_get (map byte_of xs) (turned n q) ≡ Some (cell_byte_at n xs q)
unfolding lists cell_byte_at
byte-found n q [] l g = absurd (omega arith)
byte-found n q (x ∷ xs) l g = go (eqb (n % 200) q) refl (byte-found (suc n) q xs l)
  where
    go
        : (b : Bool) → eqb (n % 200) q ≡ b
        → (turned (suc n) q < length xs → slice_get (map byte_of xs) (turned (suc n) q) ≡ Some (cell_byte_at (suc n) xs q))
        → slice_get (map byte_of (x ∷ xs)) (turned n q) ≡ Some (cond b x.byte (cell_byte_at (suc n) xs q))
    go true e h = ap (slice_get (map byte_of (x ∷ xs))) (turned-first n q l (eqb-true (n % 200) q e))
    go false e h =
        let one : turned n q ≡ suc (turned (suc n) q) = turned-next n q l (eqb-false (n % 200) q e) in
        ap (slice_get (map byte_of (x ∷ xs))) one ∙ h (omega (arith, one, g))

byte-unused : (n q : ℕ) (xs : List RustCell) → q < 200 → length xs ≤ turned n q → cell_byte_at n xs q ≡ 255
unfolding cell_byte_at
byte-unused n q [] l g = refl
byte-unused n q (x ∷ xs) l g = go (eqb (n % 200) q) refl (byte-unused (suc n) q xs l)
  where
    go
        : (b : Bool) → eqb (n % 200) q ≡ b → (length xs ≤ turned (suc n) q → cell_byte_at (suc n) xs q ≡ 255)
        → cond b x.byte (cell_byte_at (suc n) xs q) ≡ 255
    go true e h = let none_left : turned n q ≡ 0 = turned-first n q l (eqb-true (n % 200) q e) in absurd (omega (arith, none_left, g))
    go false e h =
        let one : turned n q ≡ suc (turned (suc n) q) = turned-next n q l (eqb-false (n % 200) q e) in
        h (omega (arith, one, g))

row-byte
    : (h k q : ℕ) (m : List ℕ) (r : Row) (x : RustRow) → RowShown h m r x → x.id % h ≡ k → q < 200
    → slice_get m (k * 200 + q) ≡ Some (cell_byte_at x.lost x.cells q)
unfolding timeline
row-byte h k q m r x s e l = ap (λ (p : ℕ). slice_get m p) there ∙ go (ltb c r.count) refl
  where
    c : ℕ
    c = turned x.lost q

    slot-there : r.id % h ≡ k
    slot-there = ap (λ (i : ℕ). i % h) s.same_id ∙ e

    there : k * 200 + q ≡ cell_place h r c
    there = omega (arith, slot-there, s.oldest, back x.lost q l)

    go : (b : Bool) → ltb c r.count ≡ b → slice_get m (cell_place h r c) ≡ Some (cell_byte_at x.lost x.cells q)
    go true t =
        let low = ltb-true c r.count t in
        s.bytes c low ∙ byte-found x.lost q x.cells l (omega (arith, low, s.same_count))
    go false t =
        let high = ltb-false c r.count t in
        s.unused c high (omega arith) ∙ ap Some (sym (byte-unused x.lost q x.cells l (omega (arith, high, s.same_count))))

slot_is
    : (h k q : ℕ) (m : List ℕ) (rs : List Row) (xs : List RustRow) → All2 (RowShown h m) rs xs
    → (SlotFree h k rs → slice_get m (k * 200 + q) ≡ Some 255) → q < 200 → slice_get m (k * 200 + q) ≡ Some (slot_byte h xs k q)
unfolding slot_byte
slot_is h k q m rs xs none2 f l = f tt
slot_is h k q m rs xs (more2 {a = r} {b = x} {as' = rs'} {bs = xs'} s ss) f l = go (eqb (x.id % h) k) refl (slot_is h k q m rs' xs' ss)
  where
    go
        : (b : Bool) → eqb (x.id % h) k ≡ b
        → ((SlotFree h k rs' → slice_get m (k * 200 + q) ≡ Some 255) → q < 200 → slice_get m (k * 200 + q) ≡ Some (slot_byte h xs' k q))
        → slice_get m (k * 200 + q) ≡ Some (cond b (cell_byte_at x.lost x.cells q) (slot_byte h xs' k q))
    go true t g = row-byte h k q m r x s (eqb-true (x.id % h) k t) l
    go false t g =
        g (λ free. f (λ e. eqb-false (x.id % h) k t (sym (ap (λ (i : ℕ). i % h) s.same_id) ∙ e), free)) l

pub memory-is
    : (lent : List ℕ) (s : State) (m : List ℕ) (xs : List RustRow) (p : ℕ) → Shows lent s m xs
    → slice_get m p ≡ memory_byte s.machine.history xs lent p
unfolding memory_byte
memory-is lent s m xs p x = go (ltb p (h * 200)) refl
  where
    h : ℕ
    h = s.machine.history

    go : (b : Bool) → ltb p (h * 200) ≡ b → slice_get m p ≡ cond b (Some (slot_byte h xs (p / 200) (p % 200))) (slice_get lent p)
    go true t =
        let low = ltb-true p (h * 200) t in
        ap (λ (n : ℕ). slice_get m n) (parts p)
        ∙ slot_is h (p / 200) (p % 200) m s.log.rows xs x.shown (λ free. x.blank (p / 200) (omega arith) free (p % 200) (omega arith))
        (omega arith)
      where
        parts : (p : ℕ) → p ≡ p / 200 * 200 + p % 200
        parts p = omega arith
    go false t =
        let high = ltb-false p (h * 200) t in
        sym (nth_drop (h * 200) (p - h * 200) p m (omega arith)) ∙ ap (λ (l : List ℕ). slice_get l (p - h * 200)) x.beyond
        ∙ nth_drop (h * 200) (p - h * 200) p lent (omega arith)
