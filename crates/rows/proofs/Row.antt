-- One row, with the bytes of its slot, shows a row of the Rust; a cell more keeps that.
use Prim.Native.Nat.{ℕ, suc, ◌+◌, ◌*◌, ◌%◌, ◌≤◌, ◌<◌}
use native.Mathlib.Omega.{arith}
use native.Mathlib.Nat.{mod-lt}
use mathlib.Core.Path.{◌≡◌, refl, sym, ◌∙◌, ap, subst}
use mathlib.Core.Bool.{Bool, true, false, cond}
use Rattle.std.specs.Prelude.{Some, slice_get}
use mathlib.Core.List.{List, [], ◌∷◌, ◌++◌, map}
use lib.Dec.{ltb}
use lib.ListN.{length, length-append}
use borrow.Author.Tests.{ltb-true, ltb-false}
use Rattle.laws.specs.Lists.{rest}
use Rattle.laws.specs.Numbers.{saturating_add}
use Rattle.laws.proofs.Maps.{map-append, length-of}
use Rattle.model.specs.Timeline.{Row, add_cell, cell_place, next_place, row_of, slot, splice, timeline}
use Rattle.model.specs.RustTimeline.{RustCell, RustRow, rust_timeline, rust_add, rust_row}
use Rattle.rows.proofs.Places.{nth_left, nth_last, nth-rest, length_rest, map-rest}
use Rattle.rows.proofs.Bytes.{splice-before, splice-past, splice-one, Agrees}

abbrev pub byte_of : RustCell → ℕ
byte_of x = x.byte

-- A held row, with the bytes of its slot, is a row of the Rust.
pub record RowShown (history : ℕ) (m : List ℕ) (r : Row) (x : RustRow) : Type 0 where
  pub same_id : r.id ≡ x.id
  pub same_address : r.address ≡ x.address
  pub same_text : r.disassembly ≡ x.disassembly
  pub same_class : r.class ≡ x.class
  pub same_cycle : r.first_cycle ≡ x.first_cycle
  pub same_atomic : r.atomic ≡ x.atomic
  pub same_count : r.count ≡ length x.cells
  pub few : r.count ≤ 200
  pub oldest : r.oldest_at ≡ x.lost % 200
  pub bytes : (c : ℕ) → c < r.count → slice_get m (cell_place history r c) ≡ slice_get (map byte_of x.cells) c
  pub unused : (c : ℕ) → r.count ≤ c → c < 200 → slice_get m (cell_place history r c) ≡ Some 255

pub shown-agrees : (h : ℕ) (r : Row) (x : RustRow) (m m' : List ℕ) → Agrees (r.id % h) m m' → RowShown h m r x → RowShown h m' r x
unfolding timeline
shown-agrees h r y m m' a x =
    record {
      same_id = x.same_id;
      same_address = x.same_address;
      same_text = x.same_text;
      same_class = x.same_class;
      same_cycle = x.same_cycle;
      same_atomic = x.same_atomic;
      same_count = x.same_count;
      few = x.few;
      oldest = x.oldest;
      bytes = λ c l. a ((r.oldest_at + c) % 200) (omega arith) ∙ x.bytes c l;
      unused = λ c l g. a ((r.oldest_at + c) % 200) (omega arith) ∙ x.unused c l g;
    }

-- A remainder by h, as a slot, lies below h slots.
pub slot-room : (h i : ℕ) → 1 ≤ h → i % h * 200 + 200 ≤ h * 200
slot-room h i l = let z : i % h < h = mod-lt i l in omega arith

-- The new cell's byte, and the others' as they were.
pub new-byte : (p q c : ℕ) (m : List ℕ) → q ≡ p → p < length m → slice_get (splice p (c ∷ []) m) q ≡ Some c
new-byte p q c m e l = ap (λ (k : ℕ). slice_get (splice p (c ∷ []) m) k) e ∙ splice-one p c m l

pub other_byte : (p q c : ℕ) (m : List ℕ) → (q ≡ p → ⊥) → slice_get (splice p (c ∷ []) m) q ≡ slice_get m q
other_byte p q c m n = go (ltb q p) refl
  where
    go : (b : Bool) → ltb q p ≡ b → slice_get (splice p (c ∷ []) m) q ≡ slice_get m q
    go true e = splice-before p q (c ∷ []) m (ltb-true q p e)
    go false e = splice-past p q (c ∷ []) m (omega (arith, ltb-false q p e, n))

-- Fewer than 200: a cell more.
add-part
    : (b o n c : ℕ) (cells m : List ℕ) → n ≡ length cells → n < 200 → o < 200 → b + 200 ≤ length m
    → ((k : ℕ) → k < length cells → slice_get m (b + (o + k) % 200) ≡ slice_get cells k) → (k : ℕ) → k < n + 1
    → slice_get (splice (b + (o + n) % 200) (c ∷ []) m) (b + (o + k) % 200) ≡ slice_get (cells ++ (c ∷ [])) k
add-part b o n c cells m e l g room old k z = go (ltb k n) refl
  where
    go
        : (t : Bool) → ltb k n ≡ t
        → slice_get (splice (b + (o + n) % 200) (c ∷ []) m) (b + (o + k) % 200) ≡ slice_get (cells ++ (c ∷ [])) k
    go true t =
        let y : k < n = ltb-true k n t in
        other_byte (b + (o + n) % 200) (b + (o + k) % 200) c m (λ d. omega arith) ∙ old k (omega arith)
        ∙ sym (nth_left cells (c ∷ []) k (omega arith))
    go false t =
        let y : n ≤ k = ltb-false k n t in
        let x : k ≡ n = omega arith in
        new-byte (b + (o + n) % 200) (b + (o + k) % 200) c m (omega arith) (omega arith) ∙ sym (nth_last cells c k (omega arith))

step-apart : (o k : ℕ) → o < 200 → k < 199 → (o + suc k) % 200 ≡ o → ⊥
step-apart o k l g e = omega arith

step_same : (o k : ℕ) → (suc o % 200 + k) % 200 ≡ (o + suc k) % 200
step_same o k = omega arith

cancel : (b x y : ℕ) → b + x ≡ b + y → x ≡ y
cancel b x y e = omega arith

step-round : (o n : ℕ) → o < 200 → n ≡ 200 → (o + n) % 200 ≡ o
step-round o n l e = omega arith

past-apart : (o n k : ℕ) → o < 200 → suc n ≤ k → k < 200 → (o + k) % 200 ≡ (o + n) % 200 → ⊥
past-apart o n k l g f e = omega arith

-- 200 of them: the oldest goes.
add-full
    : (b o c : ℕ) (cells m : List ℕ) → length cells ≡ 200 → o < 200 → b + 200 ≤ length m
    → ((k : ℕ) → k < length cells → slice_get m (b + (o + k) % 200) ≡ slice_get cells k) → (k : ℕ) → k < 200
    → slice_get (splice (b + (o + length cells) % 200) (c ∷ []) m) (b + (suc o % 200 + k) % 200) ≡ slice_get (rest (cells ++ (c ∷ []))) k
add-full b o c cells m e g room old k z = go (ltb k 199) refl
  where
    go
        : (t : Bool) → ltb k 199 ≡ t
        → slice_get (splice (b + (o + length cells) % 200) (c ∷ []) m) (b + (suc o % 200 + k) % 200) ≡ slice_get (rest (cells ++ (c ∷ []))) k
    go true t =
        let y : k < 199 = ltb-true k 199 t in
        let same : b + (suc o % 200 + k) % 200 ≡ b + (o + suc k) % 200 = ap (λ (q : ℕ). b + q) (step_same o k) in
        other_byte (b + (o + length cells) % 200) (b + (suc o % 200 + k) % 200) c m
        (λ d. step-apart o k g y (sym (step_same o k) ∙ cancel b _ _ d ∙ step-round o (length cells) g e))
        ∙ ap (λ (q : ℕ). slice_get m q) same ∙ old (suc k) (omega arith)
        ∙ sym (nth-rest (cells ++ (c ∷ [])) k ∙ nth_left cells (c ∷ []) (suc k) (omega arith))
    go false t =
        let y : 199 ≤ k = ltb-false k 199 t in
        new-byte (b + (o + length cells) % 200) (b + (suc o % 200 + k) % 200) c m (omega arith) (omega arith)
        ∙ sym (nth-rest (cells ++ (c ∷ [])) k ∙ nth_last cells c (suc k) (omega arith))

pub add-shown
    : (h : ℕ) (c : RustCell) (r : Row) (y : RustRow) (m : List ℕ) → 1 ≤ h → h * 200 ≤ length m → RowShown h m r y
    → RowShown h (splice (next_place h r) (c.byte ∷ []) m) (add_cell r) (rust_add c y)
unfolding timeline rust_timeline
add-shown h c r y m one room x =
    subst
    (λ (n : ℕ). RowShown h (splice (next_place h r) (c.byte ∷ []) m) (add_cell r) (trimmed (ltb 200 n)))
    long (go (ltb 200 (suc r.count)) refl)
  where
    trimmed : Bool → RustRow
    trimmed b =
        rust_row y.id y.address y.disassembly y.class (cond b (saturating_add y.first_cycle 1) y.first_cycle) y.atomic
        (cond b (rest (y.cells ++ (c ∷ []))) (y.cells ++ (c ∷ []))) (cond b (suc y.lost) y.lost)

    old-bytes : List ℕ
    old-bytes = map byte_of y.cells

    inside : slot h r.id + 200 ≤ length m
    inside = let z = slot-room h r.id one in omega arith

    long : suc r.count ≡ length (y.cells ++ (c ∷ []))
    long = omega (arith, length-append y.cells (c ∷ []), x.same_count)

    as_many : r.count ≡ length old-bytes
    as_many = x.same_count ∙ sym (length-of byte_of y.cells)

    old : (k : ℕ) → k < length old-bytes → slice_get m (slot h r.id + (r.oldest_at + k) % 200) ≡ slice_get old-bytes k
    old k l = x.bytes k (omega (arith, as_many))

    below : r.oldest_at < 200
    below = omega (arith, x.oldest)

    go
        : (b : Bool) → ltb 200 (suc r.count) ≡ b
        → RowShown h (splice (next_place h r) (c.byte ∷ []) m)
        (row_of r.id r.address r.disassembly r.class (cond b (saturating_add r.first_cycle 1) r.first_cycle) r.atomic
        (cond b (suc r.oldest_at % 200) r.oldest_at) (cond b r.count (suc r.count)))
        (trimmed b)
    go true e =
        let full = ltb-true 200 (suc r.count) e in
        let all : r.count ≡ 200 = omega (arith, x.few) in
        record {
          same_id = x.same_id;
          same_address = x.same_address;
          same_text = x.same_text;
          same_class = x.same_class;
          same_cycle = ap (λ (n : ℕ). saturating_add n 1) x.same_cycle;
          same_atomic = x.same_atomic;
          same_count = omega (arith, long, length_rest (y.cells ++ (c ∷ [])));
          few = x.few;
          oldest = omega (arith, x.oldest);
          bytes =
              λ k l.
              subst
              (λ (n : ℕ).
              slice_get (splice (slot h r.id + (r.oldest_at + n) % 200) (c.byte ∷ []) m) (slot h r.id + (suc r.oldest_at % 200 + k) % 200)
              ≡ slice_get (rest (old-bytes ++ (c.byte ∷ []))) k)
              (sym as_many)
              (add-full (slot h r.id) r.oldest_at c.byte old-bytes m (sym as_many ∙ all) below inside old k (omega (arith, all)))
              ∙ ap (λ (l : List ℕ). slice_get l k)
              (ap rest (sym (map-append byte_of y.cells (c ∷ []))) ∙ sym (map-rest byte_of (y.cells ++ (c ∷ []))));
          unused = λ k l g. absurd (omega (arith, all));
        }
    go false e =
        let part = ltb-false 200 (suc r.count) e in
        record {
          same_id = x.same_id;
          same_address = x.same_address;
          same_text = x.same_text;
          same_class = x.same_class;
          same_cycle = x.same_cycle;
          same_atomic = x.same_atomic;
          same_count = long;
          few = part;
          oldest = x.oldest;
          bytes =
              λ k l.
              add-part (slot h r.id) r.oldest_at r.count c.byte old-bytes m as_many (omega arith) below inside old k (omega arith)
              ∙ ap (λ (l : List ℕ). slice_get l k) (sym (map-append byte_of y.cells (c ∷ [])));
          unused =
              λ k l g.
              other_byte (next_place h r) (cell_place h r k) c.byte m
              (λ d. past-apart r.oldest_at r.count k below l g (cancel (slot h r.id) _ _ d))
              ∙ x.unused k (omega arith) g;
        }
