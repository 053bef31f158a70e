-- Rows and memory together: one cell, many cells, a new row, none.
use Prim.Native.Nat.{ℕ, zero, suc, ◌+◌, ◌-◌, ◌*◌, ◌%◌, ◌≤◌, ◌<◌}
use native.Mathlib.Omega.{arith}
use native.Mathlib.Nat.{add-mod_right}
use mathlib.Core.Path.{◌≡◌, refl, sym, ◌∙◌, ap, subst}
use mathlib.Core.Bool.{Bool}
use Rattle.std.specs.Prelude.{Some, slice_get}
use mathlib.Core.List.{List, [], ◌∷◌, ◌++◌, map}
use lib.ListN.{length, drop, replicate, length-append, length-drop, length-replicate}
use lib.Seq.{drop-append-le}
use Rattle.capability.specs.declared.PipelineInstructionClass.{PipelineInstructionClass}
use Rattle.laws.specs.Lists.{All2, none2}
use Rattle.laws.specs.Numbers.{max64, saturating_add}
use Rattle.laws.specs.Texts.{Text}
use Rattle.model.specs.Timeline.{Row, open_row, open_writes, push, push_all, push_all_writes, push_writes, row_of, slot, splice, timeline, write_all}
use Rattle.model.specs.State.{State}
use Rattle.model.specs.RustTimeline.{RustCell, RustRow, rust_timeline, rust_open, rust_push, rust_push_all, rust_row, opening_cell}
use Rattle.rows.proofs.Bytes.{splice-length, splice-fill, write_all-append, write_all-length, write_all-drop, apart, Agrees, write-agrees}
use Rattle.rows.proofs.Row.{RowShown, slot-room, new-byte, other_byte}
use Rattle.rows.proofs.Push.{Ids, SlotFree, rest-shown, push-ids, push-length, push-inside, push-leaves, push-shown, free-pushed, free-undropped, free-last, ids-drop, ids-last, all_drop, all-last, all-length, open-as-drop}

-- `lent` is the memory that making was lent. Every byte of m is said: of cells, unused in a row, in a slot of no row, beyond.
pub record Holds (lent : List ℕ) (history : ℕ) (rows : List Row) (next_row next_seq : ℕ) (m : List ℕ) (rust : List RustRow) : Type 0 where
  pub some_history : 1 ≤ history
  pub same_number : next_row ≡ next_seq
  pub in_range : next_seq ≤ max64
  pub first : ℕ
  pub ids : Ids first rows
  pub next : first + length rows ≡ next_row
  pub at_most : length rows ≤ history
  pub shown : All2 (RowShown history m) rows rust
  pub blank : (k : ℕ) → k < history → SlotFree history k rows → (q : ℕ) → q < 200 → slice_get m (k * 200 + q) ≡ Some 255
  pub room : history * 200 ≤ length lent
  pub same_length : length m ≡ length lent
  pub beyond : drop (history * 200) m ≡ drop (history * 200) lent

abbrev pub Shows : List ℕ → State → List ℕ → List RustRow → Type 0
Shows lent s m rust = Holds lent s.machine.history s.log.rows s.front.next_row s.front.next_seq m rust

-- A cell for a row, as its byte.
abbrev pub coded : (ℕ × RustCell) → (ℕ × ℕ)
coded p = (p.0, p.1.byte)

module _ (lent : List ℕ) where
  holds-push
      : (h i : ℕ) (c : RustCell) (n q : ℕ) (rs : List Row) (m : List ℕ) (xs : List RustRow) → Holds lent h rs n q m xs
      → Holds lent h (push i rs) n q (write_all (push_writes h i c.byte rs) m) (rust_push i c xs)
  holds-push h i c n q rs m xs x =
      record {
        some_history = x.some_history;
        same_number = x.same_number;
        in_range = x.in_range;
        first = x.first;
        ids = push-ids i x.first rs x.ids;
        next = ap (λ (k : ℕ). x.first + k) (push-length i rs) ∙ x.next;
        at_most = omega (arith, push-length i rs, x.at_most);
        shown =
            push-shown h i c m x.first rs xs x.some_history (omega (arith, x.room, x.same_length)) x.ids x.at_most x.shown;
        blank = λ k l f z g. let e = free-pushed h i k rs f in push-leaves h i c.byte k rs m e z g ∙ x.blank k l e z g;
        room = x.room;
        same_length = write_all-length (push_writes h i c.byte rs) m ∙ x.same_length;
        beyond = write_all-drop (h * 200) (push_writes h i c.byte rs) m (push-inside h i c.byte rs x.some_history) ∙ x.beyond;
      }

  pub holds-push-all
      : (h n q : ℕ) (ps : List (ℕ × RustCell)) (rs : List Row) (m : List ℕ) (xs : List RustRow) → Holds lent h rs n q m xs
      → Holds lent h (push_all (map coded ps) rs) n q (write_all (push_all_writes h (map coded ps) rs) m) (rust_push_all ps xs)
  unfolding timeline rust_timeline
  holds-push-all h n q [] rs m xs x = x
  holds-push-all h n q (p ∷ ps) rs m xs x =
      subst (λ (l : List ℕ). Holds lent h (push_all (map coded ps) (push p.0 rs)) n q l (rust_push_all ps (rust_push p.0 p.1 xs)))
      (sym (write_all-append (push_writes h p.0 p.1.byte rs) (push_all_writes h (map coded ps) (push p.0 rs)) m))
      (holds-push-all h n q ps (push p.0 rs) (write_all (push_writes h p.0 p.1.byte rs) m) (rust_push p.0 p.1 xs)
      (holds-push h p.0 p.1 n q rs m xs x))

  -- No row, and 255 in every slot.
  pub holds-cleared
      : (h : ℕ) (m : List ℕ) → 1 ≤ h → h * 200 ≤ length lent → length m ≡ length lent
      → drop (h * 200) m ≡ drop (h * 200) lent → Holds lent h [] 0 0 (write_all ((0, replicate (h * 200) 255) ∷ []) m) []
  unfolding timeline
  holds-cleared h m one room same beyond =
      record {
        some_history = one;
        same_number = refl;
        in_range = omega arith;
        first = 0;
        ids = tt;
        next = omega arith;
        at_most = omega arith;
        shown = none2;
        blank = λ k l f z g. splice-fill 0 (k * 200 + z) (h * 200) 255 m (omega arith) (omega arith) (omega arith);
        room = room;
        same_length = write_all-length ((0, replicate (h * 200) 255) ∷ []) m ∙ same;
        beyond = write_all-drop (h * 200) ((0, replicate (h * 200) 255) ∷ []) m (omega (arith, length-replicate {A = ℕ} (h * 200) 255), tt) ∙ beyond;
      }

  -- A new row of one cell, 0, at place 0; its number is the next.
  pub holds-open
      : (h n a : ℕ) (tx : Text) (cl : PipelineInstructionClass) (f : ℕ) (at : Bool) (rs : List Row) (m : List ℕ) (xs : List RustRow) → n < max64
      → Holds lent h rs n n m xs
      → Holds lent h (open_row h (row_of n a tx cl f at 0 1) rs) (saturating_add n 1) (saturating_add n 1) (write_all (open_writes h n) m)
      (rust_open h (rust_row n a tx cl f at (opening_cell ∷ []) 0) xs)
  unfolding timeline rust_timeline
  holds-open h n a tx cl f at rs m xs small w =
      subst (λ (l : List RustRow). Holds lent h (open_row h x rs) (saturating_add n 1) (saturating_add n 1) m' l) (sym rust-kept)
      (subst (λ (l : List Row). Holds lent h l (saturating_add n 1) (saturating_add n 1) m' (drop k xs ++ (y ∷ []))) (sym (drop-append-le k rs (x ∷ []) fits))
      (record {
        some_history = w.some_history;
        same_number = refl;
        in_range = omega arith;
        first = w.first + k;
        ids = ids-last (w.first + k) kept x (omega (arith, kept-length, w.next, fits)) (ids-drop k w.first rs fits w.ids);
        next = omega (arith, kept-length, w.next, fits, length-append kept (x ∷ []));
        at_most = omega (arith, kept-few, length-append kept (x ∷ []));
        shown = all-last (RowShown h m') kept (drop k xs) x y others own;
        blank = blank';
        room = w.room;
        same_length = write_all-length (open_writes h n) m ∙ w.same_length;
        beyond = write_all-drop (h * 200) (open_writes h n) m (inside.0, (inside.1, tt)) ∙ w.beyond;
      }))
    where
      x : Row
      x = row_of n a tx cl f at 0 1

      y : RustRow
      y = rust_row n a tx cl f at (opening_cell ∷ []) 0

      k : ℕ
      k = length (rs ++ (x ∷ [])) - h

      fits : k ≤ length rs
      fits = omega (arith, length-append rs (x ∷ []), w.some_history)

      kept : List Row
      kept = drop k rs

      kept-length : length kept ≡ length rs - k
      kept-length = length-drop k rs

      kept-few : length kept < h
      kept-few = omega (arith, kept-length, fits, w.at_most, w.some_history, length-append rs (x ∷ []))

      m' : List ℕ
      m' = write_all (open_writes h n) m

      as_many : length rs ≡ length xs
      as_many = all-length (RowShown h m) rs xs w.shown

      rust-k : length (xs ++ (y ∷ [])) - h ≡ k
      rust-k = omega (arith, length-append rs (x ∷ []), length-append xs (y ∷ []), as_many)

      rust-kept : rust_open h y xs ≡ drop k xs ++ (y ∷ [])
      rust-kept =
          open-as-drop h y xs (omega (arith, as_many, w.at_most)) ∙ ap (λ (j : ℕ). drop j (xs ++ (y ∷ []))) rust-k
          ∙ drop-append-le k xs (y ∷ []) (omega (arith, as_many, fits))

      inside : (slot h n + length (replicate {A = ℕ} 200 255) ≤ h * 200) × (slot h n + 1 ≤ h * 200)
      inside = let z = slot-room h n w.some_history in (omega (arith, length-replicate {A = ℕ} 200 255), omega arith)

      agrees : (j : ℕ) → (j ≡ n % h → ⊥) → Agrees j m m'
      agrees j d q l =
          write-agrees j (n % h) (slot h n) (0 ∷ []) (splice (slot h n) (replicate 200 255) m) d (omega arith) (omega arith) q l
          ∙ write-agrees j (n % h) (slot h n) (replicate 200 255) m d (omega arith) (omega (arith, length-replicate {A = ℕ} 200 255)) q l

      others : All2 (RowShown h m') kept (drop k xs)
      others =
          rest-shown h n m m' (w.first + k) kept (drop k xs) agrees
          (λ z l g. apart h z n (omega (arith, kept-length, w.next, fits)) (omega (arith, kept-length, kept-few, w.next, fits)))
          (ids-drop k w.first rs fits w.ids) (all_drop (RowShown h m) k rs xs w.shown)

      first_byte : (c : ℕ) → c < 1 → slice_get m' (slot h n + (0 + c) % 200) ≡ slice_get (0 ∷ []) c
      first_byte zero l =
          new-byte (slot h n) (slot h n + (0 + 0) % 200) 0 (splice (slot h n) (replicate 200 255) m) (omega arith)
          (omega (arith, splice-length (slot h n) (replicate 200 255) m, inside.1, w.room, w.same_length))
      first_byte (suc c) l = absurd (omega arith)

      blank' : (j : ℕ) → j < h → SlotFree h j (kept ++ (x ∷ [])) → (q : ℕ) → q < 200 → slice_get m' (j * 200 + q) ≡ Some 255
      blank' j l free q g =
          let e = free-last h j kept x free in
          agrees j (λ d. e.1 (sym d)) q g
          ∙ w.blank j l
          (free-undropped h k j w.first rs w.ids
          (λ z lo hi d.
          let all : length rs ≡ h = omega (arith, length-append rs (x ∷ []), w.at_most) in
          let same : n ≡ z + h = omega (arith, w.next, length-append rs (x ∷ []), w.at_most) in
          e.1 (ap (λ (v : ℕ). v % h) same ∙ add-mod_right z h ∙ d))
          e.0)
          q g

      own : RowShown h m' x y
      own =
          record {
            same_id = refl;
            same_address = refl;
            same_text = refl;
            same_class = refl;
            same_cycle = refl;
            same_atomic = refl;
            same_count = refl;
            few = omega arith;
            oldest = omega arith;
            bytes = first_byte;
            unused =
                λ c l g.
                other_byte (slot h n) (slot h n + (0 + c) % 200) 0 (splice (slot h n) (replicate 200 255) m) (λ d. omega arith)
                ∙ splice-fill (slot h n) (slot h n + (0 + c) % 200) 200 255 m (omega arith) (omega arith)
                (let z = slot-room h n w.some_history in omega (arith, w.room, w.same_length));
          }
