-- The rows of the timeline: their ids are consecutive, and each has 1 to 200 cells.
use Prim.Native.Nat.{ℕ, zero, suc, ◌-◌, ◌%◌, ◌≤◌, ◌<◌}
use native.Mathlib.Omega.{arith}
use mathlib.Core.Path.{◌≡◌, refl, sym, ◌∙◌, ap, subst}
use mathlib.Core.List.{List, [], ◌∷◌, ◌++◌}
use lib.Dec.{eqb, ltb}
use lib.ListN.{length, drop, length-drop}
use borrow.Author.Tests.{ltb-false}
use Rattle.laws.specs.Lists.{All}
use Rattle.laws.specs.Numbers.{max64, saturating_add}
use Rattle.laws.proofs.Choices.{either}
use Rattle.laws.proofs.Maps.{map-append, map-drop}
use Rattle.model.specs.Timeline.{Row, add_cell, open_row, push, push_all, timeline}
use Rattle.runs.proofs.Tracks.{all_append}
use Rattle.invariant.specs.Invariant.{Consecutive, RowFits, first_or, row_ids}
use Rattle.invariant.proofs.Counters.{sum_few}

-- ── Cells ───────────────────────────────────────────────────────────────────

pushed-ids : (i : ℕ) (rows : List Row) → row_ids (push i rows) ≡ row_ids rows
unfolding timeline
pushed-ids i [] = refl
pushed-ids i (r ∷ rs) =
    either (λ (l : List Row). row_ids l ≡ r.id ∷ row_ids rs) (eqb r.id i) (add_cell r ∷ rs) (r ∷ push i rs) (λ t. refl)
    (λ e. ap (λ (l : List ℕ). r.id ∷ l) (pushed-ids i rs))

pub all-pushed-ids : (ps : List (ℕ × ℕ)) (rows : List Row) → row_ids (push_all ps rows) ≡ row_ids rows
unfolding timeline
all-pushed-ids [] rows = refl
all-pushed-ids (p ∷ ps) rows = all-pushed-ids ps (push p.0 rows) ∙ pushed-ids p.0 rows

cell-fits : (r : Row) → RowFits r → RowFits (add_cell r)
unfolding timeline
cell-fits r h =
    let a = h.cells_some in
    let b = h.cells_few in
    let c = h.oldest_few in
    record {
      text_fits = h.text_fits;
      cells_some =
          either (λ (n : ℕ). 1 ≤ n) (ltb 200 (suc r.count)) r.count (suc r.count) (λ t. a) (λ e. omega arith);
      cells_few =
          either (λ (n : ℕ). n ≤ 200) (ltb 200 (suc r.count)) r.count (suc r.count) (λ t. b)
          (λ e. ltb-false 200 (suc r.count) e);
      oldest_few =
          either (λ (n : ℕ). n < 200) (ltb 200 (suc r.count)) (suc r.oldest_at % 200) r.oldest_at (λ t. omega arith) (λ e. c);
      first_few =
          either (λ (n : ℕ). n ≤ max64) (ltb 200 (suc r.count)) (saturating_add r.first_cycle 1) r.first_cycle
          (λ t. sum_few r.first_cycle 1) (λ e. h.first_few);
    }

push-fits : (i : ℕ) (rows : List Row) → All RowFits rows → All RowFits (push i rows)
unfolding timeline
push-fits i [] h = tt
push-fits i (r ∷ rs) h =
    either (All RowFits) (eqb r.id i) (add_cell r ∷ rs) (r ∷ push i rs) (λ t. (cell-fits r h.0, h.1))
    (λ e. (h.0, push-fits i rs h.1))

pub all-push-fits : (ps : List (ℕ × ℕ)) (rows : List Row) → All RowFits rows → All RowFits (push_all ps rows)
unfolding timeline
all-push-fits [] rows h = h
all-push-fits (p ∷ ps) rows h = all-push-fits ps (push p.0 rows) (push-fits p.0 rows h)

-- ── A row opens ─────────────────────────────────────────────────────────────

first-last : (is : List ℕ) (n m : ℕ) → first_or (is ++ (n ∷ [])) m ≡ first_or is n
first-last [] n m = refl
first-last (i ∷ is) n m = refl

consecutive-last : (is : List ℕ) (n : ℕ) → Consecutive is n → Consecutive (is ++ (n ∷ [])) (suc n)
consecutive-last [] n h = (refl, tt)
consecutive-last (i ∷ is) n h = (h.0 ∙ sym (first-last is n (suc n)), consecutive-last is n h.1)

consecutive-drop : (k : ℕ) (is : List ℕ) (n : ℕ) → Consecutive is n → Consecutive (drop k is) n
consecutive-drop zero is n h = h
consecutive-drop (suc k) [] n h = tt
consecutive-drop (suc k) (i ∷ is) n h = consecutive-drop k is n h.1

module _ (history : ℕ) (r : Row) (rows : List Row) where
  abbrev opened : List Row
  opened = rows ++ (r ∷ [])

  abbrev gone : ℕ
  gone = length opened - history

  pub open-ids : Consecutive (row_ids rows) r.id → Consecutive (row_ids (open_row history r rows)) (suc r.id)
  unfolding timeline
  open-ids h =
      subst (λ (z : List ℕ). Consecutive z (suc r.id)) (sym (map-drop (λ (x : Row). x.id) gone opened))
      (consecutive-drop gone (row_ids opened) (suc r.id)
      (subst (λ (z : List ℕ). Consecutive z (suc r.id)) (sym (map-append (λ (x : Row). x.id) rows (r ∷ [])))
      (consecutive-last (row_ids rows) r.id h)))

  pub open-few : length (open_row history r rows) ≤ history
  unfolding timeline
  open-few = omega (arith, length-drop gone opened)

  drop-fits : (k : ℕ) (rs : List Row) → All RowFits rs → All RowFits (drop k rs)
  drop-fits zero rs h = h
  drop-fits (suc k) [] h = tt
  drop-fits (suc k) (x ∷ rs) h = drop-fits k rs h.1

  pub open-fits : RowFits r → All RowFits rows → All RowFits (open_row history r rows)
  unfolding timeline
  open-fits f h = drop-fits gone opened (all_append RowFits rows (r ∷ []) h (f, tt))
