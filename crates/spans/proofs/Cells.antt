-- Cells for rows: a row of few cells takes one more and loses none.
use Prim.Native.Nat.{ℕ, suc, ◌+◌, ◌%◌, ◌≤◌}
use native.Mathlib.Omega.{arith}
use mathlib.Core.Path.{◌≡◌, refl, ◌∙◌, ap}
use mathlib.Core.Bool.{Bool, true, false, cond}
use mathlib.Core.List.{List, [], ◌∷◌}
use lib.Dec.{eqb, ltb}
use borrow.Author.Tests.{le-ltb}
use Rattle.laws.specs.Lists.{All}
use Rattle.model.specs.Timeline.{Row, add_cell, push, push_all, timeline}
use Rattle.runs.proofs.Tracks.{all-weaken}
use Rattle.ending.proofs.Totals.{total}

-- A row, with so many cells more to come at most for each row id.
pub record Within (c : ℕ → ℕ) (r : Row) : Type 0 where
  pub cells : r.count + c r.id ≤ 95
  pub none_lost : r.oldest_at ≡ 0

-- 1 where the cell is for row i.
abbrev pub hit : ℕ → (ℕ × ℕ) → ℕ
hit i p = cond (eqb i p.0) 1 0

pub within-less : (c d : ℕ → ℕ) (r : Row) → d r.id ≤ c r.id → Within c r → Within d r
within-less c d r l h = record { cells = omega (arith, l, h.cells); none_lost = h.none_lost }

within-added : (c d : ℕ → ℕ) (r : Row) → suc (d r.id) ≤ c r.id → Within c r → Within d (add_cell r)
unfolding timeline
within-added c d r l h =
    let few : ltb 200 (suc r.count) ≡ false = le-ltb 200 (suc r.count) (omega (arith, l, h.cells)) in
    let n : (add_cell r).count ≡ suc r.count = ap (λ (b : Bool). cond b r.count (suc r.count)) few in
    record {
      cells = omega (arith, n, l, h.cells);
      none_lost = ap (λ (b : Bool). cond b (suc r.oldest_at % 200) r.oldest_at) few ∙ h.none_lost;
    }

within-push
    : (c : ℕ → ℕ) (p : ℕ × ℕ) (rows : List Row) → All (Within (λ i. hit i p + c i)) rows → All (Within c) (push p.0 rows)
unfolding timeline
within-push c p [] h = tt
within-push c p (r ∷ rs) h = go (eqb r.id p.0) refl (within-push c p rs h.1)
  where
    less : (x : Row) → Within (λ i. hit i p + c i) x → Within c x
    less x = within-less (λ i. hit i p + c i) c x (omega arith)

    go
        : (b : Bool) → eqb r.id p.0 ≡ b → All (Within c) (push p.0 rs)
        → All (Within c) (cond b (add_cell r ∷ rs) (r ∷ push p.0 rs))
    go true e ih =
        let one : hit r.id p ≡ 1 = ap (λ (b : Bool). cond b 1 0) e in
        (within-added (λ i. hit i p + c i) c r (omega (arith, one)) h.0, all-weaken (Within (λ i. hit i p + c i)) (Within c) less rs h.1)
    go false e ih = (less r h.0, ih)

pub within-push-all
    : (c : ℕ → ℕ) (ps : List (ℕ × ℕ)) (rows : List Row) → All (Within (λ i. total (hit i) ps + c i)) rows → All (Within c) (push_all ps rows)
unfolding timeline total
within-push-all c [] rows h =
    all-weaken (Within (λ i. 0 + c i)) (Within c) (λ r. within-less (λ i. 0 + c i) c r (omega arith)) rows h
within-push-all c (p ∷ ps) rows h =
    within-push-all c ps (push p.0 rows)
    (within-push (λ i. total (hit i) ps + c i) p rows
    (all-weaken (Within (λ i. hit i p + total (hit i) ps + c i)) (Within (λ i. hit i p + (total (hit i) ps + c i)))
    (λ r. within-less (λ i. hit i p + total (hit i) ps + c i) (λ i. hit i p + (total (hit i) ps + c i)) r (omega arith)) rows h))
