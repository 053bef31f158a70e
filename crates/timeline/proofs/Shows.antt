-- What a view shows of a row and of a cell.
use Prim.Native.Nat.{ℕ, ◌+◌, ◌-◌, ◌*◌, ◌%◌, ◌≤◌, ◌<◌}
use mathlib.Core.Path.{◌≡◌, refl, sym, ap, ap₂, ◌∙◌}
use mathlib.Core.Bool.{Bool, cond}
use Rattle.std.specs.Prelude.{Option, None, Some, option_map, slice_get}
use mathlib.Core.List.{List}
use native.Mathlib.Omega.{arith}
use lib.Dec.{ltb}
use lib.ListN.{length, get_or}
use borrow.Author.Tests.{lt-ltb, le-ltb}
use Rattle.laws.specs.Optional.{when_some}
use Rattle.laws.proofs.Tests.{cond-lt, cond-ge, and_yes, and_no, and-no-second}
use Rattle.laws.proofs.Slices.{nth-get_or, get_d_any, All-get_or}
use Rattle.capability.specs.declared.PipelineTimelineState.TheVariants as cell
use Rattle.model.specs.Timeline.{Row, cell_at, timeline}
use Rattle.model.specs.Views.{row_view, cell_view}
use Rattle.model.specs.Calls.{Answer, refused, shown_row, shown_cell, first_of}
use Rattle.op.specs.Chars.{view_text}
use Rattle.timeline.specs.declared.Tracks.{Tracks}
use Rattle.timeline.specs.declared.RowTexts.{RowTexts}
use Rattle.timeline.specs.declared.PipelineTimelineRow.{PipelineTimelineRow}
use Rattle.timeline.specs.declared.Window.{Window}
use Rattle.timeline.specs.View.{
  row_at,
  first_track,
  no_text,
  view_rows,
  WindowOk,
  TracksOk,
  RowTextOk,
  RowTextsOk,
  SlotOf,
  shown,
  view_row,
  row_answer,
  ShowsRow,
  ShowsText,
}
use Rattle.timeline.proofs.Grows.{spare, spare-text}
use Rattle.timeline.proofs.Steps.{rows_end, rows-nth}
use Rattle.timeline.specs.Cells.{bare, cell_reply}

-- ── A row ───────────────────────────────────────────────────────────────────

row-answers : (o : Option Row) → row_answer (option_map shown o) ≡ shown_row (option_map row_view o)
unfolding row_answer shown view_row row_view
row-answers None = refl
row-answers (Some r) = refl

shows-row : {o : Option Row} {r : Option PipelineTimelineRow} → r ≡ option_map shown o → ShowsRow o r
shows-row {o} e = record { is = e; answer = ap row_answer e ∙ row-answers o }

pub shows_no_row : (w : Window) (ts : Tracks) (xs : RowTexts) (k : ℕ) → w.held ≤ k → ShowsRow (slice_get (view_rows w ts xs) k) None
shows_no_row w ts xs k h = shows-row (sym (ap (option_map shown) (rows_end w ts xs h)))

pub shows_no_text : (w : Window) (xs : RowTexts) (k : ℕ) → w.held ≤ k → ShowsText w xs k None
shows_no_text w xs k h = record { is = λ ts. sym (ap (option_map (λ (row : Row). row.disassembly)) (rows_end w ts xs h)); fits = tt }

module _ (w : Window) (xs : RowTexts) (k i s : ℕ) (ok : WindowOk w) (xok : RowTextsOk xs) (h : k < w.held) (p : i ≡ w.next - w.held + k) (q : SlotOf w i s)
  where
    there : s < 256
    there = omega (arith, q.below, ok.most)

    -- What the code reads of the row, by what a read past the end would give.
    pub shows_read : (ts : Tracks) → TracksOk ts
        → ShowsRow (slice_get (view_rows w ts xs) k) (Some (shown (row_at i (get_or ts.items s spare) (get_or xs.items s spare-text))))
    shows_read ts tok =
        shows-row
        (ap₂ (λ t x. Some (shown (row_at i t x)))
        (get_d_any ts.items spare (first_track 0) (omega (arith, tok.size, there)))
        (get_d_any xs.items spare-text no_text (omega (arith, xok.size, there)))
        ∙ sym (ap (option_map shown) (rows-nth w ts xs h p q)))

    pub shows_text : ShowsText w xs k (Some (get_or xs.items s spare-text).disassembly)
    shows_text =
        let here : s < length xs.items = omega (arith, xok.size, there) in
        record {
          is = λ ts.
              ap (λ x. Some (view_text x.disassembly)) (get_d_any xs.items spare-text no_text here)
              ∙ sym (ap (option_map (λ (row : Row). row.disassembly)) (rows-nth w ts xs h p q));
          fits = (All-get_or RowTextOk xs.items spare-text xok.each here).fits;
        }

-- ── A cell ──────────────────────────────────────────────────────────────────

-- by whether it is refused
abbrev reply-by : Answer → Bool → Answer
reply-by a b = when_some (cond b (Some 13) None) a refused

module _ (h : ℕ) (r : Row) (m : List ℕ) (c : ℕ) where
  pub cell-past : r.count ≤ c → shown_cell None ≡ cell_reply h r m c
  unfolding cell_reply first_of cell_at
  cell-past l =
      sym
      (ap (reply-by (shown_cell (option_map cell_view (cell_at h r m c)))) (and_no _ (le-ltb c r.count l))
      ∙ ap (λ o. shown_cell (option_map cell_view o)) (cond-ge _ _ l))

  pub cell-short : c < r.count → length m < h * 200 → refused 13 ≡ cell_reply h r m c
  unfolding cell_reply first_of
  cell-short l k = sym (ap (reply-by _) (and_yes (lt-ltb c r.count l) (lt-ltb (length m) (h * 200) k)))

  pub cell-here : {b : ℕ} → h * 200 ≤ length m → cell_at h r m c ≡ Some b → shown_cell (Some (cell_view b)) ≡ cell_reply h r m c
  unfolding cell_reply first_of
  cell-here k e =
      sym
      (ap (reply-by (shown_cell (option_map cell_view (cell_at h r m c)))) (and-no-second (ltb c r.count) (le-ltb (length m) (h * 200) k))
      ∙ ap (λ o. shown_cell (option_map cell_view o)) e)

-- The byte that the code reads; s is the row's slot.
pub byte_at : {w : Window} (v : PipelineTimelineRow) (m : List ℕ) (c : ℕ) {s : ℕ} → SlotOf w v.id s → c < v.cells → w.history * 200 ≤ length m
    → cell_at w.history (bare v) m c ≡ Some (get_or m (s * 200 + (v.oldest + c) % 200) 0)
unfolding timeline
byte_at {w} v m c {s} q l k =
    cond-lt _ _ l
    ∙ ap (λ j. slice_get m (j * 200 + (v.oldest + c) % 200)) (sym q.is)
    ∙ nth-get_or m 0 (omega (arith, q.below))
