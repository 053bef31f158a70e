-- Rows one behind the other.
use Rattle.timeline.specs.declared.PipelineTimelineRow.{PipelineTimelineRow}
use Prim.Native.Nat.{ℕ, zero, suc, ◌+◌, ◌-◌, ◌*◌, ◌%◌, ◌≤◌, ◌<◌}
use mathlib.Core.Path.{◌≡◌, refl, sym, ap, ◌∙◌}
use Rattle.std.specs.Prelude.{Option, None, Some, option_map, slice_get}
use mathlib.Core.List.{List, [], ◌∷◌, ◌++◌, append_assoc, append-nil}
use native.Mathlib.Nat.{mod-lt}
use native.Mathlib.Numerals.{add-one}
use native.Mathlib.Omega.{arith}
use lib.ListN.{length, take}
use lib.Seq.{take_all}
use Rattle.laws.specs.Optional.{when_some}
use Rattle.laws.specs.Texts.{bytes, decimal}
use Rattle.laws.proofs.Slices.{All-get_or}
use Rattle.model.specs.Timeline.{Row, cell_at, timeline}
use Rattle.model.specs.State.{State}
use Rattle.model.specs.Forecast.{Lent, lent_of, cell_text, cells_text, row_text, rows_text}
use Rattle.config.specs.declared.Machine.{Machine}
use Rattle.config.specs.View.{view_machine}
use Rattle.config.specs.Kept.{MachineOk}
use Rattle.timeline.specs.declared.Window.{Window}
use Rattle.timeline.specs.declared.Tracks.{Tracks}
use Rattle.timeline.specs.declared.RowTexts.{RowTexts}
use Rattle.timeline.specs.View.{first_track, held_row, view_rows, WindowOk, TrackOk, TracksOk, shown, ShowsRow}
use Rattle.timeline.specs.Cells.{bare}
use Rattle.timeline.proofs.Rows.{from-length, from-nth}
use Rattle.traces.proofs.Written.{laid_next}
use Rattle.pages.specs.Shown.{FewCells, shown_row_text}
use Rattle.pages.proofs.Laid.{laid_as, laid_none}
use Rattle.pages.proofs.Lengths.{row-most}
use Rattle.pages.proofs.Cells.{LaidOf, engine-labels, of_size, of-most}

-- ── One row ─────────────────────────────────────────────────────────────────

-- The text does not depend on what a view leaves out.
cells-bare : (e : Lent) (r : Row) (n : ℕ) → cells_text e (bare (shown r)) n ≡ cells_text e r n
unfolding cells_text shown timeline
cells-bare e r zero = refl
cells-bare e r (suc n) =
    ap (λ t. t ++ when_some (cell_at e.engine.machine.history r e.cells n) [] (cell_text e.engine.machine.specs)) (cells-bare e r n)

row-bare : (e : Lent) (r : Row) → row_text e (bare (shown r)) ≡ row_text e r
unfolding row_text shown
row-bare e r = ap (λ t. decimal r.id ++ (bytes " " ++ (decimal r.first_cycle ++ (t ++ bytes "\n")))) (cells-bare e r r.count)

shown_row-is : (e : Lent) (o : Option Row) → shown_row_text e (option_map shown o) ≡ when_some o [] (row_text e)
unfolding shown_row_text shown
shown_row-is e None = refl
shown_row-is e (Some r) = row-bare e r

-- Its parts in the order that they are put.
pub row-parts : (e : Lent) (r : Row)
    → decimal r.id ++ (bytes " " ++ decimal r.first_cycle ++ (cells_text e r r.count ++ bytes "\n")) ≡ row_text e r
unfolding row_text
row-parts e r = ap (λ t. decimal r.id ++ t) (append_assoc (bytes " ") (decimal r.first_cycle) (cells_text e r r.count ++ bytes "\n"))

shown_row-most : {k : Machine} → MachineOk k → (cells : List ℕ) (v : Option PipelineTimelineRow) → FewCells v → (s : State) → s.machine ≡ view_machine k
    → length (shown_row_text (lent_of s cells) v) ≤ 2042
unfolding shown_row_text
shown_row-most ok cells (Some r) h s e = row-most (lent_of s cells) (engine-labels ok s e) (bare r) h
shown_row-most ok cells None h s e = omega arith

-- ── The rows that are held ──────────────────────────────────────────────────

module _ {w : Window} {ts : Tracks} (ok : WindowOk w) (tok : TracksOk ts) (xs : RowTexts) where
  few-held : (x : ℕ) → (held_row w.history ts.items xs.items x).count ≤ 200
  unfolding held_row
  few-held x =
      (All-get_or TrackOk ts.items (first_track 0) {i = x % w.history} tok.each (omega (arith, mod-lt x ok.least, ok.most, tok.size))).few

  pub few-cells : {i : ℕ} {v : Option PipelineTimelineRow} → i < w.held → ShowsRow (slice_get (view_rows w ts xs) i) v → FewCells v
  unfolding view_rows shown
  few-cells {i} h q =
      let x = w.next - w.held + i in
      rw (q.is ∙ ap (option_map shown) (from-nth (held_row w.history ts.items xs.items) (w.next - w.held) w.held h)) (few-held x)

pub all-rows : (w : Window) (ts : Tracks) (xs : RowTexts) {i : ℕ} → w.held ≤ i → take i (view_rows w ts xs) ≡ view_rows w ts xs
unfolding view_rows
all-rows w ts xs {i} h =
    take_all i (view_rows w ts xs) (omega (arith, from-length (held_row w.history ts.items xs.items) (w.next - w.held) w.held))

-- ── One more ────────────────────────────────────────────────────────────────

rows_next : (e : Lent) (rs : List Row) (i : ℕ) → rows_text e (take (suc i) rs) ≡ rows_text e (take i rs) ++ when_some (slice_get rs i) [] (row_text e)
unfolding rows_text
rows_next e [] zero = refl
rows_next e [] (suc i) = refl
rows_next e (r ∷ rs) zero = append-nil (row_text e r)
rows_next e (r ∷ rs) (suc i) =
    ap (λ t. row_text e r ++ t) (rows_next e rs i) ∙ sym (append_assoc (row_text e r) (rows_text e (take i rs)) (when_some (slice_get rs i) [] (row_text e)))

-- The first i rows stand from p on, and end at n.
pub record FirstRows (k : Machine) (cells : List ℕ) (rs : List Row) (p : ℕ) (m out : List ℕ) (n i : ℕ) : Type 0 where
  pub text : LaidOf k p (λ s. rows_text (lent_of s cells) (take i rs)) m out n
  pub most : n ≤ p + i * 2042

module _ {k : Machine} {cells : List ℕ} {rs : List Row} {p : ℕ} {m : List ℕ} where
  pub rows-first : FirstRows k cells rs p m m p 0
  unfolding rows_text
  rows-first = record { text = λ s e. laid_none p m; most = omega arith }

  module _ {out : List ℕ} {n i : ℕ} (f : FirstRows k cells rs p m out n i) where
    pub rows-size : length out ≡ length m
    rows-size = of_size k f.text

    pub rows_more : {v : Option PipelineTimelineRow} {out' : List ℕ} {n' : ℕ} → MachineOk k → FewCells v → ShowsRow (slice_get rs i) v
        → LaidOf k n (λ s. shown_row_text (lent_of s cells) v) out out' n' → FirstRows k cells rs p m out' n' (i + 1)
    rows_more {v} ok few q l =
        record {
          text = λ s e.
              let here = ap (shown_row_text (lent_of s cells)) q.is ∙ shown_row-is (lent_of s cells) (slice_get rs i) in
              let more = sym (ap (λ j. rows_text (lent_of s cells) (take j rs)) (add-one i) ∙ rows_next (lent_of s cells) rs i) in
              laid_as more (laid_next (f.text s e) (laid_as here (l s e)));
          most = omega (arith, f.most, of-most k l 2042 (shown_row-most ok cells v few));
        }
