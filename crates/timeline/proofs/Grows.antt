-- One more cell of a row: the cases of Track::grown.
use Prim.Native.Nat.{ℕ, suc, ◌+◌, ◌%◌, ◌≤◌, ◌<◌}
use mathlib.Core.Path.{◌≡◌, sym, ap, ap₂, ◌∙◌}
use mathlib.Core.Bool.{Bool, false, cond}
use mathlib.Core.List.{[]}
use native.Mathlib.Nat.{mod-lt}
use native.Mathlib.Numerals.{add-one}
use native.Mathlib.Omega.{arith}
use borrow.Author.Tests.{lt-ltb, le-ltb}
use Rattle.laws.specs.Numbers.{saturating_add}
use Rattle.capability.specs.declared.PipelineInstructionClass.TheVariants.{Alu}
use Rattle.model.specs.Timeline.{Row, row_of, add_cell}
use Rattle.timeline.specs.declared.Track.{Track}
use Rattle.timeline.specs.declared.RowText.{RowText}
use Rattle.timeline.specs.View.{row_at, TrackOk, Grown}

abbrev track : ℕ → ℕ → ℕ → Track
track f n o = record { first_cycle = f; cells = n; oldest = o }

-- what a read past the end of an array would give
abbrev pub spare : Track
spare = track 0 0 0

abbrev pub spare-text : RowText
spare-text = record { address = 0; class = Alu; atomic = false; disassembly = record { bytes = []; len = 0 } }

-- add_cell, by whether a cell goes
abbrev add-by : Row → Bool → Row
add-by r b =
    row_of r.id r.address r.disassembly r.class (cond b (saturating_add r.first_cycle 1) r.first_cycle) r.atomic
    (cond b (suc r.oldest_at % 200) r.oldest_at) (cond b r.count (suc r.count))

module _ {t : Track} (ok : TrackOk t) where
  pub grows : t.cells < 200 → Grown t (track t.first_cycle (t.cells + 1) t.oldest)
  unfolding add_cell
  grows h =
      record {
        is = λ i x.
            ap (λ n. row_at i (track t.first_cycle n t.oldest) x) (add-one t.cells)
            ∙ sym (ap (add-by (row_at i t x)) (le-ltb 200 (suc t.cells) (omega arith)));
        ok = record { some_cell = omega arith; few = omega arith; place = ok.place };
      }

  pub scrolls : {f : ℕ} → 200 ≤ t.cells → f ≡ saturating_add t.first_cycle 1 → Grown t (track f t.cells ((t.oldest + 1) % 200))
  unfolding add_cell
  scrolls h e =
      record {
        is = λ i x.
            ap₂ (λ g o. row_at i (track g t.cells (o % 200)) x) e (add-one t.oldest)
            ∙ sym (ap (add-by (row_at i t x)) (lt-ltb 200 (suc t.cells) (omega arith)));
        ok = record { some_cell = ok.some_cell; few = ok.few; place = mod-lt (t.oldest + 1) (omega arith) };
      }
