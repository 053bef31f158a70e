-- What the parts mean to the model: together they are its list of rows, oldest first.
use Rattle.op.specs.declared.chars.Chars.{Chars}
use Rattle.std.specs.Prelude.{
  ℕ,
  zero,
  suc,
  ◌+◌,
  ◌-◌,
  ◌%◌,
  ◌≤◌,
  ◌<◌,
  min,
  ◌≡◌,
  false,
  cond,
  List,
  [],
  ◌∷◌,
  ltb,
  length,
  get_or,
  replicate,
  Option,
  None,
  Some,
  slice_get,
  option_map,
}
use Rattle.laws.specs.Lists.{All}
use Rattle.capability.specs.declared.PipelineInstructionClass.TheVariants.{Unknown}
use Rattle.op.specs.Chars.{view_text, Fits}
use Rattle.model.specs.Timeline.{Row, row_of, add_cell, push}
use Rattle.model.specs.Views.{RowView, row_view}
use Rattle.model.specs.Calls.{Answer, shown_row}
use Rattle.timeline.specs.declared.Track.{Track}
use Rattle.timeline.specs.declared.Tracks.{Tracks}
use Rattle.timeline.specs.declared.RowText.{RowText}
use Rattle.timeline.specs.declared.RowTexts.{RowTexts}
use Rattle.timeline.specs.declared.Window.{Window}
use Rattle.timeline.specs.declared.PipelineTimelineRow.{PipelineTimelineRow}

-- ── The rows ────────────────────────────────────────────────────────────────

-- The row of id i, by what moves and what stays of it.
abbrev pub row_at : ℕ → Track → RowText → Row
row_at i t x = row_of i x.address (view_text x.disassembly) x.class t.first_cycle x.atomic t.oldest t.cells

-- A row just opened: one cell, at byte 0.
abbrev pub first_track : ℕ → Track
first_track cycle = record { first_cycle = cycle; cells = 1; oldest = 0 }

abbrev pub no_bytes : Chars 64
no_bytes = record { bytes = replicate 64 0; len = 0 }

abbrev pub no_text : RowText
no_text = record { address = 0; class = Unknown; atomic = false; disassembly = no_bytes }

-- f of n numbers, from i on.
unfoldable pub from : (ℕ → Row) → ℕ → ℕ → List Row
from f i zero = []
from f i (suc n) = f i ∷ from f (suc i) n

-- The row of id i stands in slot i mod history.
unfoldable pub held_row : ℕ → List Track → List RowText → ℕ → Row
held_row history ts xs i = row_at i (get_or ts (i % history) (first_track 0)) (get_or xs (i % history) no_text)

-- Ids next - held to next - 1 are held.
unfoldable pub view_rows : Window → Tracks → RowTexts → List Row
view_rows w ts xs = from (held_row w.history ts.items xs.items) (w.next - w.held) w.held

-- ── When they are well formed ───────────────────────────────────────────────

pub record WindowOk (w : Window) : Type 0 where
  pub few : w.held ≤ w.history
  pub past : w.held ≤ w.next
  pub least : 1 ≤ w.history
  pub most : w.history ≤ 256

pub record TrackOk (t : Track) : Type 0 where
  pub some_cell : 1 ≤ t.cells
  pub few : t.cells ≤ 200
  pub place : t.oldest < 200

pub record TracksOk (ts : Tracks) : Type 0 where
  pub size : length ts.items ≡ 256
  pub each : All TrackOk ts.items

pub record RowTextOk (x : RowText) : Type 0 where
  pub size : length x.disassembly.bytes ≡ 64
  pub fits : x.disassembly.len ≤ 64

pub record RowTextsOk (xs : RowTexts) : Type 0 where
  pub size : length xs.items ≡ 256
  pub each : All RowTextOk xs.items

-- ── What the functions say ──────────────────────────────────────────────────

-- The elements, in order.
abbrev pub all_tracks : Tracks → List Track
all_tracks ts = ts.items

abbrev pub all_texts : RowTexts → List RowText
all_texts xs = xs.items

abbrev pub the_window : Window → Window
the_window w = w

abbrev pub no_rows : ℕ → Window
no_rows history = record { next = 0; held = 0; history = history }

-- One row more, of id next; beyond the history the oldest goes.
abbrev pub opened : Window → Window
opened w = record { next = w.next + 1; held = min (w.held + 1) w.history; history = w.history }

pub record SlotOf (w : Window) (i s : ℕ) : Type 0 where
  pub is : s ≡ i % w.history
  pub below : s < w.history

-- The slot of a row id, where it is held.
unfoldable pub slot_held : Window → ℕ → Option ℕ
slot_held w i = cond (ltb i (w.next - w.held)) None (cond (ltb i w.next) (Some (i % w.history)) None)

-- One more cell, whatever the row's id and text.
pub record Grown (t r : Track) : Type 0 where
  pub is : (i : ℕ) (x : RowText) → row_at i r x ≡ add_cell (row_at i t x)
  pub ok : TrackOk r

-- A cell for the row of id i, whatever the texts.
pub record Pushed (w : Window) (i : ℕ) (ts r : Tracks) : Type 0 where
  pub is : (xs : RowTexts) → view_rows w r xs ≡ push i (view_rows w ts xs)
  pub ok : TracksOk r

-- ── The view of a row ───────────────────────────────────────────────────────

-- What the code shows of a row: its numbers. The last is for the cells' places.
unfoldable pub shown : Row → PipelineTimelineRow
shown r =
    record {
      id = r.id;
      address = r.address;
      class = r.class;
      first_cycle = r.first_cycle;
      cells = r.count;
      atomic = r.atomic;
      oldest = r.oldest_at;
    }

unfoldable pub view_row : PipelineTimelineRow → RowView
view_row v =
    record {
      id = v.id;
      address = v.address;
      class = v.class;
      first_cycle = v.first_cycle;
      cells = v.cells;
      atomic = v.atomic;
    }

-- The view timeline_row, as the model answers it.
unfoldable pub row_answer : Option PipelineTimelineRow → Answer
row_answer r = shown_row (option_map view_row r)

pub record ShowsRow (o : Option Row) (r : Option PipelineTimelineRow) : Type 0 where
  pub is : r ≡ option_map shown o
  pub answer : row_answer r ≡ shown_row (option_map row_view o)

-- The text of the row at an index, whatever the tracks; where it is there it fits its array.
pub record ShowsText (w : Window) (xs : RowTexts) (k : ℕ) (r : Option (Chars 64)) : Type 0 where
  pub is : (ts : Tracks) → option_map view_text r ≡ option_map (λ (row : Row). row.disassembly) (slice_get (view_rows w ts xs) k)
  pub fits : Fits r
