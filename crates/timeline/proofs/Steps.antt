-- What the functions' contracts say together: a row opened, a cell pushed, a row read.
use Prim.Native.Nat.{ℕ, ◌+◌, ◌-◌, ◌*◌, ◌%◌, ◌≤◌, ◌<◌, min}
use mathlib.Core.Path.{◌≡◌, refl, sym, ap, ap₂, ◌∙◌}
use mathlib.Core.Logic.{◌⊎◌, inl, inr, ⊎_elim}
use Rattle.std.specs.Prelude.{None, Some, slice_get}
use mathlib.Core.List.{List, []}
use native.Mathlib.Nat.{mod-lt}
use native.Mathlib.Omega.{arith}
use lib.ListN.{length, get_or, set, replicate, length-set}
use lib.Seq.{get_or-set_same, get_or-set_other, set-get_or}
use Rattle.laws.specs.Means.{Means}
use Rattle.laws.proofs.Tests.{cond-eq, lt-or-ge}
use Rattle.laws.proofs.Slices.{get_d_any, nth_end, All-get_or, All-set}
use Rattle.model.specs.Timeline.{Row, add_cell, push_writes, next_place, open_row, splice, open_writes, write_all, timeline}
use Rattle.timeline.specs.declared.Track.{Track}
use Rattle.timeline.specs.declared.Tracks.{Tracks}
use Rattle.timeline.specs.declared.RowText.{RowText}
use Rattle.timeline.specs.declared.RowTexts.{RowTexts}
use Rattle.timeline.specs.declared.Window.{Window}
use Rattle.timeline.specs.View.{
  from,
  row_at,
  first_track,
  no_text,
  held_row,
  view_rows,
  WindowOk,
  TrackOk,
  TracksOk,
  RowTextsOk,
  all_tracks,
  all_texts,
  no_rows,
  opened,
  SlotOf,
  Grown,
  Pushed,
}
use Rattle.timeline.proofs.Memory.{splice-set}
use Rattle.timeline.proofs.Slots.{apart, Held}
use Rattle.timeline.proofs.Rows.{from-length, from-nth, from-same, with_row, with-row-other, from-push, from-writes, from-no-writes, from-open}

-- ── One row, by its slot ────────────────────────────────────────────────────

module _ (h : ℕ) (ts : List Track) (xs : List RowText) (x : ℕ) where
  pub held-id : (held_row h ts xs x).id ≡ x
  unfolding held_row
  held-id = refl

  -- a store in another slot
  pub held-other : (s : ℕ) (t : Track) (y : RowText) → (x % h ≡ s → ⊥) → held_row h (set ts s t) (set xs s y) x ≡ held_row h ts xs x
  unfolding held_row
  held-other s t y n = ap₂ (row_at x) (get_or-set_other ts s (x % h) t (first_track 0) n) (get_or-set_other xs s (x % h) y no_text n)

  -- stores in its own
  pub held_same : (t : Track) (y : RowText) → x % h < length ts → x % h < length xs
      → held_row h (set ts (x % h) t) (set xs (x % h) y) x ≡ row_at x t y
  unfolding held_row
  held_same t y k l = ap₂ (row_at x) (get_or-set_same ts (x % h) t (first_track 0) k) (get_or-set_same xs (x % h) y no_text l)

-- ── A row opened ────────────────────────────────────────────────────────────

module _ {w : Window} (ok : WindowOk w) (ts : Tracks) (tok : TracksOk ts) (xs : RowTexts) (xok : RowTextsOk xs) where
  -- The three halves of Timeline::open together.
  pub rows-opened
      : (cycle : ℕ) (x : RowText) {ts' : Tracks} {xs' : RowTexts}
      → Means all_tracks TracksOk ts' (set ts.items (w.next % w.history) (first_track cycle))
      → Means all_texts RowTextsOk xs' (set xs.items (w.next % w.history) x)
      → view_rows (opened w) ts' xs' ≡ open_row w.history (row_at w.next (first_track cycle) x) (view_rows w ts xs)
  unfolding view_rows
  rows-opened cycle x {ts'} {xs'} t y =
      ap (λ k. from after (k + 1 - count) count) (sym next)
      ∙ from-open (held_row h ts.items xs.items) after h b w.held (row_at w.next (first_track cycle) x) ok.few newest older
    where
      h : ℕ
      h = w.history

      b : ℕ
      b = w.next - w.held

      count : ℕ
      count = min (w.held + 1) h

      after : ℕ → Row
      after = held_row h ts'.items xs'.items

      next : b + w.held ≡ w.next
      next = omega (arith, ok.past)

      stored : after ≡ held_row h (set ts.items (w.next % h) (first_track cycle)) (set xs.items (w.next % h) x)
      stored = ap₂ (held_row h) t.is y.is

      slot : w.next % h < 256
      slot = omega (arith, mod-lt w.next ok.least, ok.most)

      newest : row_at w.next (first_track cycle) x ≡ after (b + w.held)
      newest =
          sym
          (ap after next ∙ ap (λ f. f w.next) stored
          ∙ held_same h ts.items xs.items w.next (first_track cycle) x (omega (arith, tok.size, slot)) (omega (arith, xok.size, slot)))

      older : (i : ℕ) → b ≤ i → i < b + w.held → b + w.held < i + h → held_row h ts.items xs.items i ≡ after i
      older i l m g =
          sym (ap (λ f. f i) stored ∙ held-other h ts.items xs.items i (w.next % h) (first_track cycle) x (apart h i w.next (omega (arith, next)) (omega (arith, next))))

-- Its bytes; s is its slot.
pub memory-opened : {w : Window} {s : ℕ} (m : List ℕ) {m' : List ℕ} → SlotOf w w.next s → m' ≡ splice (s * 200) (replicate 200 255) m
    → set m' (s * 200) 0 ≡ write_all (open_writes w.history w.next) m
unfolding timeline
memory-opened {w} {s} m {m'} q e =
    ap₂ (λ l k. set l (k * 200) 0) (e ∙ ap (λ k. splice (k * 200) (replicate 200 255) m) q.is) q.is
    ∙ sym (splice-set (w.next % w.history * 200) 0 (splice (w.next % w.history * 200) (replicate 200 255) m))

-- ── A cell pushed ───────────────────────────────────────────────────────────

-- The rows with one more cell for row i.
abbrev grown-row : ℕ → List Track → List RowText → ℕ → ℕ → Row
grown-row h ts xs i = with_row (held_row h ts xs) i (add_cell (held_row h ts xs i))

-- One row after a store in the slot of row i.
module _ (h : ℕ) (ts : List Track) (xs : List RowText) (i : ℕ) (u : Track) where
  other_row : (x : ℕ) → (x % h ≡ i % h → ⊥) → held_row h (set ts (i % h) u) xs x ≡ grown-row h ts xs i x
  other_row x n =
      ap (λ l. held_row h (set ts (i % h) u) l x) (sym (set-get_or xs (i % h) no_text))
      ∙ held-other h ts xs x (i % h) u (get_or xs (i % h) no_text) n
      ∙ with-row-other (held_row h ts xs) i (add_cell (held_row h ts xs i)) x (λ z. n (ap (λ y. y % h) z))

  same_row : (d : Track) → i % h < length ts → Grown (get_or ts (i % h) d) u → held_row h (set ts (i % h) u) xs i ≡ grown-row h ts xs i i
  unfolding held_row
  same_row d k g =
      let x : RowText = get_or xs (i % h) no_text in
      ap (λ t. row_at i t x) (get_or-set_same ts (i % h) u (first_track 0) k)
      ∙ g.is i x
      ∙ ap (λ t. add_cell (row_at i t x)) (get_d_any ts d (first_track 0) k)
      ∙ sym (cond-eq (add_cell (held_row h ts xs i)) (held_row h ts xs i) {m = i} refl)

module _ {w : Window} (ok : WindowOk w) {ts : Tracks} (tok : TracksOk ts) {i s : ℕ} (at : Held w i s) where
  pub slot-there : s < length ts.items
  slot-there = omega (arith, tok.size, at.slot.below, ok.most)

  pub track-there : (d : Track) → TrackOk (get_or ts.items s d)
  track-there d = All-get_or TrackOk ts.items d tok.each slot-there

  pub pushed : (d : Track) {u : Track} {r : Tracks} → Grown (get_or ts.items s d) u → r.items ≡ set ts.items s u → Pushed w i ts r
  unfolding view_rows
  pushed d {u} {r} g e =
      record {
        is = λ xs.
            from-same b w.held (step xs)
            ∙ sym (from-push (held_row h ts.items xs.items) (held-id h ts.items xs.items) i b w.held);
        ok = record { size = ap length e ∙ length-set ts.items s u ∙ tok.size; each = rw e (All-set TrackOk ts.items s u tok.each g.ok) };
      }
    where
      h : ℕ
      h = w.history

      b : ℕ
      b = w.next - w.held

      stored : r.items ≡ set ts.items (i % h) u
      stored = e ∙ ap (λ k. set ts.items k u) at.slot.is

      there : i % h < length ts.items
      there = omega (arith, at.slot.is, slot-there)

      step : (xs : RowTexts) (x : ℕ) → b ≤ x → x < b + w.held → held_row h r.items xs.items x ≡ grown-row h ts.items xs.items i x
      step xs x l m =
          let other = other_row h ts.items xs.items i u in
          ap (λ t. held_row h t xs.items x) stored
          ∙ ⊎_elim
          (λ (k : x < i). other x (apart h x i k (omega (arith, at.most, ok.few, ok.past))))
          (λ (k : i ≤ x).
          ⊎_elim
          (λ (n : i < x). other x (λ z. apart h i x n (omega (arith, at.least, ok.few, ok.past)) (sym z)))
          (λ (n : x ≤ i).
          let q : i ≡ x = omega arith in
          ap (λ y. held_row h (set ts.items (i % h) u) xs.items y) (sym q)
          ∙ same_row h ts.items xs.items i u d there (rw at.slot.is at g)
          ∙ ap (grown-row h ts.items xs.items i) q)
          (lt-or-ge i x))
          (lt-or-ge x i)

  next-is : (d : Track) (xs : RowTexts)
      → s * 200 + ((get_or ts.items s d).oldest + (get_or ts.items s d).cells) % 200
      ≡ next_place w.history (held_row w.history ts.items xs.items i)
  unfolding timeline held_row
  next-is d xs =
      ap (λ t. s * 200 + (t.oldest + t.cells) % 200) (get_d_any ts.items d (first_track 0) slot-there)
      ∙ ap (λ k. k * 200 + ((get_or ts.items k (first_track 0)).oldest + (get_or ts.items k (first_track 0)).cells) % 200) at.slot.is

  pub wrote : (d : Track) (m : List ℕ) (byte : ℕ) {m' : List ℕ}
      → m' ≡ set m (s * 200 + ((get_or ts.items s d).oldest + (get_or ts.items s d).cells) % 200) byte
      → (xs : RowTexts) → m' ≡ write_all (push_writes w.history i byte (view_rows w ts xs)) m
  unfolding view_rows write_all
  wrote d m byte e xs =
      let before = held_row w.history ts.items xs.items in
      let b : ℕ = w.next - w.held in
      e ∙ ap (λ p. set m p byte) (next-is d xs)
      ∙ sym
      (ap (λ ws. write_all ws m)
      (from-writes before (held-id w.history ts.items xs.items) i w.history byte b w.held at.least (omega (arith, at.most, ok.past)))
      ∙ splice-set (next_place w.history (before i)) byte m)

-- ── A row no longer held ────────────────────────────────────────────────────

module _ {w : Window} (ok : WindowOk w) {i : ℕ} (gone : (i < w.next - w.held) ⊎ (w.next ≤ i)) where
  outside : (i < w.next - w.held) ⊎ (w.next - w.held + w.held ≤ i)
  outside = ⊎_elim inl (λ l. inr (omega (arith, ok.past))) gone

  pub not-pushed : {ts : Tracks} → TracksOk ts → Pushed w i ts ts
  unfolding view_rows
  not-pushed {ts} tok =
      record {
        is = λ xs.
            let rows = held_row w.history ts.items xs.items in
            from-same (w.next - w.held) w.held (λ x l m. with-row-other rows i (add_cell (rows i)) x (λ z. ⊎_elim (λ k. omega arith) (λ k. omega arith) outside))
            ∙ sym (from-push rows (held-id w.history ts.items xs.items) i (w.next - w.held) w.held);
        ok = tok;
      }

  pub not-wrote : (ts : Tracks) (m : List ℕ) (byte : ℕ) (xs : RowTexts) → m ≡ write_all (push_writes w.history i byte (view_rows w ts xs)) m
  unfolding view_rows write_all
  not-wrote ts m byte xs =
      let rows = held_row w.history ts.items xs.items in
      sym
      (ap (λ ws. write_all ws m)
      (from-no-writes rows (held-id w.history ts.items xs.items) i w.history byte (w.next - w.held) w.held outside))

-- ── Rows read ───────────────────────────────────────────────────────────────

module _ (w : Window) (ts : Tracks) (xs : RowTexts) where
  abbrev rows : ℕ → Row
  rows = held_row w.history ts.items xs.items

  pub rows-count : length (view_rows w ts xs) ≡ w.held
  unfolding view_rows
  rows-count = from-length rows (w.next - w.held) w.held

  pub rows_end : {k : ℕ} → w.held ≤ k → slice_get (view_rows w ts xs) k ≡ None
  rows_end h = nth_end (view_rows w ts xs) (rw rows-count h)

  -- The row of id i stands in slot s.
  pub rows-nth : {k i s : ℕ} → k < w.held → i ≡ w.next - w.held + k → SlotOf w i s
      → slice_get (view_rows w ts xs) k ≡ Some (row_at i (get_or ts.items s (first_track 0)) (get_or xs.items s no_text))
  unfolding view_rows held_row
  rows-nth {k} {i} h p q =
      from-nth rows (w.next - w.held) w.held h ∙ ap (λ j. Some (rows j)) (sym p)
      ∙ ap (λ j. Some (row_at i (get_or ts.items j (first_track 0)) (get_or xs.items j no_text))) (sym q.is)

pub no-rows-shown : (h : ℕ) (ts : Tracks) (xs : RowTexts) → view_rows (no_rows h) ts xs ≡ []
unfolding view_rows from
no-rows-shown h ts xs = refl
