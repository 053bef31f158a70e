-- The timeline's statement: views and memory, on every list of calls from a making that is not refused.
use Prim.Native.Nat.{ℕ, zero, suc, ◌+◌, ◌*◌, ◌%◌, ◌≤◌, max}
use native.Mathlib.Omega.{arith}
use mathlib.Core.Path.{◌≡◌, refl, sym, ◌∙◌, ap, subst}
use mathlib.Core.Bool.{Bool, true, false, cond, ◌&&◌, ◌||◌, true≢false}
use Rattle.std.specs.Prelude.{Option, None, Some, slice_get, option_map}
use mathlib.Core.List.{List, [], ◌∷◌, map}
use lib.Dec.{ltb}
use lib.ListN.{length}
use borrow.Author.Tests.{ltb-true, ltb-false, le-ltb}
use Rattle.laws.specs.Lists.{All, All2, lists, more2, none2}
use Rattle.laws.specs.Optional.{when_some}
use Rattle.laws.specs.Texts.{Text}
use Rattle.laws.proofs.Choices.{none-some, some_inj}
use Rattle.laws.proofs.Maps.{length-of, nth-map}
use Rattle.model.specs.Config.{PipelineShape, UnitSpec, at_least_one, capacities, config, specs_or_generic}
use Rattle.model.specs.Timeline.{Row, cell_at, cell_place, timeline}
use Rattle.model.specs.State.{State, engine, new}
use Rattle.model.specs.Views.{cell_byte, cell_there, cell_view, row_view, views}
use Rattle.model.specs.Requests.{Request, requests, row_disassembly, short_for, text_at}
use Rattle.model.specs.Calls.{Made, answer, calls, made, make, make_memory, make_refusal, memories, memory_made, no_machine, refused, runs, shown_cell, shown_number, shown_row, shown_text, text}
use Rattle.refusals.proofs.Demand1.{made-checks, made-room}
use Rattle.model.specs.RustTimeline.{RustCell, RustRow, rust_timeline, rust_cell, rust_runs}
use Rattle.rows.specs.Shown.{rust_row_view, rust_row_text, CellShown, Both, TimelineShown, TimelineTheorem}
use Rattle.rows.proofs.Places.{nth_past, nth-below}
use Rattle.rows.proofs.Row.{RowShown, byte_of}
use Rattle.rows.proofs.Push.{all-length}
use Rattle.rows.proofs.Holds.{Shows, holds-cleared}
use Rattle.rows.proofs.Declared.{kinds-built}
use Rattle.rows.proofs.Labels.{Right, RightRow}
use Rattle.rows.proofs.Steps.{Sound, shows-runs, sound-runs}
use Rattle.rows.proofs.Memory.{memory-is}

-- ── Texts ───────────────────────────────────────────────────────────────────

-- A text request whose buffer takes the text.
text-answered
    : (s : State) (m : List ℕ) (t : Request) (room : ℕ) (x : Option Text) → text_at s t ≡ x → short_for room x ≡ false
    → answer s m (text t room) ≡ shown_text x
unfolding calls
text-answered s m t room x e l =
    ap (λ (b : Bool). when_some (cond b (Some 13) None) (shown_text (text_at s t)) refused) (ap (short_for room) e ∙ l) ∙ ap shown_text e

-- ── One cell ────────────────────────────────────────────────────────────────

right-shown : (s : State) (m : List ℕ) (x : RustCell) → Right s.machine.specs x → CellShown s m (cell_view x.byte) x
unfolding views requests
right-shown s m x r =
    record {
      label = λ room l. text-answered s m _ room (Some x.label) r.label (le-ltb room (length x.label) l);
      state = r.state;
      role = r.role;
    }

cells-both
    : (s : State) (m : List ℕ) (xs : List RustCell) (c : ℕ) → All (Right s.machine.specs) xs
    → Both (CellShown s m) (option_map cell_view (slice_get (map byte_of xs) c)) (slice_get xs c)
unfolding lists
cells-both s m [] c r = tt
cells-both s m (x ∷ xs) zero r = right-shown s m x r.0
cells-both s m (x ∷ xs) (suc c) r = cells-both s m xs c r.1

cell-is : (h : ℕ) (m : List ℕ) (r : Row) (y : RustRow) (c : ℕ) → RowShown h m r y → cell_at h r m c ≡ slice_get (map byte_of y.cells) c
unfolding timeline
cell-is h m r y c x = go (ltb c r.count) refl
  where
    go : (b : Bool) → ltb c r.count ≡ b → cond b (slice_get m (cell_place h r c)) None ≡ slice_get (map byte_of y.cells) c
    go true e = x.bytes c (ltb-true c r.count e)
    go false e =
        sym (nth_past (map byte_of y.cells) c (omega (arith, ltb-false c r.count e, x.same_count, length-of byte_of y.cells)))

module _ (s : State) (m : List ℕ) (h : ℕ) where
  rows_both
      : (rs : List Row) (ys : List RustRow) (i c : ℕ) → All2 (RowShown h m) rs ys → All (RightRow s.machine.specs) ys
      → Both (CellShown s m) (option_map cell_view (when_some (slice_get rs i) None (λ (r : Row). cell_at h r m c))) (rust_cell ys i c)
  unfolding lists rust_timeline
  rows_both rs ys i c none2 q = tt
  rows_both rs ys zero c (more2 {a = r} {b = y} x xs) q =
      subst (λ (o : Option ℕ). Both (CellShown s m) (option_map cell_view o) (slice_get y.cells c)) (sym (cell-is h m r y c x))
      (cells-both s m y.cells c q.0)
  rows_both rs ys (suc i) c (more2 {as' = rs'} {bs = ys'} x xs) q = rows_both rs' ys' i c xs q.1

  -- ── One row ───────────────────────────────────────────────────────────────

  rows-viewed : (rs : List Row) (ys : List RustRow) (i : ℕ) → All2 (RowShown h m) rs ys → option_map row_view (slice_get rs i) ≡ option_map rust_row_view (slice_get ys i)
  unfolding lists views rust_row_view
  rows-viewed rs ys i none2 = refl
  rows-viewed rs ys zero (more2 {a = r} {b = y} x xs) =
      λ j.
      Some
      (record {
        id = x.same_id j;
        address = x.same_address j;
        class = x.same_class j;
        first_cycle = x.same_cycle j;
        cells = x.same_count j;
        atomic = x.same_atomic j;
      })
  rows-viewed rs ys (suc i) (more2 {as' = rs'} {bs = ys'} x xs) = rows-viewed rs' ys' i xs

  rows_text
      : (rs : List Row) (ys : List RustRow) (i : ℕ) → All2 (RowShown h m) rs ys
      → option_map (λ (r : Row). r.disassembly) (slice_get rs i) ≡ rust_row_text ys i
  unfolding lists rust_row_text
  rows_text rs ys i none2 = refl
  rows_text rs ys zero (more2 {a = r} {b = y} x xs) = ap Some x.same_text
  rows_text rs ys (suc i) (more2 {as' = rs'} {bs = ys'} x xs) = rows_text rs' ys' i xs

  cell-placed
      : (r : Row) (y : RustRow) (j : ℕ) (x : RustCell) → RowShown h m r y → slice_get y.cells j ≡ Some x
      → slice_get m (y.id % h * 200 + (y.lost + j) % 200) ≡ Some x.byte
  unfolding timeline
  cell-placed r y j x w e =
      ap (λ (p : ℕ). slice_get m p) there ∙ w.bytes j (omega (arith, nth-below y.cells j x e, w.same_count)) ∙ nth-map byte_of y.cells j
      ∙ ap (option_map byte_of) e
    where
      slot-there : y.id % h ≡ r.id % h
      slot-there = ap (λ (i : ℕ). i % h) (sym w.same_id)

      turned : (y.lost + j) % 200 ≡ (r.oldest_at + j) % 200
      turned = omega (arith, w.oldest)

      there : y.id % h * 200 + (y.lost + j) % 200 ≡ cell_place h r j
      there = omega (arith, slot-there, turned)

  rows-placed
      : (rs : List Row) (ys : List RustRow) (i j : ℕ) (y : RustRow) (x : RustCell) → All2 (RowShown h m) rs ys → slice_get ys i ≡ Some y
      → slice_get y.cells j ≡ Some x → slice_get m (y.id % h * 200 + (y.lost + j) % 200) ≡ Some x.byte
  rows-placed rs ys i j y x none2 e f = none-some y e
  rows-placed rs ys zero j y x (more2 {a = r} {b = z} w ws) e f =
      subst (λ (z : RustRow). slice_get m (z.id % h * 200 + (z.lost + j) % 200) ≡ Some x.byte) (some_inj z y e)
      (cell-placed r z j x w (ap (λ (z : RustRow). slice_get z.cells j) (some_inj z y e) ∙ f))
  rows-placed rs ys (suc i) j y x (more2 {as' = rs'} {bs = ys'} w ws) e f = rows-placed rs' ys' i j y x ws e f

-- ── The statement ───────────────────────────────────────────────────────────

timeline-is : (lent : List ℕ) (s : State) (m : List ℕ) (xs : List RustRow) → Shows lent s m xs → Sound s xs → TimelineShown lent s m xs
unfolding calls views requests
timeline-is lent s m xs x sound =
    record {
      len = ap shown_number (all-length (RowShown h m) s.log.rows xs x.shown);
      row = λ i. ap shown_row (rows-viewed s m h s.log.rows xs i x.shown);
      row_text = λ i room l. text-answered s m (row_disassembly i) room (rust_row_text xs i) (rows_text s m h s.log.rows xs i x.shown) l;
      cell_view =
          λ i c. (
            option_map cell_view (cell_byte s m i c),
            ap (λ (b : Bool). when_some (cond b (Some 13) None) (shown_cell (option_map cell_view (cell_byte s m i c))) refused)
                (ap (λ (b : Bool). cell_there s i c && b) long ∙ never (cell_there s i c)),
            rows_both s m h s.log.rows xs i c x.shown sound.right,
          );
      place = λ i j r y e f. rows-placed s m h s.log.rows xs i j r y x.shown e f;
      byte = λ p. memory-is lent s m xs p x;
    }
  where
    h : ℕ
    h = s.machine.history

    long : ltb (length m) (h * 200) ≡ false
    long = le-ltb (length m) (h * 200) (omega (arith, x.room, x.same_length))

    never : (b : Bool) → b && false ≡ false
    never true = refl
    never false = refl

-- ── Making ──────────────────────────────────────────────────────────────────

first-fails : (a b c d : Bool) → a || b || c || d ≡ false → a ≡ false
first-fails true b c d e = e
first-fails false b c d e = refl

few_kinds : (ks : List UnitSpec) → length ks ≤ 16 → length (specs_or_generic ks) ≤ 16
unfolding config
few_kinds [] l = omega arith
few_kinds (k ∷ ks) l = omega (arith, length-of at_least_one (k ∷ ks), l)

new-sound : (d : PipelineShape) (entry lent : ℕ) → make_refusal d lent ≡ None → Sound (new d entry) []
unfolding calls engine config
new-sound d entry lent p =
    record {
      few = few_kinds d.units (ltb-false 16 (length d.units)
          (first-fails (ltb 16 (length d.units)) (ltb 64 (capacities (specs_or_generic d.units))) (ltb 16 (length d.stages))
          (ltb 256 d.history) (made-checks d lent p).0));
      known = kinds-built (length (specs_or_generic d.units)) 0 (specs_or_generic d.units) (omega arith);
      right = tt;
    }

new-shows : (d : PipelineShape) (entry : ℕ) (lent : List ℕ) → max 1 d.history * 200 ≤ length lent → Shows lent (new d entry) (memory_made d lent) []
unfolding engine config calls timeline
new-shows d entry lent room = holds-cleared lent (max 1 d.history) lent (omega arith) room refl refl

made-inj : (s t : State) → made s ≡ made t → s ≡ t
made-inj s t p = cc

abbrev is_made : Made → Bool
is_made (no_machine n) = false
is_made (made s) = true

pub timeline-shown : TimelineTheorem
unfolding make make_memory
timeline-shown d entry lent s cs e = go (make_refusal d (length lent)) refl e
  where
    from-new
        : make_refusal d (length lent) ≡ None
        → TimelineShown lent (runs (new d entry) cs) (memories (new d entry) (memory_made d lent) cs) (rust_runs (new d entry) [] cs)
    from-new p =
        timeline-is lent (runs (new d entry) cs) (memories (new d entry) (memory_made d lent) cs) (rust_runs (new d entry) [] cs)
        (shows-runs lent cs (new d entry) (memory_made d lent) [] (new-shows d entry lent (made-room d (length lent) p)))
        (sound-runs cs (new d entry) [] (new-sound d entry (length lent) p))

    go
        : (o : Option ℕ) → make_refusal d (length lent) ≡ o → when_some o (made (new d entry)) no_machine ≡ made s
        → TimelineShown lent (runs s cs) (memories s (when_some o (memory_made d lent) (λ (n : ℕ). lent)) cs) (rust_runs s [] cs)
    go None p q =
        subst (λ (t : State). TimelineShown lent (runs t cs) (memories t (memory_made d lent) cs) (rust_runs t [] cs)) (made-inj (new d entry) s q)
        (from-new p)
    go (Some n) p q = absurd (true≢false (sym (ap is_made q)))
