-- The cells of a cycle pushed one by one: what is left to push gives what all of them give.
use Rattle.std.proofs.Common.{ℕ, ◌+◌, ◌≤◌, ◌<◌, ◌≡◌, refl, sym, ap, ap₂, ◌∙◌, true, false, List, [], ◌∷◌, ◌++◌, map, length, get_or, drop, arith}
use Rattle.laws.specs.Lists.{keep}
use Rattle.laws.proofs.Slices.{Seen, seen-get_or, slice-end}
use Rattle.laws.proofs.Kept.{keep-hit, keep-miss}
use Rattle.model.specs.Op.{Op}
use Rattle.model.specs.Units.{is_busy}
use Rattle.model.specs.Timeline.{Write, push_all, push, push_writes, push_all_writes, splice, write_all}
use Rattle.model.specs.Issue.{unit_cell}
use Rattle.timeline.specs.declared.Tracks.{Tracks}
use Rattle.timeline.specs.declared.RowTexts.{RowTexts}
use Rattle.timeline.specs.declared.Window.{Window}
use Rattle.timeline.specs.View.{view_rows, TracksOk, Pushed}
use Rattle.flight.specs.declared.Queued.{Queued}
use Rattle.flight.specs.declared.Queue.{Queue}
use Rattle.flight.specs.View.{Legend, view_queued, view_queue, entries, QueueOk}
use Rattle.flight.proofs.Entries.{entries-length, entries_next, queue-next}
use Rattle.units.specs.declared.Unit.{Unit as Slot}
use Rattle.units.specs.View.{view_unit}
use Rattle.bank.specs.declared.Units.{Units}
use Rattle.bank.specs.View.{view_units, slots, UnitsOk}
use Rattle.bank.proofs.Steps.{slot-next, slots-end}
use Rattle.recording.specs.Recorded.{Recorded, Written}

-- ── All cells ───────────────────────────────────────────────────────────────

write_all-append : (vs ws : List Write) (m : List ℕ) → write_all (vs ++ ws) m ≡ write_all ws (write_all vs m)
unfolding write_all
write_all-append [] ws m = refl
write_all-append (v ∷ vs) ws m = write_all-append vs ws (splice v.0 v.1 m)

-- The loop that pushes cells, from tracks ts₀ and memory m₀ to ts and m: `left g i` are those left at place i.
pub record Pushing (left : Legend → ℕ → List (ℕ × ℕ)) (w : Window) (ts₀ : Tracks) (m₀ : List ℕ) (ts : Tracks) (m : List ℕ) (i : ℕ) : Type 0 where
  pub ok : TracksOk ts
  pub size : length m ≡ length m₀
  pub rows : (g : Legend) (xs : RowTexts) → push_all (left g i) (view_rows w ts xs) ≡ push_all (left g 0) (view_rows w ts₀ xs)
  pub memory : (g : Legend) (xs : RowTexts)
      → write_all (push_all_writes w.history (left g i) (view_rows w ts xs)) m
      ≡ write_all (push_all_writes w.history (left g 0) (view_rows w ts₀ xs)) m₀

module _ {left : Legend → ℕ → List (ℕ × ℕ)} {w : Window} {ts₀ ts : Tracks} {m₀ m : List ℕ} {i : ℕ} (e : Pushing left w ts₀ m₀ ts m i) where
  -- A byte pushed to the row of id: what `Tracks::push` says.
  pub pushing-next : {id byte : ℕ} {ts' : Tracks} {m' : List ℕ}
      → Pushed w id ts ts'
      → ((xs : RowTexts) → m' ≡ write_all (push_writes w.history id byte (view_rows w ts xs)) m)
      → length m' ≡ length m
      → ((g : Legend) → left g i ≡ (id, byte) ∷ left g (i + 1))
      → Pushing left w ts₀ m₀ ts' m' (i + 1)
  unfolding push_all push_all_writes
  pushing-next {id} {byte} t s k h =
      record {
        ok = t.ok;
        size = k ∙ e.size;
        rows = λ g xs.
            ap (push_all (left g (i + 1))) (t.is xs)
            ∙ ap (λ cs. push_all cs (view_rows w ts xs)) (sym (h g))
            ∙ e.rows g xs;
        memory = λ g xs.
            let rows = view_rows w ts xs in
            ap₂ (λ r l. write_all (push_all_writes w.history (left g (i + 1)) r) l) (t.is xs) (s xs)
            ∙ sym (write_all-append (push_writes w.history id byte rows) (push_all_writes w.history (left g (i + 1)) (push id rows)) m)
            ∙ ap (λ cs. write_all (push_all_writes w.history cs rows) m) (sym (h g))
            ∙ e.memory g xs;
      }

  -- Nothing comes of what stands here.
  pub pushing-skip : ((g : Legend) → left g i ≡ left g (i + 1)) → Pushing left w ts₀ m₀ ts m (i + 1)
  pushing-skip h =
      record {
        ok = e.ok;
        size = e.size;
        rows = λ g xs. ap (λ cs. push_all cs (view_rows w ts xs)) (sym (h g)) ∙ e.rows g xs;
        memory = λ g xs. ap (λ cs. write_all (push_all_writes w.history cs (view_rows w ts xs)) m) (sym (h g)) ∙ e.memory g xs;
      }

  module _ (d : (g : Legend) → left g i ≡ []) where
    pub pushing-tracks : (g : Legend) → Recorded w (left g 0) ts₀ ts
    unfolding push_all
    pushing-tracks g = record { is = λ xs. ap (λ cs. push_all cs (view_rows w ts xs)) (sym (d g)) ∙ e.rows g xs; ok = e.ok }

    pub pushing-memory : (g : Legend) → Written w (left g 0) ts₀ m₀ m
    unfolding push_all_writes write_all
    pushing-memory g xs = ap (λ cs. write_all (push_all_writes w.history cs (view_rows w ts xs)) m) (sym (d g)) ∙ e.memory g xs

-- ── What is left of a queue, and of the units ───────────────────────────────

abbrev pub queue-left : (Op → ℕ × ℕ) → Queue → Legend → ℕ → List (ℕ × ℕ)
queue-left cell q g i = map cell (drop i (view_queue g q))

pub queue-more : (cell : Op → ℕ × ℕ) (q : Queue) (g : Legend) {n i : ℕ} {x : Op} {p : ℕ × ℕ} → Seen (view_queue g q) n i x → cell x ≡ p
    → queue-left cell q g i ≡ p ∷ queue-left cell q g (i + 1)
queue-more cell q g {i = i} a e = ap (map cell) a.is ∙ ap (λ c. c ∷ queue-left cell q g (i + 1)) e

-- The queue's entries as a slice.
module _ {q : Queue} (ok : QueueOk q) {s : List Queued} (e : s ≡ entries q) {i : ℕ} where
  pub queue_seen : (d : Queued) → i < length s → (g : Legend) → Seen (view_queue g q) q.len i (view_queued g (get_or s i d))
  queue_seen d h g =
      let within : i < q.len = omega (arith, h, ap length e, entries-length ok) in
      rw (ap (λ l. get_or l i d) e ∙ seen-get_or (entries_next ok d within) d) (queue-next ok g d within)

  pub queue-done : (cell : Op → ℕ × ℕ) → length s ≤ i → (g : Legend) → queue-left cell q g i ≡ []
  unfolding view_queue
  queue-done cell h g = ap (map cell) (slice-end (map (view_queued g) q.items) (omega (arith, h, ap length e, entries-length ok)))

abbrev pub units-left : Units → Legend → ℕ → List (ℕ × ℕ)
units-left us g i = map unit_cell (keep is_busy (drop i (view_units g us)))

-- The units as a slice.
module _ {us : Units} (ok : UnitsOk us) {s : List Slot} (e : s ≡ slots us) where
  module _ (d : Slot) {i : ℕ} (h : i < length s) where
    pub units-more : {p : ℕ × ℕ} → (get_or s i d).busy ≡ true → ((g : Legend) → unit_cell (view_unit g (get_or s i d)) ≡ p)
        → (g : Legend) → units-left us g i ≡ p ∷ units-left us g (i + 1)
    unfolding is_busy view_unit
    units-more b c g =
        ap (λ l. map unit_cell (keep is_busy l)) (slot-next ok e d h g).is ∙ ap (map unit_cell) (keep-hit is_busy b (drop (i + 1) (view_units g us)))
        ∙ ap (λ x. x ∷ units-left us g (i + 1)) (c g)

    pub units-less : (get_or s i d).busy ≡ false → (g : Legend) → units-left us g i ≡ units-left us g (i + 1)
    unfolding is_busy view_unit
    units-less b g =
        ap (λ l. map unit_cell (keep is_busy l)) (slot-next ok e d h g).is ∙ ap (map unit_cell) (keep-miss is_busy b (drop (i + 1) (view_units g us)))

  pub units-done : {i : ℕ} → length s ≤ i → (g : Legend) → units-left us g i ≡ []
  unfolding keep
  units-done h g = ap (λ l. map unit_cell (keep is_busy l)) (slots-end ok e g h)
