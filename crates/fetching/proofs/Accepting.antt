-- A fetch: the pool is written at a free place and the names held grow, so what stood stays as it was; the new entry is the model's operation.
use Prim.Native.Nat.{ℕ, ◌+◌, ◌%◌, ◌≤◌, ◌<◌, min}
use mathlib.Core.Path.{◌≡◌, refl, sym, subst, ap, ap₂, ◌∙◌}
use mathlib.Core.Bool.{Bool, true, false, cond, ◌||◌}
use mathlib.Core.Logic.{◌⊎◌, inl, inr, ⊎_elim}
use Rattle.std.specs.Prelude.{None, Some, option_map}
use mathlib.Core.List.{List, [], ◌∷◌, ◌++◌, map}
use native.Mathlib.Omega.{arith}
use lib.Dec.{eqb, ltb}
use lib.ListN.{length, set, take, length-set}
use lib.Seq.{get_or-set_same, get_or-set_other, take-take}
use borrow.Author.Tests.{eqb-true, eqb-false}
use Rattle.laws.specs.Means.{Means}
use Rattle.laws.specs.Lists.{All, count, elem}
use Rattle.std.specs.List.{list_any}
use Rattle.laws.specs.Texts.{Text}
use Rattle.laws.specs.Numbers.{max64}
use Rattle.laws.proofs.Tests.{cond-lt, true-or-false, or-neither}
use Rattle.laws.proofs.Slices.{take-map, All-set}
use Rattle.laws.proofs.Maps.{map-append}
use Rattle.model.specs.Config.{latency}
use Rattle.model.specs.Op.{Op, op_of, core_of, info_of, sequential_address, first_word}
use Rattle.model.specs.Registers.{Operands as Resolving, operands, resolve}
use Rattle.model.specs.Timeline.{row_of, open_row}
use Rattle.model.specs.State.{front_of, log_of}
use Rattle.model.specs.Scoreboard.{stops, next_address, fetched_op, fetched}
use Rattle.op.specs.declared.PipelineOp.{PipelineOp}
use Rattle.op.specs.Chars.{view_text}
use Rattle.op.specs.View.{view_op}
use Rattle.config.specs.View.{view_machine}
use Rattle.registers.specs.declared.Operands.{Operands}
use Rattle.registers.specs.declared.RegisterTable.{RegisterTable}
use Rattle.registers.specs.View.{view_known, view_held, view_waits, read, written, view_operands}
use Rattle.registers.specs.Look.{Queued as Along}
use Rattle.registers.specs.Promises.{ResolvedTo}
use Rattle.registers.proofs.Interning.{Begins}
use Rattle.registers.proofs.NameTable.{held-length, known-length, known-held}
use Rattle.registers.proofs.Queue.{fetch-queued}
use Rattle.flight.specs.declared.Queued.{Queued}
use Rattle.flight.specs.declared.Queue.{Queue}
use Rattle.flight.specs.View.{Carried, Legend, nothing_carried, carried_at, view_carried, named, op_with, view_queued, view_queue, entries}
use Rattle.flight.specs.Pool.{decoded_of, texts_of, no_decoded, no_texts, held_at, TextsOk}
use Rattle.flight.specs.Promises.{Queues}
use Rattle.flight.proofs.Entries.{queue-length}
use Rattle.timeline.specs.declared.Tracks.{Tracks}
use Rattle.timeline.specs.View.{row_at, first_track, view_rows, TracksOk, RowTextOk, RowTextsOk, all_tracks, opened}
use Rattle.timeline.proofs.Steps.{rows-opened}
use Rattle.stalls.specs.declared.Trace.{Trace}
use Rattle.stalls.specs.View.{word_at, number_word, listed, view_traces, view_stats, view_log}
use Rattle.units.specs.declared.Unit.{Unit as Slot}
use Rattle.bank.specs.View.{view_units, slots, places, UnitKnows}
use Rattle.places.specs.Places.{Free}
use Rattle.board.specs.declared.Board.{Board}
use Rattle.board.specs.View.{known_names, log_frame, view_board}
use Rattle.board.specs.Promises.{queue_places, taken_places, Names, Looks}
use Rattle.board.proofs.Parts.{state-by}
use Rattle.board.proofs.Counting.{count-append, taken-count, names_more}
use Rattle.engine.specs.Engine.{Engine}
use Rattle.engine.specs.View.{legend_of, frame_of, view_engine}
use Rattle.engine.specs.Valid.{Parts, Valid}
use Rattle.fetching.specs.Fetching.{Queueing, row_text, Fetchable, Accepts}
use Rattle.fetching.specs.Taking.{admitted_engine}
use Rattle.engine.proofs.Fits.{good-texts}
use Rattle.engine.proofs.Legends.{UnitAgrees, EntryAgrees, units-agree, queue-agrees, WaitAgrees, waits-agree}
use Rattle.engine.proofs.Naming.{names-stay, resolve-begins, reads-named, writes-named, Below, below_all, queue-below}

-- ── A place that a list does not have ───────────────────────────────────────

neither-any : {A : Type 0} (q : A → Bool) (s t : List A) → list_any q (s ++ t) ≡ false → (list_any q s ≡ false) × (list_any q t ≡ false)
neither-any q [] t h = (refl, h)
neither-any q (x ∷ s) t h =
    let o = or-neither (q x) (list_any q (s ++ t)) h in
    let r = neither-any q s t o.1 in
    (ap₂ ◌||◌ o.0 r.0, r.1)

apart-list : {A : Type 0} (p : ℕ) (f : A → ℕ) (l : List A) → elem p (map f l) ≡ false → All (λ (x : A). f x ≡ p → ⊥) l
apart-list p f [] h = tt
apart-list p f (x ∷ l) h =
    let o = or-neither (eqb p (f x)) (elem p (map f l)) h in (λ e. eqb-false p (f x) o.0 (sym e), apart-list p f l o.1)

none-count : {A : Type 0} (q : A → Bool) (l : List A) → list_any q l ≡ false → count q l ≡ 0
unfolding count
none-count q [] h = refl
none-count q (x ∷ l) h =
    let o = or-neither (q x) (list_any q l) h in
    let c : ◌≡◌ {A = ℕ} (cond (q x) 1 0) 0 = ap (λ (t : Bool). cond t 1 0) o.0 in omega (arith, none-count q l o.1, c)

-- ── Two legends ─────────────────────────────────────────────────────────────

module _ (g h : Legend) (p n : ℕ) (other : (m : ℕ) → (m ≡ p → ⊥) → carried_at h m ≡ carried_at g m)
    (same : (rs : List ℕ) → All (λ (r : ℕ). r < n) rs → named h rs ≡ named g rs) where
  units-same : (l : List Slot) → All (UnitKnows n) l → All (λ (u : Slot). u.place ≡ p → ⊥) l → All (UnitAgrees g h) l
  units-same [] a b = tt
  units-same (u ∷ l) a b = (
    record {
      carried = other u.place b.0;
      read = same (read u.operands) a.0.sources;
      written = same (written u.operands) a.0.destinations;
    },
    units-same l a.1 b.1,
  )

  entries-same : (l : List Queued) → All (Below n) (map (λ (q : Queued). view_operands q.operands) l) → All (λ (q : Queued). q.place ≡ p → ⊥) l
      → All (EntryAgrees g h) l
  entries-same [] a b = tt
  entries-same (q ∷ l) a b = (
    record {
      carried = other q.place b.0;
      read = same (read q.operands) a.0.read;
      written = same (written q.operands) a.0.written;
    },
    entries-same l a.1 b.1,
  )

-- ── Before ──────────────────────────────────────────────────────────────────

module _ {e : Engine} (v : Valid e) where
  -- The names known are the table's.
  pub known-view : known_names (frame_of e) e.board ≡ view_known e.table
  unfolding known_names
  known-view = ap (λ n. take n (view_held e.table)) (sym v.parts.known) ∙ sym (known-held v.parts.table)

  pub along : Along (view_known e.table) (view_held e.table) (map (λ (a : Op). a.info) (view_queue (legend_of e) e.board.queue))
      (map (λ (a : Queued). view_operands a.operands) (entries e.board.queue))
  along =
      subst
      (λ ns. Along ns (view_held e.table) (map (λ (a : Op). a.info) (view_queue (legend_of e) e.board.queue))
      (map (λ (a : Queued). view_operands a.operands) (entries e.board.queue)))
      known-view v.parts.looks.queued

module _ {e : Engine} (v : Valid e) {o : PipelineOp} {lent : ℕ} (f : Fetchable e o lent) where
  pub queue-room : e.board.queue.len < 15
  unfolding view_engine view_board view_machine
  queue-room =
      omega (arith, v.invariant.invited_room f.invited, queue-length v.parts.board.queue (legend_of e), v.parts.machine.depth_most)

  pub flight-few : e.board.units.len + e.board.queue.len ≤ 78
  flight-few = omega (arith, queue-room, v.parts.board.units.few)

-- ── After ───────────────────────────────────────────────────────────────────

abbrev pub next-board : Board → ℕ → Queue → Board
next-board b pc k =
    record {
      units = b.units;
      fetch_pc = pc;
      queue = k;
      offer = b.offer;
      claims = b.claims;
      front =
          record {
            enabled = b.front.enabled;
            halted = b.front.halted;
            faulted = b.front.faulted;
            in_cycle = b.front.in_cycle;
            invited = false;
          };
      log = b.log;
      marks = b.marks;
      gone = b.gone;
      status = b.status;
    }

module _ {e : Engine} (v : Valid e) {o : PipelineOp} {lent : ℕ} (f : Fetchable e o lent) (row : RowTextOk (row_text o))
    {names : RegisterTable} {x : Operands} (z : ResolvedTo e.table (view_op o).info names (Some x))
    {p pc cycles : ℕ} {q : Queued} {k : Queue} {ts : Tracks}
    (free : Free (taken_places e.board) p)
    (next : pc ≡ sequential_address e.machine.instruction_bytes (view_op o).decoded)
    (slow : cycles ≡ latency (view_machine e.machine).times o.class)
    (entry : Queueing x o e.window.next cycles p q)
    (queue : Queues k (entries e.board.queue ++ q ∷ []) (λ g. view_queue g e.board.queue ++ view_queued g q ∷ []))
    (tracks : Means all_tracks TracksOk ts (set e.tracks.items (e.window.next % e.window.history) (first_track e.board.log.stats.cycles))) where
  abbrev r : Engine
  r =
      admitted_engine (next-board e.board pc k) (opened e.window) ts e.machine names p (decoded_of o pc) (texts_of o)
      (e.window.next % e.window.history) (row_text o) e

  abbrev g : Legend
  g = legend_of e

  abbrev h : Legend
  h = legend_of r

  abbrev b : Board
  b = e.board

  resolving : operands (read x) (written x) (view_held names) ≡ resolve (view_held e.table) (view_op o).info
  resolving = z.is x refl

  held : view_held names ≡ (resolve (view_held e.table) (view_op o).info).names
  held = ap (λ (m : Resolving). m.names) resolving

  begins : Begins (view_held e.table) (view_held names)
  begins = subst (Begins (view_held e.table)) (sym held) (resolve-begins (view_held e.table) (view_op o).info)

  same : (rs : List ℕ) → All (λ (n : ℕ). n < length (view_held e.table)) rs → named h rs ≡ named g rs
  same rs a = names-stay (view_held e.table) (view_held names) begins rs a

  other : (m : ℕ) → (m ≡ p → ⊥) → carried_at h m ≡ carried_at g m
  unfolding carried_at held_at
  other m n =
      ap₂ (λ c s. cond (ltb m 80) (view_carried c s) nothing_carried) (get_or-set_other e.decoded.items p m (decoded_of o pc) no_decoded n)
      (get_or-set_other e.texts.items p m (texts_of o) no_texts n)

  here : carried_at h p ≡ view_carried (decoded_of o pc) (texts_of o)
  unfolding carried_at held_at
  here =
      cond-lt _ _ free.there
      ∙ ap₂ view_carried (get_or-set_same e.decoded.items p (decoded_of o pc) no_decoded (omega (arith, free.there, v.parts.decoded.size)))
      (get_or-set_same e.texts.items p (texts_of o) no_texts (omega (arith, free.there, v.parts.texts.size)))

  few-known : b.claims.len ≤ length (view_held e.table)
  few-known = v.parts.looks.most

  free_of : (elem p (places b.units) ≡ false) × (elem p (queue_places b) ≡ false)
  unfolding taken_places
  free_of =
      neither-any (eqb p) (places b.units) (queue_places b) (neither-any (eqb p) (places b.units ++ queue_places b) (b.gone ∷ []) free.free).0

  -- ---- the board's parts under the new legend

  knowing : (l : List Slot) → All (UnitKnows b.claims.len) l → All (UnitKnows (length (view_held e.table))) l
  knowing [] a = tt
  knowing (u ∷ l) a = (
    record {
      sources = below_all few-known (read u.operands) a.0.sources;
      destinations = below_all few-known (written u.operands) a.0.destinations;
      pending = pairs (view_waits u.pending) a.0.pending;
    },
    knowing l a.1,
  )
    where
      pairs : (ps : List (ℕ × ℕ)) → All (λ (c : ℕ × ℕ). c.0 < b.claims.len) ps → All (λ (c : ℕ × ℕ). c.0 < length (view_held e.table)) ps
      pairs [] a = tt
      pairs (c ∷ ps) a = (let s = a.0 in omega (arith, few-known), pairs ps a.1)

  units-stay : view_units h b.units ≡ view_units g b.units
  unfolding places slots
  units-stay =
      units-agree g h b.units
      (units-same g h p (length (view_held e.table)) other same (slots b.units) (knowing (slots b.units) v.parts.board.knows)
      (apart-list p (λ (u : Slot). u.place) (slots b.units)
      (ap (elem p) (sym (take-map (λ (u : Slot). u.place) b.units.len b.units.items)) ∙ free_of.0)))

  queue-stays : view_queue h b.queue ≡ view_queue g b.queue
  unfolding queue_places
  queue-stays =
      queue-agrees g h b.queue
      (entries-same g h p (length (view_held e.table)) other same (entries b.queue)
      (subst (All (Below (length (view_held e.table)))) (sym v.parts.looks.queued.numbers)
      (queue-below (known_names (frame_of e) b) (map (λ (a : Op). a.info) (view_queue g b.queue))
      (omega (arith, ap length v.parts.looks.queued.names))))
      (apart-list p (λ (a : Queued). a.place) (entries b.queue) free_of.1))

  names-kept : known_names (frame_of r) r.board ≡ known_names (frame_of e) b
  unfolding known_names
  names-kept =
      sym (take-take b.claims.len (length (view_held e.table)) (view_held names) few-known) ∙ ap (take b.claims.len) begins

  away : (m : ℕ) → (m ≡ 80) ⊎ (elem m (taken_places b) ≡ true) → m ≡ p → ⊥
  away m (inl i) s = omega (arith, free.there)
  away m (inr i) s =
      let c : true ≡ false = sym i ∙ ap (λ n. elem n (taken_places b)) s ∙ free.free in
      let n : ◌≡◌ {A = ℕ} 0 1 = ap (λ (u : Bool). cond u 0 1) c in omega arith

  waits-same : (l : List Trace) → All (Names (taken_places b)) l → All (WaitAgrees (log_frame (frame_of e) b) (log_frame (frame_of r) r.board)) l
  unfolding word_at
  waits-same [] a = tt
  waits-same (u ∷ l) a = (
    record {
      mine = ap (λ (c : Carried). first_word c.disassembly) (other u.mine (away u.mine a.0.mine));
      other = ap (λ (c : Carried). first_word c.disassembly) (other u.other (away u.other a.0.other));
      number = ap (λ ns. number_word u.form (view_machine e.machine).specs ns u.number) names-kept;
    },
    waits-same l a.1,
  )

  running : b.front.halted || b.front.faulted ≡ false
  unfolding view_engine view_board stops
  running = v.invariant.invited_running f.invited

  waits-stay : view_traces (log_frame (frame_of r) r.board) b.log.traces ≡ view_traces (log_frame (frame_of e) b) b.log.traces
  waits-stay =
      waits-agree (log_frame (frame_of e) b) (log_frame (frame_of r) r.board) b.log.traces
      (waits-same (listed b.log.traces) (v.parts.named running))

  -- ---- the new entry, row and number

  abbrev built : ℕ → ℕ → List Text → List Text → Op
  built c n rs ws =
      op_of (core_of (view_op o).decoded e.window.next e.window.next None c n)
      (info_of (view_op o).info.disassembly (view_op o).info.fault (view_op o).info.destination rs ws (view_op o).info.payload)

  reads : named h (read x) ≡ (view_op o).info.sources
  reads =
      ap₂ (λ ns rs. named (record { carried = h.carried; names = ns }) rs) held (ap (λ (m : Resolving). m.read) resolving)
      ∙ reads-named (view_held e.table) (view_op o).info

  writes : named h (written x) ≡ (view_op o).info.writes
  writes =
      ap₂ (λ ns rs. named (record { carried = h.carried; names = ns }) rs) held (ap (λ (m : Resolving). m.written) resolving)
      ∙ writes-named (view_held e.table) (view_op o).info

  new-op : view_queued h q ≡ fetched_op (view_op o) (view_engine e)
  unfolding view_queued op_with view_op fetched_op next_address view_engine view_board view_machine
  new-op =
      ap (view_queued h) entry.is
      ∙ ap (λ c. op_with c h e.window.next o.class o.branch x None cycles) here
      ∙ ap₂ (built cycles pc) reads writes ∙ ap₂ (λ c n. built c n (view_op o).info.sources (view_op o).info.writes) slow next

  queue-is : view_queue h k ≡ view_queue g b.queue ++ fetched_op (view_op o) (view_engine e) ∷ []
  queue-is = queue.is h ∙ ap₂ (λ l a. l ++ a ∷ []) queue-stays new-op

  rows_ok : RowTextsOk r.rows
  rows_ok =
      record {
        size = length-set e.rows.items (e.window.next % e.window.history) (row_text o) ∙ v.parts.rows.size;
        each =
            All-set RowTextOk e.rows.items (e.window.next % e.window.history) (row_text o) v.parts.rows.each
            row;
      }

  rows_are : view_rows (opened e.window) ts r.rows
      ≡ open_row e.machine.history
      (row_of e.window.next o.address (view_text o.disassembly) o.class e.board.log.stats.cycles o.atomic 0 1)
      (view_rows e.window e.tracks e.rows)
  rows_are =
      rows-opened v.parts.window e.tracks v.parts.tracks e.rows v.parts.rows e.board.log.stats.cycles (row_text o) tracks
      (record { is = refl; ok = rows_ok })
      ∙ ap (λ n. open_row n (row_at e.window.next (first_track e.board.log.stats.cycles) (row_text o)) (view_rows e.window e.tracks e.rows))
      v.parts.history

  number : e.window.next + 1 ≡ min (e.window.next + 1) max64
  number = omega (arith, f.next)

  engine-is : view_engine r ≡ fetched (view_op o) (view_engine e)
  unfolding view_engine view_board fetched next_address view_log view_stats view_machine view_op
  engine-is =
      state-by units-stay queue-is names-kept refl refl refl
      (ap₂ (λ a n. front_of b.front.enabled b.front.halted b.front.faulted b.front.in_cycle false a n n) next number)
      (ap₂ (λ a l. log_of (view_stats b.log.stats) a l (option_map view_text b.status)) waits-stay rows_are)

  -- ---- the parts

  places-are : queue_places r.board ≡ queue_places b ++ p ∷ []
  unfolding queue_places
  places-are =
      ap (map (λ (a : Queued). a.place)) queue.entries ∙ map-append (λ (a : Queued). a.place) (entries b.queue) (q ∷ [])
      ∙ ap (λ (a : Queued). queue_places b ++ a.place ∷ []) entry.is

  counted : (n : ℕ) → count (eqb n) (taken_places r.board) ≡ count (eqb n) (taken_places b) + cond (eqb n p) 1 0
  unfolding count
  counted n =
      omega (
        arith,
        taken-count n b,
        taken-count n r.board,
        ap (count (eqb n)) places-are,
        count-append (eqb n) (queue_places b) (p ∷ []),
      )

  apart-still : (n : ℕ) → n < 80 → count (eqb n) (taken_places r.board) ≤ 1
  apart-still n m = ⊎_elim yes no (true-or-false (eqb n p))
    where
      yes : eqb n p ≡ true → count (eqb n) (taken_places r.board) ≤ 1
      yes i =
          let c : ◌≡◌ {A = ℕ} (cond (eqb n p) 1 0) 1 = ap (λ (u : Bool). cond u 1 0) i in
          let s : count (eqb n) (taken_places b) ≡ 0 = ap (λ j. count (eqb j) (taken_places b)) (eqb-true n p i) ∙ none-count (eqb p) (taken_places b) free.free in
          omega (arith, counted n, c, s)

      no : eqb n p ≡ false → count (eqb n) (taken_places r.board) ≤ 1
      no i = let c : ◌≡◌ {A = ℕ} (cond (eqb n p) 1 0) 0 = ap (λ (u : Bool). cond u 1 0) i in omega (arith, counted n, c, v.parts.apart n m)

  infos : map (λ (a : Op). a.info) (view_queue h k) ≡ map (λ (a : Op). a.info) (view_queue g b.queue) ++ (view_op o).info ∷ []
  unfolding fetched_op
  infos =
      ap (map (λ (a : Op). a.info)) queue-is ∙ map-append (λ (a : Op). a.info) (view_queue g b.queue) (fetched_op (view_op o) (view_engine e) ∷ [])

  numbers : map (λ (a : Queued). view_operands a.operands) (entries k)
      ≡ map (λ (a : Queued). view_operands a.operands) (entries b.queue) ++ view_operands x ∷ []
  numbers =
      ap (map (λ (a : Queued). view_operands a.operands)) queue.entries
      ∙ map-append (λ (a : Queued). view_operands a.operands) (entries b.queue) (q ∷ [])
      ∙ ap (λ (a : Queued). map (λ (c : Queued). view_operands c.operands) (entries b.queue) ++ view_operands a.operands ∷ []) entry.is

  known-count : names.known ≡ b.claims.len
  known-count = sym (known-length z.ok) ∙ ap length z.known ∙ known-length v.parts.table ∙ v.parts.known

  looks-still : Looks (frame_of r) r.board
  looks-still =
      record {
        most = omega (arith, known-count, z.ok.known, held-length z.ok);
        queued =
            subst (λ ns. Along ns (view_held names) (map (λ (a : Op). a.info) (view_queue h k)) (map (λ (a : Queued). view_operands a.operands) (entries k))) (z.known ∙ sym (known-view v) ∙ sym names-kept)
            (subst (λ is. Along (view_known names) (view_held names) is (map (λ (a : Queued). view_operands a.operands) (entries k))) (sym infos)
            (subst (λ js. Along (view_known names) (view_held names) (map (λ (a : Op). a.info) (view_queue g b.queue) ++ (view_op o).info ∷ []) js) (sym numbers) (fetch-queued (along v) z x refl)));
      }

  parts_are : Parts r
  parts_are =
      record {
        board =
            record {
              units = v.parts.board.units;
              queue = queue.ok;
              claims = v.parts.board.claims;
              log = v.parts.board.log;
              offer = v.parts.board.offer;
              status = v.parts.board.status;
              gone = v.parts.board.gone;
              knows = v.parts.board.knows;
              known = v.parts.board.known;
            };
        window =
            let k = v.parts.window in record { few = omega arith; past = omega (arith, k.past); least = k.least; most = k.most };
        tracks = tracks.ok;
        rows = rows_ok;
        machine = v.parts.machine;
        table = z.ok;
        decoded = record { size = length-set e.decoded.items p (decoded_of o pc) ∙ v.parts.decoded.size };
        texts =
            record {
              size = length-set e.texts.items p (texts_of o) ∙ v.parts.texts.size;
              each = All-set TextsOk e.texts.items p (texts_of o) v.parts.texts.each (good-texts o f.good);
            };
        history = v.parts.history;
        known = known-count;
        looks = looks-still;
        apart = apart-still;
        vacant = v.parts.vacant;
        begun = λ i j. absurd (let n : ◌≡◌ {A = ℕ} 0 1 = ap (λ (u : Bool). cond u 0 1) (sym i ∙ f.outside) in let n' : ⊥ = omega arith in n');
        named = λ i.
            names_more (taken_places b) (taken_places r.board) (λ n m. omega (arith, counted n)) (listed b.log.traces) (v.parts.named i);
      }

  pub accepting : Accepts e o r
  accepting = record { is = engine-is; parts = parts_are }
