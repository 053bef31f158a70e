-- What the steps of a cycle say of the board that they leave.
use Rattle.std.specs.Prelude.{ℕ, ◌+◌, ◌≤◌, ◌<◌, ◌≡◌, true, false, ◌⊎◌, List, [], ◌∷◌, ◌++◌, map, eqb, length, get_or, replicate, Option, None, Some}
use Rattle.laws.specs.Lists.{All, count, elem}
use Rattle.model.specs.Op.{Op}
use Rattle.model.specs.Timeline.{Row}
use Rattle.model.specs.Units.{unit_at}
use Rattle.model.specs.State.{no_stats, marks, offer_of, front_of, log_of, State, state}
use Rattle.model.specs.Write.{open_cycle}
use Rattle.model.specs.Issue.{complete_at, redirected, tick_execute, start_ready, read_operands}
use Rattle.model.specs.Scoreboard.{closed, clear_status, invite}
use Rattle.registers.specs.Look.{Queued as Along}
use Rattle.flight.specs.declared.Queued.{Queued}
use Rattle.flight.specs.View.{Legend, view_queue, entries}
use Rattle.registers.specs.View.{view_operands}
use Rattle.stalls.specs.declared.Trace.{Trace}
use Rattle.stalls.specs.View.{listed}
use Rattle.stalls.specs.Promises.{NoRedirect}
use Rattle.bank.specs.declared.Units.{Units}
use Rattle.bank.specs.View.{view_units, places}
use Rattle.board.specs.declared.Offer.{Offer}
use Rattle.board.specs.declared.Front.{Front}
use Rattle.board.specs.declared.Board.{Board}
use Rattle.board.specs.View.{Frame, known_names, view_board, BoardOk}

-- Nothing is on, and no cycle open.
abbrev pub no_front : Front
no_front = record { enabled = false; halted = false; faulted = false; in_cycle = false; invited = false }

-- Nothing is on offer.
abbrev pub no_offer : Offer
no_offer = record { writing = None; retired = false }

-- Places of queued operations.
unfoldable pub queue_places : Board → List ℕ
queue_places b = map (λ (x : Queued). x.place) (entries b.queue)

-- The places that are taken: those of units, of queued operations, and of the operation that left in this cycle.
unfoldable pub taken_places : Board → List ℕ
taken_places b = (places b.units ++ queue_places b) ++ b.gone ∷ []

-- ── What holds of the places ────────────────────────────────────────────────

-- No place of the pool is taken twice.
abbrev pub Apart : Board → Type 0
Apart b = (p : ℕ) → p < 80 → count (eqb p) (taken_places b) ≤ 1

-- A wait names places that the list has, or none.
pub record Names (ps : List ℕ) (t : Trace) : Type 0 where
  pub mine : (t.mine ≡ 80) ⊎ (elem t.mine ps ≡ true)
  pub other : (t.other ≡ 80) ⊎ (elem t.other ps ≡ true)

abbrev pub Named : List ℕ → Board → Type 0
Named ps b = All (Names ps) (listed b.log.traces)

-- A unit that is free has no place of the pool, unless its result is on offer.
abbrev pub Vacant : Board → Type 0
Vacant b =
    (g : Legend) (i : ℕ) → (unit_at (view_units g b.units) i).busy ≡ false → (b.offer.writing ≡ Some i) ⊎ (get_or (places b.units) i 80 ≡ 80)

-- While a cycle is open: few waits, no redirect among them, all of units; and nothing has left yet.
pub record Open (b : Board) : Type 0 where
  pub few : b.log.traces.len ≤ 64
  pub none : All NoRedirect (listed b.log.traces)
  pub named : Named (places b.units) b
  pub gone : b.gone ≡ 80

-- ── What holds of the names ─────────────────────────────────────────────────

-- The names known are the first of those held; queued operations have the numbers that interning at their fetches gave.
pub record Looks (x : Frame) (b : Board) : Type 0 where
  pub most : b.claims.len ≤ length x.legend.names
  pub queued
      : Along (known_names x b) x.legend.names (map (λ (o : Op). o.info) (view_queue x.legend b.queue))
      (map (λ (q : Queued). view_operands q.operands) (entries b.queue))

-- ── What the steps say ──────────────────────────────────────────────────────

-- Nothing has moved: places, waits and the queue's operations are as they were.
pub record Still (b r : Board) : Type 0 where
  pub places : places r.units ≡ places b.units
  pub queue : queue_places r ≡ queue_places b
  pub gone : r.gone ≡ b.gone
  pub waits : listed r.log.traces ≡ listed b.log.traces
  pub vacant : Vacant b → Vacant r
  pub looks : (x : Frame) → Looks x b → Looks x r
  pub known : r.claims.len ≡ b.claims.len

-- To the model the board is f of what it was, whatever the frame, and nothing has moved.
pub record Stays (b r : Board) (f : State → State) : Type 0 where
  pub is : (x : Frame) → view_board x r ≡ f (view_board x b)
  pub ok : BoardOk r
  pub still : Still b r

-- A cycle opens.
pub record Starts (b r : Board) (f : State → State) : Type 0 where
  pub is : (x : Frame) → view_board x r ≡ f (view_board x b)
  pub ok : BoardOk r
  pub places : places r.units ≡ places b.units
  pub queue : queue_places r ≡ queue_places b
  pub begun : Open r
  pub vacant : b.offer.writing ≡ None → Vacant b → Vacant r
  pub looks : (x : Frame) → Looks x b → Looks x r
  pub known : r.claims.len ≡ b.claims.len

-- Everything in flight is dropped.
pub record Drops (b r : Board) (f : State → State) : Type 0 where
  pub is : (x : Frame) → view_board x r ≡ f (view_board x b)
  pub ok : BoardOk r
  pub places : places r.units ≡ replicate b.units.len 80
  pub queue : queue_places r ≡ []
  pub gone : r.gone ≡ b.gone
  pub waits : listed r.log.traces ≡ listed b.log.traces
  pub vacant : Vacant r
  pub known : r.claims.len ≡ b.claims.len

-- An idle board of these units.
pub record Fresh (us : Units) (entry : ℕ) (r : Board) : Type 0 where
  pub is
      : (x : Frame)
      → view_board x r
      ≡ state x.machine (view_units x.legend us) [] [] [] (marks false false) (offer_of None false)
      (front_of false false false false false entry x.next x.next) (log_of no_stats [] x.rows None)
  pub ok : BoardOk r
  pub units : r.units ≡ us
  pub queue : entries r.queue ≡ []
  pub gone : r.gone ≡ 80
  pub waits : listed r.log.traces ≡ []
  pub vacant : Vacant r
  pub known : r.claims.len ≡ 0

-- The cycle is open, and nothing is listed yet.
pub record Opens (b r : Board) : Type 0 where
  pub is : (x : Frame) → view_board x r ≡ open_cycle (view_board x b)
  pub ok : BoardOk r
  pub places : places r.units ≡ places b.units
  pub queue : queue_places r ≡ queue_places b
  pub gone : r.gone ≡ 80
  pub waits : listed r.log.traces ≡ []
  pub vacant : Vacant b → Vacant r
  pub offer : r.offer ≡ b.offer
  pub looks : (x : Frame) → Looks x b → Looks x r
  pub known : r.claims.len ≡ b.claims.len

-- The places of units, and of the operation that left.
abbrev pub unit_places : Board → List ℕ
unit_places b = places b.units ++ b.gone ∷ []

-- A step of an advance: at most n waits more. Places stay apart, and waits name those of units and of the operation that left.
pub record Advances (n : ℕ) (b r : Board) : Type 0 where
  pub ok : BoardOk r
  pub few : r.log.traces.len ≤ b.log.traces.len + n
  pub apart : Apart b → Apart r
  pub named : Named (unit_places b) b → Named (unit_places r) r

-- The operation of unit i leaves.
pub record Completes (b : Board) (i : ℕ) (r : Board) : Type 0 where
  pub is : (x : Frame) → view_board x r ≡ complete_at i (view_board x b)
  pub ok : BoardOk r
  pub waits : listed r.log.traces ≡ listed b.log.traces
  pub apart : Apart b → Apart r
  pub named : Named (places b.units) b → Named (unit_places r) r
  pub vacant : b.offer.writing ≡ Some i → Vacant b → Vacant r
  pub offer : r.offer.writing ≡ None
  pub looks : (x : Frame) → Looks x b → Looks x r
  pub known : r.claims.len ≡ b.claims.len

-- complete_write, and the cycle closes.
pub record Closes (b r : Board) : Type 0 where
  pub is : (x : Frame) → view_board x r ≡ closed (view_board x b)
  pub ok : BoardOk r
  pub waits : listed r.log.traces ≡ listed b.log.traces
  pub apart : Apart b → Apart r
  pub named : Open b → Named (unit_places r) r
  pub vacant : Vacant b → Vacant r
  pub offer : r.offer.writing ≡ None
  pub looks : (x : Frame) → Looks x b → Looks x r
  pub known : r.claims.len ≡ b.claims.len

abbrev pub with_frame_rows : List Row → Frame → Frame
with_frame_rows rs x = record { legend = x.legend; machine = x.machine; rows = rs; next = x.next }

-- A redirect, if there is one: the model also pushes cells to the rows. Where there is one, the queue is empty after it.
pub record Redirects (b r : Board) (target : Option ℕ) : Type 0 where
  pub is
      : (x : Frame)
      → view_board (with_frame_rows (redirected target (clear_status (view_board x b))).log.rows x) r
      ≡ redirected target (clear_status (view_board x b))
  pub step : Advances 1 b r
  pub units : r.units ≡ b.units
  pub vacant : Vacant b → Vacant r
  pub offer : r.offer ≡ b.offer
  pub stays : target ≡ None → (x : Frame) → Looks x b → Looks x r
  pub dropped : (t : ℕ) → target ≡ Some t → entries r.queue ≡ []
  pub known : r.claims.len ≡ b.claims.len

-- Execute and read operands.
pub record Works (b r : Board) : Type 0 where
  pub is : (x : Frame) → view_board x r ≡ read_operands (start_ready (tick_execute (view_board x b)))
  pub step : Advances 64 b r
  pub vacant : Vacant b → Vacant r
  pub offer : r.offer ≡ b.offer
  pub looks : (x : Frame) → Looks x b → Looks x r
  pub known : r.claims.len ≡ b.claims.len

-- Whether a fetch is invited, in a machine whose queue is so deep.
pub record Invites (b : Board) (depth : ℕ) (r : Board) : Type 0 where
  pub is : (x : Frame) → x.machine.depth ≡ depth → view_board x r ≡ invite (view_board x b)
  pub ok : BoardOk r
  pub units : r.units ≡ b.units
  pub still : Still b r

-- All of these unfold where a line says `unfolding placing`.
unfoldable pub placing : Unit {0}
unfolding queue_places taken_places
placing = tt
