-- What the parts of an issue leave.
use Rattle.std.specs.Prelude.{ℕ, ◌+◌, ◌≤◌, max, ◌≡◌, ◌⊎◌, List, [], ◌∷◌, ◌++◌, set, replicate, None, Some, Result, Ok, Err}
use Rattle.laws.specs.Lists.{rest, modify, find_at}
use Rattle.model.specs.Config.{spec_index}
use Rattle.model.specs.Op.{with_hazard}
use Rattle.model.specs.Registers.{pad}
use Rattle.model.specs.Traces.{Trace as Wait}
use Rattle.model.specs.State.{State, stall_all, with_queue, with_registers, with_log}
use Rattle.model.specs.Units.{occupy}
use Rattle.model.specs.Issue.{is_free, taken, waits_on, place}
use Rattle.config.specs.declared.Machine.{Machine}
use Rattle.config.specs.View.{view_machine}
use Rattle.registers.specs.View.{view_claims, read, written}
use Rattle.registers.specs.Look.{through}
use Rattle.registers.specs.declared.Operands.{Operands}
use Rattle.flight.specs.declared.Queued.{Queued}
use Rattle.flight.specs.View.{Legend, view_queued, view_queue, entries}
use Rattle.timeline.specs.declared.WaitForm.{WaitForm}
use Rattle.timeline.specs.declared.WaitForm.TheVariants.{StillWrites, AllBusy}
use Rattle.stalls.specs.declared.Trace.{Trace}
use Rattle.stalls.specs.View.{form_kind, view_trace, listed}
use Rattle.bank.specs.View.{view_units, places}
use Rattle.board.specs.declared.Board.{Board}
use Rattle.board.specs.View.{Frame, known_names, log_frame, view_board, BoardOk}
use Rattle.board.specs.Promises.{queue_places, taken_places, Apart, Named, Vacant, Looks, unit_places}
use Rattle.board.proofs.Parts.{Alike}
use Rattle.issuing.specs.declared.Blocked.{Blocked}

-- The operation at the front of the queue.
abbrev pub Fronts : Queued → Board → Type 0
Fronts q b = entries b.queue ≡ q ∷ rest (entries b.queue)

-- The numbers of an operation's registers.
abbrev pub numbers : Operands → List ℕ
numbers x = read x ++ written x

-- ── The look ────────────────────────────────────────────────────────────────

-- More names are known, and nobody owes the new ones; all else stands.
pub record Learns (b : Board) (x : Operands) (r : Board) : Type 0 where
  pub claims : view_claims r.claims ≡ pad (view_claims b.claims) (replicate (through (numbers x)) [])
  pub known : r.claims.len ≡ max b.claims.len (through (numbers x))
  pub is : (f : Frame) → view_board f r ≡ with_registers (known_names f r) (view_claims r.claims) (view_board f b)
  pub ok : BoardOk r
  pub units : r.units ≡ b.units
  pub queue : r.queue ≡ b.queue
  pub log : r.log ≡ b.log
  pub offer : r.offer ≡ b.offer
  pub gone : r.gone ≡ b.gone

-- ── The choice ──────────────────────────────────────────────────────────────

-- Somebody in flight writes destination n.
pub record StillWritten (b : Board) (q : Queued) (f : WaitForm) (n : ℕ) : Type 0 where
  pub form : f ≡ StillWrites
  pub taken : taken (view_claims b.claims) (written q.operands) ≡ Some n

-- No unit of kind n is free.
pub record Full (b : Board) (q : Queued) (m : Machine) (f : WaitForm) (n : ℕ) : Type 0 where
  pub form : f ≡ AllBusy
  pub taken : taken (view_claims b.claims) (written q.operands) ≡ None
  pub kind : n ≡ spec_index (view_machine m).specs q.class
  pub full : (g : Legend) → find_at (is_free n) 0 (view_units g b.units) ≡ None

-- Unit i is the lowest free one of the kind.
pub record Free (b : Board) (q : Queued) (m : Machine) (i : ℕ) : Type 0 where
  pub taken : taken (view_claims b.claims) (written q.operands) ≡ None
  pub free : (g : Legend) → find_at (is_free (spec_index (view_machine m).specs q.class)) 0 (view_units g b.units) ≡ Some i

abbrev pub blocked_of : WaitForm → ℕ → Blocked
blocked_of f n = record { form = f; number = n }

pub record Chooses (b : Board) (q : Queued) (m : Machine) (r : Result ℕ Blocked) : Type 0 where
  pub blocked : (w : Blocked) → r ≡ Err w → StillWritten b q w.form w.number ⊎ Full b q m w.form w.number
  pub into : (i : ℕ) → r ≡ Ok i → Free b q m i

-- ── What comes of it ────────────────────────────────────────────────────────

abbrev pub trace_by : WaitForm → Queued → ℕ → Trace
trace_by f q n = record { form = f; mine = q.place; other = 80; number = n }

-- The front stays, with a hazard, and the wait is listed.
abbrev pub blocked_by : WaitForm → Wait → State → State
blocked_by f t s =
    with_queue (modify 0 (with_hazard (Some (form_kind f))) s.queue) (with_log (stall_all (t ∷ []) s.log) s)

pub record Blocks (b : Board) (f : WaitForm) (n : ℕ) (r : Board) : Type 0 where
  pub is : (q : Queued) → Fronts q b → (x : Frame)
      → view_board x r ≡ blocked_by f (view_trace (log_frame x b) b.log.traces.target (trace_by f q n)) (view_board x b)
  pub ok : BoardOk r
  pub few : r.log.traces.len ≤ b.log.traces.len + 1
  pub waits : (q : Queued) → Fronts q b → listed r.log.traces ≡ listed b.log.traces ++ trace_by f q n ∷ []
  pub units : r.units ≡ b.units
  pub queue : queue_places r ≡ queue_places b
  pub offer : r.offer ≡ b.offer
  pub gone : r.gone ≡ b.gone
  pub known : r.claims.len ≡ b.claims.len
  pub alike : Alike b.queue r.queue

-- The front goes into unit i.
pub record Places (b : Board) (q : Queued) (i : ℕ) (r : Board) : Type 0 where
  pub is : (x : Frame)
      → view_board x r
      ≡ place (view_queued x.legend q) (rest (view_queue x.legend b.queue)) (read q.operands) (written q.operands) i (view_board x b)
  pub ok : BoardOk r
  pub log : r.log ≡ b.log
  pub units
      : (g : Legend)
      → view_units g r.units
      ≡ modify i
      (occupy (view_queued g q) (read q.operands) (written q.operands) (waits_on (view_claims b.claims) (read q.operands)))
      (view_units g b.units)
  pub places : places r.units ≡ set (places b.units) i q.place
  pub queue : entries r.queue ≡ rest (entries b.queue)
  pub offer : r.offer ≡ b.offer
  pub gone : r.gone ≡ b.gone
  pub known : r.claims.len ≡ b.claims.len

-- In this machine, where queued operations have the numbers of their fetches, the board is f of what it was.
pub record Goes (b : Board) (m : Machine) (f : Frame → State → State) (r : Board) : Type 0 where
  pub is : (x : Frame) → x.machine ≡ view_machine m → Looks x b → view_board x r ≡ f x (view_board x b)
  pub ok : BoardOk r
  pub few : r.log.traces.len ≤ b.log.traces.len + 1
  pub apart : Apart b → Apart r
  pub named : b.offer.writing ≡ None → Vacant b → Named (unit_places b) b → Named (taken_places r) r
  pub vacant : Vacant b → Vacant r
  pub looks : (x : Frame) → Looks x b → Looks x r
