-- The engine's conditions to issue, read and write, and what these steps do to its tables, held against the book: true of every engine
-- that is made, after any list of calls.
use Rattle.std.specs.Prelude.{ℕ, ◌≤◌, ◌<◌, ◌≡◌, Bool, true, false, cond, not, ◌&&◌, List, [], ◌∷◌, map, ◌↔◌, eqb, Option, None, Some, slice_get}
use Rattle.laws.specs.Lists.{any_at, elem}
use Rattle.std.specs.List.{list_any}
use Rattle.laws.specs.Optional.{is_none}
use Rattle.capability.specs.declared.Phase.TheVariants.{Wait, Read, Write}
use Rattle.model.specs.Config.{PipelineShape, spec_index, is_memory, is_system}
use Rattle.model.specs.Op.{Op}
use Rattle.model.specs.Registers.{Operands, resolve}
use Rattle.model.specs.Units.{FunctionalUnit, unit_at}
use Rattle.model.specs.State.{State, new}
use Rattle.model.specs.Calls.{Call, make_refusal, runs}
use Rattle.model.specs.Write.{start_cycle, write_blocked}
use Rattle.model.specs.Issue.{issue, learn, place}
use Rattle.model.specs.Scoreboard.{closed, before_issue, stops, advance}
use Rattle.invariant.specs.Invariant.{Holds, In}
use Rattle.book.specs.Book.{Source, Status, Book, book, fi_at, can_issue, do_issue, all_ready, can_read, read_row, can_write, do_write, Reached, tidy}
use Rattle.book.specs.Tables.{book_of}

-- ── Issue ───────────────────────────────────────────────────────────────────

-- The numbers that a look at an operation gives.
abbrev pub looked : State → Op → Operands
looked t o = resolve t.names o.info

-- Unit i is of the operation's kind, and the book may issue the operation to it.
abbrev pub MayIssue : State → Op → ℕ → Type 0
MayIssue t o i =
    ((u : FunctionalUnit) × (slice_get t.units i ≡ Some u) × (u.spec ≡ spec_index t.machine.specs o.core.decoded.class))
    × (can_issue (book_of t) i (looked t o).written ≡ true)

-- Issue moves the operation into unit i.
abbrev pub Issues : State → Op → List Op → ℕ → Type 0
Issues t o rest i = issue t ≡ place o rest (looked t o).read (looked t o).written i (learn (looked t o).names t)

-- In t, where an advance issues.
pub record IssueByTheBook (t : State) : Type 0 where
  -- The front of the queue is issued to unit i exactly where the book may issue it there and to no lower unit of its kind, and neither mark
  -- stands. (A mark stands while a branch, or a system operation, is in flight: `branch_mark` and `system_mark` of the invariant.)
  pub issues
      : (o : Op) (rest : List Op) → t.queue ≡ o ∷ rest → (i : ℕ)
      → Issues t o rest i
      ↔ ((t.marks.branch ≡ false) × (t.marks.system ≡ false) × MayIssue t o i × ((j : ℕ) → j < i → MayIssue t o j → ⊥))
  -- So it is issued wherever the book may issue it to some unit of its kind, but for the two marks.
  pub issues_some
      : (o : Op) (rest : List Op) → t.queue ≡ o ∷ rest → t.marks.branch ≡ false → t.marks.system ≡ false → (i : ℕ)
      → MayIssue t o i → (j : ℕ) × Issues t o rest j
  -- The bookkeeping is the book's; without an issue no table changes.
  pub issue_tables
      : (o : Op) (rest : List Op) (i : ℕ) → t.queue ≡ o ∷ rest → Issues t o rest i
      → book_of (issue t) ≡ do_issue i o.core.decoded.class (looked t o).read (looked t o).written (book_of t)
  pub unissued_tables
      : ((o : Op) (rest : List Op) (i : ℕ) → t.queue ≡ o ∷ rest → Issues t o rest i → ⊥) → book_of (issue t) ≡ book_of t

-- ── Read operands ───────────────────────────────────────────────────────────

-- Every unit that the book lets read does so.
abbrev pub read_if_ready : Status → Status
read_if_ready u = cond (u.Busy && all_ready u) (read_row u) u

abbrev pub all_read : Book → Book
all_read b = book (map read_if_ready b.FU) b.Result

-- ── Write result ────────────────────────────────────────────────────────────

-- The engine's WAR rule in the book's terms: as `can_write`, but of the other units alone, and with "Q[f] ≠ 0" for "R[f] = No". A source
-- counts from when it is ready until its unit has written, also after it was read.
abbrev pub in_the_way : List ℕ → Source → Bool
in_the_way ds x = elem x.F ds && is_none x.Q

abbrev pub no_reader : Book → ℕ → Bool
no_reader b i =
    not (any_at (λ (j : ℕ) (f : Status). not (eqb j i) && list_any (in_the_way (fi_at b i)) f.sources) 0 b.FU)

-- Unit i holds the finished operation of u, and nothing blocks its write: the WAR rule, memory order, a drained machine.
pub record Writable (s : State) (i : ℕ) (u : FunctionalUnit) : Type 0 where
  pub holds : Holds s i u
  pub finished : u.phase ≡ Write
  pub unread_by : no_reader (book_of s) i ≡ true
  pub memory_order
      : is_memory u.class ≡ true → (j : ℕ) (v : FunctionalUnit) → Holds s j v → is_memory v.class ≡ true
      → u.op.core.seq ≤ v.op.core.seq
  pub drained : is_system u.class ≡ true → (j : ℕ) (v : FunctionalUnit) → Holds s j v → j ≡ i

-- ── The statement ───────────────────────────────────────────────────────────

-- A cycle of engine s: start offers a result, and the advance that follows writes it, reads, and issues.
pub record ByTheBook (s : State) : Type 0 where
  -- Register result status: Result[r] is unit i exactly where unit i is Busy and r is in its Fi.
  pub result_status : (r i : ℕ) → ((book_of s).Result r ≡ Some i) ↔ In r (fi_at (book_of s) i)
  -- Write result. A start offers the oldest of the writable units, if there is one, and changes no table.
  pub offers
      : s.front.in_cycle ≡ false → (i : ℕ)
      → ((start_cycle s).offer.writing ≡ Some i)
      ↔ ((u : FunctionalUnit) × Writable s i u
      × ((j : ℕ) (v : FunctionalUnit) → Writable s j v → u.op.core.seq ≤ v.op.core.seq))
  pub start_tables : s.front.in_cycle ≡ false → book_of (start_cycle s) ≡ book_of s
  -- What the engine lets write, the book lets write.
  pub writable_allowed : (i : ℕ) (u : FunctionalUnit) → Writable s i u → can_write (book_of s) i ≡ true
  -- The engine's WAR rule is the book's and one more: no other operation in flight that has read, so is past phase Wait, reads one of the
  -- registers.
  pub war_exactly
      : (i : ℕ) (u : FunctionalUnit) → Holds s i u → u.phase ≡ Write
      → (no_reader (book_of s) i ≡ true)
      ↔ ((can_write (book_of s) i ≡ true)
      × ((j : ℕ) (v : FunctionalUnit) (r : ℕ) → Holds s j v → (j ≡ i → ⊥) → In r v.sources → In r u.destinations → v.phase ≡ Wait))
  -- The bookkeeping is the book's, for the result on offer.
  pub write_tables : (i : ℕ) → s.offer.writing ≡ Some i → book_of (closed s) ≡ tidy (do_write i (book_of s))
  pub unwritten_tables : s.offer.writing ≡ None → book_of (closed s) ≡ book_of s
  -- Read operands: exactly where the book lets a unit in phase Wait read, by the tables after the write. The bookkeeping is the book's.
  pub reads
      : (redirect : Option ℕ) (i : ℕ) (u : FunctionalUnit) → slice_get (closed s).units i ≡ Some u → u.busy ≡ true
      → ((unit_at (before_issue redirect (closed s)).units i).phase ≡ Read)
      ↔ ((u.phase ≡ Wait) × (can_read (book_of (closed s)) i ≡ true))
  pub read_tables : (redirect : Option ℕ) → book_of (before_issue redirect (closed s)) ≡ all_read (book_of (closed s))
  -- Issue, by the tables after the reads: at most one operation, the front of the queue.
  pub issue_as_book : (redirect : Option ℕ) → IssueByTheBook (before_issue redirect (closed s))
  -- The rest of an advance changes no table; an engine that is halted or faulted only writes.
  pub advance_tables
      : (redirect : Option ℕ) → stops s ≡ false → book_of (advance redirect s) ≡ book_of (issue (before_issue redirect (closed s)))
  pub stopped_tables : (redirect : Option ℕ) → stops s ≡ true → book_of (advance redirect s) ≡ book_of (closed s)

-- Its tables are those of a run of the book's own steps, each allowed by the book, from idle units; but for what nothing looks at. (Idle
-- units: of a new engine, or after a halt, a fault, a reset or a capacity change that builds them anew.)
abbrev pub InTheBook : State → Type 0
InTheBook s = (b : Book) × Reached b × (book_of s ≡ tidy b)

-- Every engine that is made, after any calls.
abbrev pub Demand2Book : Type 0
Demand2Book =
    (d : PipelineShape) (entry lent : ℕ) (cs : List Call) → make_refusal d lent ≡ None
    → ByTheBook (runs (new d entry) cs) × InTheBook (runs (new d entry) cs)

-- ── The oldest operation is held up by nothing ──────────────────────────────

-- Unit i holds u, whose operation is the oldest in flight.
pub record Oldest (s : State) (i : ℕ) (u : FunctionalUnit) : Type 0 where
  pub holds : Holds s i u
  pub least : (j : ℕ) (v : FunctionalUnit) → Holds s j v → u.op.core.seq ≤ v.op.core.seq

-- It waits for no register, nothing blocks its write, and once it has finished a start offers it.
pub record Unheld (s : State) (i : ℕ) (u : FunctionalUnit) : Type 0 where
  pub unwaiting : u.pending ≡ []
  pub unblocked : write_blocked s.units i ≡ None
  pub offered_next : u.phase ≡ Write → (start_cycle s).offer.writing ≡ Some i

-- Of every engine between two cycles, after any calls.
abbrev pub OldestUnheld : Type 0
OldestUnheld =
    (d : PipelineShape) (entry lent : ℕ) (cs : List Call) → make_refusal d lent ≡ None → (runs (new d entry) cs).front.in_cycle ≡ false
    → (i : ℕ) (u : FunctionalUnit) → Oldest (runs (new d entry) cs) i u → Unheld (runs (new d entry) cs) i u
