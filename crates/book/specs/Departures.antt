-- Where the engine departs from the book: for each departure a smallest state or run that shows it, as a test that gives true. All but the
-- first are runs, so of engines that are reached by calls. docs/DIFFERENCES.md has the list, with the places in the Rust.
use Rattle.std.specs.Prelude.{ℕ, zero, suc, Bool, true, false, not, ◌&&◌, List, [], ◌∷◌, ◌++◌, eqb, length, Option, None, Some, is_some}
use Rattle.laws.specs.Optional.{value_or, is_none}
use Rattle.std.specs.List.{list_all}
use Rattle.laws.specs.Texts.{Text, bytes}
use Rattle.capability.specs.declared.Phase.{Phase}
use Rattle.capability.specs.declared.Phase.TheVariants.{Read, Execute, Write}
use Rattle.capability.specs.declared.PipelineInstructionClass.{PipelineInstructionClass}
use Rattle.capability.specs.declared.PipelineInstructionClass.TheVariants.{Alu, Multiply, Load, Store, Branch, System}
use Rattle.capability.specs.declared.PipelineStageRole.TheVariants as role
use Rattle.model.specs.Config.{Timing, timing, UnitSpec, unit_spec, handles, PipelineShape, pipeline_shape}
use Rattle.model.specs.Op.{decoded, info_of, given, no_op}
use Rattle.model.specs.Units.{unit_of, in_phase, unit_at}
use Rattle.model.specs.State.{State, new, with_units, with_registers}
use Rattle.model.specs.Write.{start_cycle, write_blocked}
use Rattle.model.specs.Issue.{issue}
use Rattle.model.specs.Scoreboard.{closed, before_issue, advance as do_advance}
use Rattle.model.specs.Calls.{Call, start, retire, advance, fetch, overlap, runs}
use Rattle.book.specs.Book.{fi_at, can_issue, can_read, can_write}
use Rattle.book.specs.Tables.{row_of, book_of}
use Rattle.book.specs.Conditions.{no_reader}

-- ── Machines and runs ───────────────────────────────────────────────────────

abbrev pub machine_with : Timing → List UnitSpec → PipelineShape
machine_with t ks = pipeline_shape (role.Fetch ∷ role.Decode ∷ role.Execute ∷ []) None t ks 1

-- n units of one kind that takes every class. A multiply takes 3 cycles, all else 1.
abbrev pub units_of : ℕ → PipelineShape
units_of n = machine_with (timing 0 2 0 0 0 0 0) (unit_spec (bytes "EX") [] Alu n ∷ [])

-- A cycle: what is offered is retired. (Without an offer `retire` is refused, and changes nothing.)
abbrev pub cycle : List Call
cycle = start ∷ retire ∷ advance None 200 ∷ []

abbrev pub cycles : ℕ → List Call
cycles zero = []
cycles (suc n) = cycle ++ cycles n

-- A cycle, and the fetch of an operation that it invites.
abbrev pub fetching : PipelineInstructionClass → Bool → List Text → List Text → List Call
fetching c branch r w = cycle ++ (fetch (given (decoded 0 4 c branch false) (info_of [] None None r w 0)) 200 ∷ [])

abbrev pub op : PipelineInstructionClass → List Text → List Text → List Call
op c r w = fetching c false r w

abbrev pub played : PipelineShape → List Call → State
played d cs = runs (new d 0) (overlap true ∷ cs)

abbrev pub x1 : List Text
x1 = bytes "x1" ∷ []

-- Unit i is busy, in phase p; it holds operation n.
abbrev pub phase_at : State → ℕ → Phase → Bool
phase_at s i p = in_phase p (unit_at s.units i)

abbrev pub number_at : State → ℕ → ℕ → Bool
number_at s i n = (unit_at s.units i).busy && eqb (unit_at s.units i).op.core.seq n

abbrev pub next_offer : State → Option ℕ
next_offer s = (start_cycle s).offer.writing

abbrev pub offers_unit : State → ℕ → Bool
offers_unit s i = eqb (value_or 99 (next_offer s)) i

-- The engine where the next advance issues.
abbrev pub at_issue : State → State
at_issue s = before_issue None (closed s)

-- ── WAR: a reader counts until it has written ───────────────────────────────

-- Unit 0, in phase p, reads register 0; unit 1 has finished and is to write it.
abbrev pub reader_and_writer : Phase → State
reader_and_writer p =
    with_units (unit_of 0 0 Alu false true no_op p (0 ∷ []) [] [] ∷ unit_of 0 1 Alu false true no_op Write [] (0 ∷ []) [] ∷ [])
    (with_registers x1 (Some 1 ∷ []) (new (units_of 2) 0))

abbrev pub only_the_book : Phase → Bool
only_the_book p =
    can_write (book_of (reader_and_writer p)) 1 && not (no_reader (book_of (reader_and_writer p)) 1)
    && is_some (write_blocked (reader_and_writer p).units 1)

-- In each phase after the read. (Smallest: by `war_exactly` it always takes another unit, a source and a destination.)
unfoldable pub war_outlasts_the_read : Bool
war_outlasts_the_read = list_all only_the_book (Read ∷ Execute ∷ Write ∷ [])

-- In a run: a multiply that reads x1, an alu that writes it; before the seventh start the multiply executes, the alu has finished.
abbrev pub war_run : State
war_run = played (units_of 2) (op Multiply x1 [] ++ (op Alu [] x1 ++ cycles 4))

unfoldable pub war_outlasts_in_a_run : Bool
war_outlasts_in_a_run =
    phase_at war_run 0 Execute && phase_at war_run 1 Write && can_write (book_of war_run) 1 && is_none (next_offer war_run)

-- ── Operands are read when the result is written ────────────────────────────

abbrev pub one_op : ℕ → State
one_op n = played (units_of 1) (op Alu x1 [] ++ cycles n)

-- The unit goes through phase Read in cycle 3; the operation is handed out, to be executed in one piece, in cycle 6.
unfoldable pub handed_out_at_write : Bool
handed_out_at_write =
    phase_at (one_op 2) 0 Read && is_none (next_offer (one_op 2)) && is_none (next_offer (one_op 3)) && offers_unit (one_op 4) 0

-- ── One result a cycle, the oldest first ────────────────────────────────────

-- Operation 1, a multiply of four cycles, in unit 1, and operation 2 in unit 0 finish in one cycle.
abbrev pub both_finished : State
both_finished =
    played (machine_with (timing 0 3 0 0 0 0 0) (unit_spec (bytes "EX") [] Alu 2 ∷ []))
    (op Alu [] [] ++ (op Multiply [] [] ++ (op Alu [] [] ++ cycles 6)))

unfoldable pub one_result_oldest_first : Bool
one_result_oldest_first =
    can_write (book_of both_finished) 0 && can_write (book_of both_finished) 1 && number_at both_finished 0 2
    && number_at both_finished 1 1 && offers_unit both_finished 1 && phase_at (runs both_finished cycle) 0 Write

-- ── Memory order ────────────────────────────────────────────────────────────

-- A load of three cycles, then a store.
abbrev pub load_then_store : State
load_then_store =
    played (machine_with (timing 0 0 0 2 0 0 0) (unit_spec (bytes "EX") [] Alu 2 ∷ [])) (op Load [] [] ++ (op Store [] [] ++ cycles 4))

unfoldable pub memory_in_order : Bool
memory_in_order =
    phase_at load_then_store 0 Execute && phase_at load_then_store 1 Write && can_write (book_of load_then_store) 1
    && is_none (next_offer load_then_store)

-- ── A system operation ──────────────────────────────────────────────────────

-- It writes when nothing else is in a unit.
abbrev pub before_system : State
before_system = played (units_of 2) (op Multiply [] [] ++ (op System [] [] ++ cycles 4))

unfoldable pub system_drains : Bool
system_drains =
    phase_at before_system 0 Execute && phase_at before_system 1 Write && can_write (book_of before_system) 1
    && is_none (next_offer before_system)

-- The front of the queue stays there, though the book may issue it to unit 1.
abbrev pub held_at_issue : State → Bool
held_at_issue t = can_issue (book_of t) 1 [] && eqb (length t.queue) 1 && eqb (length (issue t).queue) 1

unfoldable pub held_behind_system : Bool
held_behind_system = held_at_issue (at_issue (runs (played (units_of 2) (op System [] [] ++ op Alu [] [])) (start ∷ [])))

-- ── A branch ────────────────────────────────────────────────────────────────

unfoldable pub held_behind_branch : Bool
held_behind_branch =
    held_at_issue (at_issue (runs (played (units_of 2) (fetching Branch true [] [] ++ op Alu [] [])) (start ∷ [])))

-- ── What is written is seen in the same cycle ───────────────────────────────

-- The result of operation 0, which writes x1, is on offer and retired.
abbrev pub writing_x1 : ℕ → List Text → List Text → State
writing_x1 n r w = runs (played (units_of n) (op Alu [] x1 ++ (op Alu r w ++ cycles 3))) (start ∷ retire ∷ [])

-- Operation 1, in unit 1, waits for x1, and reads it in the advance that writes it.
unfoldable pub read_as_written : Bool
read_as_written =
    not (can_read (book_of (writing_x1 2 x1 [])) 1) && phase_at (do_advance None (writing_x1 2 x1 [])) 1 Read

-- Operation 1, queued behind a claim on x1, is issued in the advance that releases it; and so behind a busy unit.
unfoldable pub issued_as_released : Bool
issued_as_released =
    not (can_issue (book_of (writing_x1 2 [] x1)) 1 (0 ∷ [])) && number_at (do_advance None (writing_x1 2 [] x1)) 0 1

unfoldable pub issued_as_freed : Bool
issued_as_freed = not (can_issue (book_of (writing_x1 1 [] [])) 0 []) && number_at (do_advance None (writing_x1 1 [] [])) 0 1

-- ── Kinds of unit ───────────────────────────────────────────────────────────

-- Of several free units of the kind the lowest is taken.
abbrev pub two_free : State
two_free = at_issue (runs (played (units_of 2) (op Alu [] [])) (start ∷ []))

unfoldable pub lowest_unit_taken : Bool
lowest_unit_taken =
    can_issue (book_of two_free) 0 [] && can_issue (book_of two_free) 1 [] && number_at (issue two_free) 0 0
    && not (unit_at (issue two_free).units 1).busy

-- A class that no kind lists goes to kind 0.
abbrev pub multiplier : UnitSpec
multiplier = unit_spec (bytes "MUL") (Multiply ∷ []) Multiply 1

unfoldable pub unlisted_goes_to_kind_0 : Bool
unlisted_goes_to_kind_0 = not (handles Alu multiplier) && number_at (played (machine_with (timing 0 0 0 0 0 0 0) (multiplier ∷ [])) (op Alu [] [] ++ cycle)) 0 0

-- ── Lists of registers ──────────────────────────────────────────────────────

-- Three sources and two destinations, 3 and 4; each destination is claimed.
abbrev pub wide_op : State
wide_op =
    played (units_of 2)
    (op Alu (bytes "x1" ∷ bytes "x2" ∷ bytes "x3" ∷ []) (bytes "x4" ∷ bytes "x5" ∷ []) ++ cycle)

unfoldable pub many_registers : Bool
many_registers =
    eqb (length (row_of (unit_at wide_op.units 0)).sources) 3 && eqb (length (fi_at (book_of wide_op) 0)) 2
    && eqb (value_or 99 ((book_of wide_op).Result 3)) 0 && eqb (value_or 99 ((book_of wide_op).Result 4)) 0

-- ── As many reads in a cycle as units are ready; one issue ──────────────────

-- Two operations wait for x1.
abbrev pub two_waiting : State
two_waiting = runs (played (units_of 3) (op Alu [] x1 ++ (op Alu x1 [] ++ (op Alu x1 [] ++ cycles 2)))) (start ∷ retire ∷ [])

unfoldable pub both_read : Bool
both_read = phase_at (do_advance None two_waiting) 1 Read && phase_at (do_advance None two_waiting) 2 Read

-- Behind a branch that is written now, two operations are queued and two units are free.
abbrev pub two_queued : State
two_queued =
    at_issue (runs (played (units_of 2) (fetching Branch true [] [] ++ (op Alu [] [] ++ (op Alu [] [] ++ cycles 2)))) (start ∷ retire ∷ []))

unfoldable pub one_issue : Bool
one_issue =
    eqb (length two_queued.queue) 2 && eqb (length (issue two_queued).queue) 1 && can_issue (book_of (issue two_queued)) 1 []

-- All of these unfold where a line says `unfolding departures`.
unfoldable pub departures : Unit {0}
unfolding war_outlasts_the_read war_outlasts_in_a_run handed_out_at_write one_result_oldest_first memory_in_order system_drains
    held_behind_system held_behind_branch read_as_written issued_as_released issued_as_freed lowest_unit_taken unlisted_goes_to_kind_0
    many_registers both_read one_issue
departures = tt
