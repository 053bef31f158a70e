-- The program `forecast`: lines of operations in; the timeline and the totals out. It drives the engine by the engine's calls alone.
use Rattle.std.specs.Prelude.{ℕ, zero, suc, ◌+◌, ◌-◌, ◌*◌, Bool, true, false, cond, ◌&&◌, ◌||◌, List, [], ◌∷◌, ◌++◌, eqb, ltb, length, replicate, Option, None, Some, is_some}
use Prim.Native.Char.{code}
use Rattle.laws.specs.Optional.{value_or, when_some}
use Rattle.laws.specs.Lists.{is_empty}
use Rattle.std.specs.List.{list_any}
use Rattle.laws.specs.Texts.{Text, bytes, same, before, beyond, pieces, decimal}
use Rattle.capability.specs.declared.PipelineInstructionClass.{PipelineInstructionClass}
use Rattle.capability.specs.declared.PipelineInstructionClass.TheVariants.{
  Alu,
  Multiply,
  Divide,
  Load,
  Store,
  Branch,
  Jump,
  System,
  FloatingPoint,
  Unknown,
}
use Rattle.capability.specs.declared.PipelineStageRole.TheVariants as role
use Rattle.capability.specs.declared.PipelineTimelineState.TheVariants as cell
use Rattle.capability.specs.Numbers.{state_number}
use Rattle.model.specs.Config.{same_class, default_timing, UnitSpec, unit_spec, PipelineShape, pipeline_shape}
use Rattle.model.specs.Op.{decoded, info_of, Given, given}
use Rattle.model.specs.Timeline.{Row, cell_at, overlay}
use Rattle.model.specs.State.{Stats, State}
use Rattle.model.specs.Write.{offered_op}
use Rattle.model.specs.Scoreboard.{idle}
use Rattle.model.specs.Views.{cell_view, cell_state}
use Rattle.model.specs.Requests.{label_text}
use Rattle.model.specs.Calls.{
  Call,
  start,
  retire,
  advance,
  fetch,
  overlap,
  Check,
  first_of,
  Made,
  no_machine,
  made,
  make,
  make_memory,
  refusal,
  after,
  memory_after,
  invitation_of,
}

-- ── Lines ───────────────────────────────────────────────────────────────────

-- A line ends in byte 10, which the last may lack.
unfoldable pub first_line : Text → Text
first_line input = before 10 input

unfoldable pub other_lines : Text → Text
other_lines input = beyond 10 input

-- What follows the first n spaces of a line.
unfoldable pub past : ℕ → Text → Text
past zero t = t
past (suc n) t = beyond 32 (past n t)

-- Word n of a line, counted from 0. Single spaces separate words, so there is an empty word between two spaces in a row.
unfoldable pub word : ℕ → Text → Text
word n t = before 32 (past n t)

-- The class of a letter.
unfoldable pub letters : List (ℕ × PipelineInstructionClass)
letters =
    (code "A", Alu) ∷ (code "M", Multiply) ∷ (code "D", Divide) ∷ (code "L", Load) ∷ (code "S", Store) ∷ (code "B", Branch) ∷ (code "J", Jump)
    ∷ (code "Y", System) ∷ (code "F", FloatingPoint) ∷ (code "U", Unknown) ∷ []

unfoldable pub class_by : List (ℕ × PipelineInstructionClass) → ℕ → Option PipelineInstructionClass
class_by [] c = None
class_by (p ∷ ps) c = cond (eqb p.0 c) (Some p.1) (class_by ps c)

-- A class: one letter.
unfoldable pub class_in : Text → Option PipelineInstructionClass
class_in [] = None
class_in (c ∷ []) = class_by letters c
class_in (c ∷ d ∷ ds) = None

-- A length: 1 to 15 in decimal, without leading zeros. (The digits are bytes 48 to 57.)
unfoldable pub size_in : Text → Option ℕ
size_in [] = None
size_in (a ∷ []) = cond (ltb 48 a && ltb a 58) (Some (a - 48)) None
size_in (a ∷ b ∷ []) = cond (eqb a 49 && ltb 47 b && ltb b 54) (Some (10 + (b - 48))) None
size_in (a ∷ b ∷ c ∷ cs) = None

-- A list: nonempty names with commas, or `-` alone for none. (`--` and the first of `-,x` are names.)
unfoldable pub list_in : Text → Option (List Text)
list_in t = cond (same t (bytes "-")) (Some []) (cond (list_any is_empty (pieces 44 t)) None (Some (pieces 44 t)))

-- What a line says: an operation without its address.
pub record Line : Type 0 where
  pub class : PipelineInstructionClass
  pub size : ℕ
  pub reads : List Text
  pub writes : List Text
  pub text : Text

abbrev pub line_of : PipelineInstructionClass → ℕ → List Text → List Text → Text → Line
line_of c n r w t = record { class = c; size = n; reads = r; writes = w; text = t }

unfoldable pub line_by : Option PipelineInstructionClass → Option ℕ → Option (List Text) → Option (List Text) → Text → Option Line
line_by None n r w t = None
line_by (Some c) None r w t = None
line_by (Some c) (Some n) None w t = None
line_by (Some c) (Some n) (Some r) None t = None
line_by (Some c) (Some n) (Some r) (Some w) t = Some (line_of c n r w t)

-- Class, length, read list and write list, each followed by a space, and the text: all the rest, which may be empty or begin with a
-- space. None where the line is not of this form.
unfoldable pub parse : Text → Option Line
parse t =
    cond (list_any (eqb 32) (past 3 t)) (line_by (class_in (word 0 t)) (size_in (word 1 t)) (list_in (word 2 t)) (list_in (word 3 t)) (past 4 t)) None

-- B and J set the branch flag.
unfoldable pub branches : PipelineInstructionClass → Bool
branches c = same_class c Branch || same_class c Jump

-- A line as an operation at an address.
unfoldable pub line_given : Line → ℕ → Given
line_given l a =
    given (decoded a l.size l.class (branches l.class) false) (info_of l.text None None l.reads l.writes 0)

-- ── The run ─────────────────────────────────────────────────────────────────

-- EX of capacity 2 for every class, depth 2, history 256, default timing, no fixed length.
unfoldable pub forecast_shape : PipelineShape
forecast_shape = pipeline_shape (role.Fetch ∷ role.Decode ∷ role.Execute ∷ []) None default_timing (unit_spec (bytes "EX") [] Alu 2 ∷ []) 256

-- An engine, and the cell memory that is lent to each of its calls.
pub record Lent : Type 0 where
  pub engine : State
  pub cells : List ℕ

abbrev pub lent_of : State → List ℕ → Lent
lent_of s m = record { engine = s; cells = m }

unfoldable pub play : Call → Lent → Lent
play c e = lent_of (after e.engine c) (memory_after e.engine c e.cells)

-- A run, ended or still going.
pub data Run : Type 0 where
  -- no engine was made: the number for no, the cells
  not_made : ℕ → List ℕ → Run
  -- a line was refused: its number from 1, or 0 for excess input; the number for no; the cells
  line_refused : ℕ → ℕ → List ℕ → Run
  finished : Lent → Run
  -- the input that is left, and how many lines were taken
  going : Lent → Text → ℕ → Run

-- Every offer, which is what the answer to start shows, is retired.
unfoldable pub retire_offer : Lent → Lent
retire_offer e = cond (is_some (offered_op e.engine)) (play retire e) e

-- A cycle up to its invitation.
unfoldable pub cycle : Lent → Lent
cycle e = play (advance None (length e.cells)) (retire_offer (play start e))

unfoldable pub fetch_line : Line → ℕ → Lent → Call
fetch_line l a e = fetch (line_given l a) (length e.cells)

-- Line n is fetched, by that call and what it is refused for.
unfoldable pub take_fetched : Option ℕ → Call → Text → ℕ → Lent → Run
take_fetched (Some r) c input n e = line_refused n r e.cells
take_fetched None c input n e = going (play c e) input n

-- Line n is taken at address a; 14 comes before the engine's own checks.
unfoldable pub take_parsed : Option Line → ℕ → Text → ℕ → Lent → Run
take_parsed None a input n e = line_refused n 14 e.cells
take_parsed (Some l) a input n e = take_fetched (refusal e.engine (fetch_line l a e)) (fetch_line l a e) input n e

-- By the invitation and the input that is left: a line is read only when an invitation takes it.
unfoldable pub take_line : Option ℕ → Text → ℕ → Lent → Run
take_line None input n e = going e input n
take_line (Some a) [] n e = going e [] n
take_line (Some a) (x ∷ xs) n e = take_parsed (parse (first_line (x ∷ xs))) a (other_lines (x ∷ xs)) (suc n) e

unfoldable pub cycle_and_line : Lent → Text → ℕ → Run
cycle_and_line e input n = take_line (invitation_of (cycle e).engine) input n (cycle e)

-- It ends when the lines are used up and nothing is in flight.
unfoldable pub turn : Lent → Text → ℕ → Run
turn e input n = elim (is_empty input && idle e.engine) [ true ↦ finished e | false ↦ cycle_and_line e input n ]

-- So many turns at most; the run is still `going` where they were too few.
unfoldable pub forecast_run : ℕ → Run → Run
forecast_run zero r = r
forecast_run (suc fuel) (not_made r m) = not_made r m
forecast_run (suc fuel) (line_refused n r m) = line_refused n r m
forecast_run (suc fuel) (finished e) = finished e
forecast_run (suc fuel) (going e input n) = forecast_run fuel (turn e input n)

-- The fuel is never the reason to stop. Each line has a byte or the byte 10 after it. With nothing in flight the next cycle takes a line.
-- The oldest operation in flight is never held up: it is retired at most 24 cycles after it was fetched or became the oldest (one each to
-- issue, to read, to go to write and to be offered; at most 20 to execute).
unfoldable pub fuel_for : Text → ℕ
fuel_for input = 100 * suc (length input)

-- Over 65,536 bytes.
unfoldable pub excess : Text → Bool
excess input = ltb 65536 (length input)

-- First 13 for short cells, as making says; then excess input, which leaves the cells as they were; then the run, with overlap on.
unfoldable pub forecast_made : Made → Text → List ℕ → Run
forecast_made (no_machine r) input cells = not_made r cells
forecast_made (made s) input cells =
    elim (excess input) [
      | true ↦ line_refused 0 14 cells
      | false ↦ forecast_run (fuel_for input) (going (play (overlap true) (lent_of s (make_memory forecast_shape cells))) input 0)
    ]

unfoldable pub forecast_of : Text → List ℕ → Run
forecast_of input cells = forecast_made (make forecast_shape 0 cells) input cells

-- ── What is printed ─────────────────────────────────────────────────────────

unfoldable pub is_stalled : ℕ → Bool
is_stalled b = eqb (state_number (cell_state b)) (state_number cell.Stalled)

-- A cell: a space, the label, and `*` where it is stalled.
unfoldable pub cell_text : List UnitSpec → ℕ → Text
cell_text ks b = bytes " " ++ (value_or [] (label_text ks (cell_view b).label) ++ cond (is_stalled b) (bytes "*") [])

-- The first n cells of a row.
unfoldable pub cells_text : Lent → Row → ℕ → Text
cells_text e r zero = []
cells_text e r (suc n) =
    cells_text e r n ++ when_some (cell_at e.engine.machine.history r e.cells n) [] (cell_text e.engine.machine.specs)

-- A row: id, first cycle, labels.
unfoldable pub row_text : Lent → Row → Text
row_text e r = decimal r.id ++ (bytes " " ++ (decimal r.first_cycle ++ (cells_text e r r.count ++ bytes "\n")))

unfoldable pub rows_text : Lent → List Row → Text
rows_text e [] = []
rows_text e (r ∷ rs) = row_text e r ++ rows_text e rs

unfoldable pub totals_text : Stats → Text
totals_text a =
    bytes "cycles "
    ++ (decimal a.cycles ++ (bytes " committed " ++ (decimal a.committed ++ (bytes " stalls " ++ (decimal a.stalls ++ bytes "\n")))))

unfoldable pub refused_text : ℕ → ℕ → Text
refused_text n r = bytes "line " ++ (decimal n ++ (bytes " refused " ++ (decimal r ++ bytes "\n")))

-- Each held row, then the totals; or a refused line alone. Nothing where no engine was made, or where the fuel ended the run: never.
unfoldable pub printed : Run → Text
printed (not_made r m) = []
printed (line_refused n r m) = refused_text n r
printed (finished e) = rows_text e e.engine.log.rows ++ totals_text e.engine.log.stats
printed (going e input n) = []

unfoldable pub cells_left : Run → List ℕ
cells_left (not_made r m) = m
cells_left (line_refused n r m) = m
cells_left (finished e) = e.cells
cells_left (going e input n) = e.cells

-- ── The function on lent slices: input, cells, out ──────────────────────────

-- What is to be printed.
unfoldable pub forecast : Text → List ℕ → Text
forecast input cells = printed (forecast_of input cells)

-- The lent cells after it: as they were where they are short or the input is excess, else as the run left them. `out` does not matter.
unfoldable pub forecast_memory : Text → List ℕ → List ℕ
forecast_memory input cells = cells_left (forecast_of input cells)

-- 13 for cells under 51,200 bytes (200 for each of 256 rows), then 13 for an `out` under what is printed. A refused line and excess input
-- are printed, so they are no refusal here.
unfoldable pub forecast_checks : Text → List ℕ → List ℕ → List Check
forecast_checks input cells out = (13, ltb (length cells) 51200) ∷ (13, ltb (length out) (length (forecast input cells))) ∷ []

unfoldable pub forecast_refusal : Text → List ℕ → List ℕ → Option ℕ
forecast_refusal input cells out = first_of (forecast_checks input cells out)

-- The number for no, or how many bytes were printed.
pub data Forecast : Type 0 where
  not_written : ℕ → Forecast
  written : ℕ → Forecast

unfoldable pub forecast_answer : Text → List ℕ → List ℕ → Forecast
forecast_answer input cells out = when_some (forecast_refusal input cells out) (written (length (forecast input cells))) not_written

-- The lent `out` after it: as it was where it refused, else what is printed, and then what stood there.
unfoldable pub forecast_out : Text → List ℕ → List ℕ → List ℕ
forecast_out input cells out = when_some (forecast_refusal input cells out) (overlay (forecast input cells) out) (λ (r : ℕ). out)

-- ── The program ─────────────────────────────────────────────────────────────

-- It lends 51,200 bytes of 255.
unfoldable pub forecast_program : Text → Text
forecast_program input = forecast input (replicate 51200 255)

-- All of these unfold where a line says `unfolding forecasts`.
unfoldable pub forecasts : Unit {0}
unfolding first_line other_lines past word letters class_by class_in size_in list_in line_by parse branches
    line_given forecast_shape play retire_offer cycle fetch_line take_fetched take_parsed take_line cycle_and_line turn forecast_run fuel_for excess
    forecast_made forecast_of is_stalled cell_text cells_text row_text rows_text totals_text refused_text printed cells_left forecast
    forecast_memory forecast_checks forecast_refusal forecast_answer forecast_out forecast_program
forecasts = tt
