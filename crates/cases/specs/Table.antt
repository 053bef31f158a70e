-- The bench cases P1 to P12 of document 01, and what `forecast` prints: a row for each value.
use Rattle.std.specs.Prelude.{ℕ, zero, suc, ◌-◌, Bool, true, false, cond, List, [], ◌∷◌, ◌++◌, map, length, take, replicate, Option, None, Some}
use Prim.Native.String.{String}
use Rattle.laws.specs.Optional.{is_none, when_some}
use Rattle.laws.specs.Lists.{head}
use Rattle.std.specs.List.{list_all}
use Rattle.laws.specs.Numbers.{max64}
use Rattle.laws.specs.Texts.{Text, bytes, same, decimal}
use Rattle.capability.specs.declared.PipelineInstructionClass.{PipelineInstructionClass}
use Rattle.capability.specs.declared.PipelineInstructionClass.TheVariants.{Alu, Multiply, Load, Branch}
use Rattle.capability.specs.declared.PipelineStageRole.TheVariants as role
use Rattle.model.specs.Config.{Timing, timing, latency, UnitSpec, unit_spec, spec_index, pipeline_shape, queue_depth}
use Rattle.model.specs.Op.{Decoded, decoded, given, no_info, sequential_address, first_word}
use Rattle.model.specs.Registers.{intern_all}
use Rattle.model.specs.Timeline.{Row}
use Rattle.model.specs.State.{State, new}
use Rattle.model.specs.Issue.{learn}
use Rattle.model.specs.Calls.{Call, start, advance, fetch, capacity, overlap, after, runs}
use Rattle.model.specs.Forecast.{parse, forecast_shape, Lent, lent_of, Run, not_made, line_refused, finished, going, forecast_run, excess, printed, Forecast, not_written, written, forecast_answer, forecast_out, forecast_memory, forecast_program}

-- A row: the case's name, what the definitions give, and what document 01 says.
pub record Case : Type 0 where
  pub name : String
  pub found : List ℕ
  pub said : List ℕ

abbrev pub values : String → List ℕ → List ℕ → Case
values p f s = record { name = p; found = f; said = s }

abbrev pub value : String → ℕ → ℕ → Case
value p f s = values p (f ∷ []) (s ∷ [])

abbrev pub words : String → Text → String → Case
words p f s = values p f (bytes s)

-- What `forecast` prints for an input.
abbrev pub prints : String → String → String → Case
prints p input s = words p (forecast_program (bytes input)) s

-- 1 for true.
abbrev pub number : Bool → ℕ
number b = cond b 1 0

-- A line that is not of the program's form, and one that is.
abbrev pub unreadable : String → Case
unreadable line = value "forecast" (number (is_none (parse (bytes line)))) 1

abbrev pub readable : String → Case
readable line = value "forecast" (number (is_none (parse (bytes line)))) 0

unfoldable pub holds : Case → Bool
holds c = same c.found c.said

-- The claim over all rows.
unfoldable pub all_hold : List Case → Bool
all_hold cs = list_all holds cs

-- ── What the rows speak of ──────────────────────────────────────────────────

abbrev pub alu_extra : ℕ → Timing
alu_extra n = timing n 0 0 0 0 0 0

-- An alu operation, by address and length.
abbrev pub at : ℕ → ℕ → Decoded
at a n = decoded a n Alu false false

-- P4: MUL takes multiply, EX takes alu.
abbrev pub mul_and_ex : List UnitSpec
mul_and_ex = unit_spec (bytes "MUL") (Multiply ∷ []) Multiply 1 ∷ unit_spec (bytes "EX") (Alu ∷ []) Alu 1 ∷ []

-- The machine of `forecast`.
abbrev pub bench : State
bench = after (new forecast_shape 0) (overlap true)

abbrev pub memory : ℕ
memory = 51200

-- A cycle, and a fetch of an operation of that class, a branch or not.
abbrev pub fetch_one : PipelineInstructionClass → Bool → List Call
fetch_one c b = start ∷ advance None memory ∷ fetch (given (decoded 0 4 c b false) no_info) memory ∷ []

-- P8: behind a branch in a unit two operations are queued.
abbrev pub two_queued : State
two_queued = runs bench (fetch_one Branch true ++ (fetch_one Alu false ++ fetch_one Alu false))

-- What a cycle with a redirect adds: flushes, stalls, branch stalls; and the waits listed.
unfoldable pub added : State → State → List ℕ
added s t =
    (t.log.stats.flushes - s.log.stats.flushes) ∷ (t.log.stats.stalls - s.log.stats.stalls)
    ∷ (t.log.stats.branch_stalls - s.log.stats.branch_stalls) ∷ length t.log.traces ∷ []

abbrev pub redirect_adds : State → List ℕ
redirect_adds s = added s (runs s (start ∷ advance (Some 64) memory ∷ []))

-- P9: an operation of latency 255, and so many cycles. Its row has a cell from the first on.
abbrev pub slow : Lent
slow = lent_of (new (pipeline_shape [] None (alu_extra 254) [] 1) 0) (replicate 200 255)

unfoldable pub engine_of : Run → Option State
engine_of (not_made r m) = None
engine_of (line_refused n r m) = None
engine_of (finished e) = Some e.engine
engine_of (going e input n) = Some e.engine

abbrev pub engine_after : ℕ → Option State
engine_after n = engine_of (forecast_run n (going slow (bytes "A 4 - - slow") 0))

-- The oldest row: id, first cycle, cells.
unfoldable pub oldest_row : State → List ℕ
oldest_row s = when_some (head s.log.rows) [] (λ (r : Row). r.id ∷ r.first_cycle ∷ r.count ∷ [])

abbrev pub row_after : ℕ → List ℕ
row_after n = when_some (engine_after n) [] oldest_row

-- P10: so many fetches, a redirect before each.
unfoldable pub fetches : ℕ → List Call
fetches zero = []
fetches (suc n) = start ∷ advance (Some 0) memory ∷ fetch (given (decoded 0 4 Alu false false) no_info) memory ∷ fetches n

abbrev pub oldest_id : State → List ℕ
oldest_id s = map (λ (r : Row). r.id) (take 1 s.log.rows)

-- So many names, all different.
unfoldable pub names_below : ℕ → List Text
names_below zero = []
names_below (suc n) = decimal n ∷ names_below n

-- `forecast` on an engine that has looked at so many names.
abbrev pub prints_knowing : ℕ → String → Text
prints_knowing n input = printed (forecast_run 100 (going (lent_of (learn (names_below n) bench) (replicate memory 255)) (bytes input) 0))

-- The answer of the function on lent slices, by the bytes lent for cells and for `out`, on an empty input: 0 and the number for no, or
-- 1 and the bytes written.
unfoldable pub answer_values : Forecast → List ℕ
answer_values (not_written r) = 0 ∷ r ∷ []
answer_values (written n) = 1 ∷ n ∷ []

abbrev pub answer_with : ℕ → ℕ → List ℕ
answer_with cells out = answer_values (forecast_answer [] (replicate cells 255) (replicate out 0))

-- A lent `out` of so many bytes 7, after it, on an empty input.
abbrev pub out_after : ℕ → List ℕ
out_after n = forecast_out [] (replicate memory 255) (replicate n 7)

-- The first two of lent cells of 7, after it, on an input of so many bytes.
abbrev pub cells_after : ℕ → List ℕ
cells_after n = take 2 (forecast_memory (replicate n 65) (replicate memory 7))

-- ── The table ───────────────────────────────────────────────────────────────

unfoldable pub cases : List Case
cases =
    -- P1: extra 0, 253, 254, 255, 2^64 - 2: latency 1, 254, 255, 255, 255.
    value "P1" (latency (alu_extra 0) Alu) 1
    ∷ value "P1" (latency (alu_extra 253) Alu) 254
    ∷ value "P1" (latency (alu_extra 254) Alu) 255
    ∷ value "P1" (latency (alu_extra 255) Alu) 255
    ∷ value "P1" (latency (alu_extra 18446744073709551614) Alu) 255
    -- P2: address 2^64 - 1, length 0: next 0.
    ∷ value "P2" (sequential_address None (at max64 0)) 0
    -- P2: address 16 with fixed length 0: 17.
    ∷ value "P2" (sequential_address (Some 0) (at 16 4)) 17
    -- P3: depth: no stages 1; Execute at index 2: 2; three stages without it: 2; Execute first: 1.
    ∷ value "P3" (queue_depth []) 1
    ∷ value "P3" (queue_depth (role.Fetch ∷ role.Decode ∷ role.Execute ∷ [])) 2
    ∷ value "P3" (queue_depth (role.Fetch ∷ role.Decode ∷ role.Memory ∷ [])) 2
    ∷ value "P3" (queue_depth (role.Execute ∷ role.Memory ∷ [])) 1
    -- P4: kinds MUL (multiply), EX (alu): a load goes to MUL, kind 0.
    ∷ value "P4" (spec_index mul_and_ex Load) 0
    -- P5: names x1, x2, x1: 0, 1, 0.
    ∷ values "P5" (intern_all [] (bytes "x1" ∷ bytes "x2" ∷ bytes "x1" ∷ [])).numbers (0 ∷ 1 ∷ 0 ∷ [])
    -- P6: the program run.
    ∷ prints "P6" "A 4 - x1 set x1\nA 4 x1 x2 add x2\n" "0 1 IF IS RO EX WR\n1 2 IF IS IS* IS* RO EX WR\ncycles 9 committed 2 stalls 2\n"
    -- P6: empty input prints the totals line with zeros.
    ∷ prints "P6" "" "cycles 0 committed 0 stalls 0\n"
    -- P7: redirect on an empty queue: flushes +1, stalls +0, (branch stalls +0,) one wait listed.
    ∷ values "P7" (redirect_adds bench) (1 ∷ 0 ∷ 0 ∷ 1 ∷ [])
    -- P8: redirect with two queued: flushes +1, stalls +2, branch stalls +2 (and one wait listed).
    ∷ value "P8" (length two_queued.queue) 2
    ∷ values "P8" (redirect_adds two_queued) (1 ∷ 2 ∷ 2 ∷ 1 ∷ [])
    -- P9: cell 200 keeps the first cycle, cell 201 moves it by 1. (Row 0; first cycle; cells.)
    ∷ values "P9" (row_after 200) (0 ∷ 1 ∷ 200 ∷ [])
    ∷ values "P9" (row_after 201) (0 ∷ 2 ∷ 200 ∷ [])
    -- P10: history 256, 257 fetches: oldest row is 1.
    ∷ values "P10" (oldest_id (runs bench (fetches 257))) (1 ∷ [])
    -- P11: capacity 0 builds one unit, by a change and at making.
    ∷ value "P11" (length (after bench (capacity 0 0)).units) 1
    ∷ value "P11" (length (new (pipeline_shape [] None (alu_extra 0) (unit_spec (bytes "EX") [] Alu 0 ∷ []) 1) 0).units) 1
    -- P12: first word of "" is "?", of "  add x" is "add".
    ∷ words "P12" (first_word (bytes "")) "?"
    ∷ words "P12" (first_word (bytes "  add x")) "add"
    -- forecast: default timing, so a multiply shows three EX.
    ∷ prints "forecast" "M 4 - x1 m\n" "0 1 IF IS RO EX EX EX WR\ncycles 8 committed 1 stalls 0\n"
    -- forecast: the last line may lack byte 10, and the text may be empty after its space.
    ∷ prints "forecast" "U 15 - - " "0 1 IF IS RO EX WR\ncycles 6 committed 1 stalls 0\n"
    -- forecast: `--` and the `-` of `-,x` are names.
    ∷ prints "forecast" "A 1 -- -,x t" "0 1 IF IS RO EX WR\ncycles 6 committed 1 stalls 0\n"
    -- forecast: a branch holds up the issue of what follows.
    ∷ prints "forecast" "B 4 - - b\nA 4 - - a\n" "0 1 IF IS RO EX WR\n1 2 IF IF* IF* IF* IS RO EX WR\ncycles 10 committed 2 stalls 3\n"
    -- forecast: 2 for a byte outside 0x20 to 0x7E, found before line 2 is read.
    ∷ prints "forecast" "A 4 - x1 \u{7f}\nnot a line" "line 1 refused 2\n"
    -- forecast: 2 for a name of 17 bytes.
    ∷ prints "forecast" "A 4 - x1 a\nA 4 abcdefghijklmnopq - b" "line 2 refused 2\n"
    -- forecast: 9 for nine reads, 9 for five writes.
    ∷ prints "forecast" "A 4 a,b,c,d,e,f,g,h,i - t" "line 1 refused 9\n"
    ∷ prints "forecast" "A 4 - a,b,c,d,e t" "line 1 refused 9\n"
    -- forecast: 10 where 256 names are known and one is new; not with 255.
    ∷ words "forecast" (prints_knowing 256 "A 4 - x1 t") "line 1 refused 10\n"
    ∷ words "forecast" (prints_knowing 255 "A 4 - x1 t") "0 1 IF IS RO EX WR\ncycles 6 committed 1 stalls 0\n"
    -- forecast: 14 for no space after the write list, and for an empty line, a last one too.
    ∷ prints "forecast" "A 4 - x1" "line 1 refused 14\n"
    ∷ prints "forecast" "A 4 - x1 t\n\n" "line 2 refused 14\n"
    ∷ unreadable ""
    -- forecast: 14 for a letter that is no class, and for more than a letter.
    ∷ unreadable "X 4 - x1 t"
    ∷ unreadable "AA 4 - x1 t"
    -- forecast: 14 for a length of 04, 0 or 16.
    ∷ unreadable "A 04 - x1 t"
    ∷ unreadable "A 0 - x1 t"
    ∷ unreadable "A 16 - x1 t"
    -- forecast: 14 for an empty name.
    ∷ unreadable "A 4 x,,y x1 t"
    ∷ unreadable "A 4 x, x1 t"
    -- forecast: 14 for two spaces in a row before the text.
    ∷ unreadable " A 4 - x1 t"
    ∷ unreadable "A  4 - x1 t"
    ∷ unreadable "A 4  - x1 t"
    ∷ unreadable "A 4 -  x1 t"
    -- forecast: after the write list's space all is text, a second space too.
    ∷ readable "A 4 - x1  t"
    -- forecast: excess input, 65,537 bytes, is line 0; 65,536 are not excess.
    ∷ words "forecast" (forecast_program (replicate 65537 65)) "line 0 refused 14\n"
    ∷ value "forecast" (number (excess (replicate 65536 65))) 0
    -- forecast on lent slices: 13 for cells under 51,200 bytes, then for `out` under the 30 bytes of the totals line.
    ∷ values "forecast" (answer_with 51199 0) (0 ∷ 13 ∷ [])
    ∷ values "forecast" (answer_with 51200 29) (0 ∷ 13 ∷ [])
    ∷ values "forecast" (answer_with 51200 30) (1 ∷ 30 ∷ [])
    -- forecast on lent slices: a short `out` is left as it was; of a long one the bytes past what is printed stay.
    ∷ values "forecast" (out_after 2) (7 ∷ 7 ∷ [])
    ∷ values "forecast" (out_after 32) (bytes "cycles 0 committed 0 stalls 0\n" ++ (7 ∷ 7 ∷ []))
    -- forecast on lent slices: the run clears the cells; excess input leaves them as they were.
    ∷ values "forecast" (cells_after 0) (255 ∷ 255 ∷ [])
    ∷ values "forecast" (cells_after 65537) (7 ∷ 7 ∷ [])
    ∷ []

-- All of these unfold where a line says `unfolding table`.
unfoldable pub table : Unit {0}
unfolding holds all_hold added engine_of oldest_row fetches names_below answer_values cases
table = tt
