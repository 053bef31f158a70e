-- Readings that are easy to get wrong, as facts of the model: each is a test that gives `true`, by computing.
use Prim.Native.Nat.{ℕ, zero, suc}
use mathlib.Core.Path.{◌≡◌, refl}
use mathlib.Core.Bool.{Bool, true, false, cond, ◌&&◌}
use Rattle.std.specs.Prelude.{Option, None, Some, is_some}
use mathlib.Core.List.{List, [], ◌∷◌, ◌++◌, map}
use lib.Dec.{eqb}
use lib.ListN.{length, replicate}
use Rattle.laws.specs.Optional.{is_none, value_or}
use Rattle.laws.specs.Lists.{is_empty}
use Rattle.std.specs.List.{list_all}
use Rattle.laws.specs.Numbers.{max64}
use Rattle.laws.specs.Texts.{Text, bytes, same, decimal}
use Rattle.capability.specs.declared.PipelineInstructionClass.{PipelineInstructionClass}
use Rattle.capability.specs.declared.PipelineInstructionClass.TheVariants.{Alu, Multiply}
use Rattle.capability.specs.declared.PipelineHazardKind.{PipelineHazardKind}
use Rattle.capability.specs.declared.PipelineHazardKind.TheVariants.{
  ReadAfterWrite,
  LoadUse,
  BranchFlush,
  FunctionalUnitBusy,
  MemoryLatency,
  WriteAfterWrite,
  WriteAfterRead,
}
use Rattle.capability.specs.declared.Phase.{Phase}
use Rattle.capability.specs.declared.Phase.TheVariants.{Wait, Read, Execute, Write}
use Rattle.model.specs.Config.{timing, unit_spec, PipelineShape, pipeline_shape}
use Rattle.model.specs.Op.{decoded, info_of, Given, given, no_op}
use Rattle.model.specs.Timeline.{row_of, add_cell}
use Rattle.model.specs.Traces.{
  Detail,
  overwrites,
  memory_order,
  drains,
  waits_for,
  behind_branch,
  behind_system,
  still_writes,
  all_busy,
  redirect_to,
  render,
}
use Rattle.model.specs.Units.{FunctionalUnit, unit_of, unit_at}
use Rattle.model.specs.State.{
  Stats,
  stats_of,
  count_cycle,
  count_retired,
  count_flush,
  count_stall,
  offer_of,
  State,
  with_registers,
  with_offer,
  with_front,
  with_turn,
  with_next,
  new,
}
use Rattle.capability.specs.Numbers.{phase_number}
use Rattle.model.specs.Write.{write_blocked, offered_op}
use Rattle.model.specs.Calls.{
  Call,
  start,
  retire,
  retry,
  resolve,
  advance,
  fetch,
  capacity,
  overlap,
  make_refusal,
  refusal,
  runs,
}
use Rattle.model.specs.Forecast.{forecast_shape}
use Rattle.model.specs.Everything.{everything}

-- The machine of `forecast`, its cell memory, and an operation by its class, reads and writes.
abbrev fresh : State
fresh = new forecast_shape 0

abbrev memory : ℕ
memory = 51200

abbrev x1 : Text
x1 = bytes "x1"

abbrev op : PipelineInstructionClass → List Text → List Text → Given
op c r w = given (decoded 0 4 c false false) (info_of (bytes "op") None None r w 0)

abbrev cycle : List Call
cycle = start ∷ advance None memory ∷ []

-- A cycle, a fetch.
abbrev after-fetch : Given → State
after-fetch g = runs fresh (cycle ++ (fetch g memory ∷ []))

-- ── Only a look numbers names ───────────────────────────────────────────────

no-name-at-fetch : is_empty (after-fetch (op Alu (x1 ∷ []) (bytes "x2" ∷ []))).names ≡ true
unfolding everything
no-name-at-fetch = refl

-- The next advance looks at it.
names-at-look : eqb (length (runs (after-fetch (op Alu (x1 ∷ []) (bytes "x2" ∷ []))) cycle).names) 2 ≡ true
unfolding everything
names-at-look = refl

-- Reads are numbered before writes, and each write is claimed by the unit.
abbrev looked_at-once : State
looked_at-once = runs (after-fetch (op Alu (x1 ∷ []) (bytes "x2" ∷ []))) cycle

reads-before-writes : (same (unit_at looked_at-once.units 0).sources (0 ∷ []) && same (unit_at looked_at-once.units 0).destinations (1 ∷ [])) ≡ true
unfolding everything
reads-before-writes = refl

writes-are-claimed : same (map (value_or 9) looked_at-once.producer) (9 ∷ 0 ∷ []) ≡ true
unfolding everything
writes-are-claimed = refl

-- ── No decision reads a name, a text or a payload ───────────────────────────

abbrev other-op : Text → ℕ → List Text → List Text → Given
other-op t p r w = given (decoded 0 4 Alu false false) (info_of t None None r w p)

-- Two operations, the second reading what the first writes, and some cycles.
abbrev two-ops : Text → Text → Text → ℕ → State
two-ops x y t p =
    runs fresh
    (overlap true
    ∷ (cycle ++ (fetch (other-op t p (x ∷ []) (y ∷ [])) memory ∷ (cycle ++ (fetch (other-op t p (y ∷ []) (x ∷ [])) memory ∷ (cycle ++ cycle))))))

abbrev unit_numbers : FunctionalUnit → List ℕ
unit_numbers u = cond u.busy 1 0 ∷ phase_number u.phase ∷ length u.pending ∷ u.sources ++ u.destinations

abbrev engine-numbers : State → List ℕ
engine-numbers s = s.log.stats.stalls ∷ length s.queue ∷ unit_numbers (unit_at s.units 0) ++ unit_numbers (unit_at s.units 1)

names-do-not-decide : same (engine-numbers (two-ops x1 (bytes "x2") (bytes "op") 0)) (engine-numbers (two-ops (bytes "b") (bytes "a") [] 7)) ≡ true
unfolding everything
names-do-not-decide = refl

-- ── An operation that reads and writes one register does not wait on itself ─

abbrev issued-both : FunctionalUnit
issued-both = unit_at (runs (after-fetch (op Alu (x1 ∷ []) (x1 ∷ []))) cycle).units 0

no-wait-on-itself : (issued-both.busy && is_empty issued-both.pending) ≡ true
unfolding everything
no-wait-on-itself = refl

-- ── A reader holds up a writer in each of its phases, also once it has read ──

abbrev unit-in : Phase → List ℕ → List ℕ → FunctionalUnit
unit-in p r w = unit_of 0 0 Alu false true no_op p r w []

-- Unit 0 reads register 0, unit 1 is to write it.
abbrev held_up : Phase → Bool
held_up p = is_some (write_blocked (unit-in p (0 ∷ []) [] ∷ unit-in Write [] (0 ∷ []) ∷ []) 1)

war_outlasts_the_read : list_all held_up (Wait ∷ Read ∷ Execute ∷ Write ∷ []) ≡ true
unfolding everything
war_outlasts_the_read = refl

-- By calls: a multiply that reads x1, fetched in cycle 1, has read in cycle 3; an alu that writes x1 is held up in cycle 7.
abbrev up-to-war : State
up-to-war =
    runs fresh
    (overlap true
    ∷ (cycle
    ++ (fetch (op Multiply (x1 ∷ []) []) memory
    ∷ (cycle ++ (fetch (op Alu [] (x1 ∷ [])) memory ∷ (cycle ++ (cycle ++ (cycle ++ (cycle ++ (start ∷ []))))))))))

war-in-a-run : (is_none (offered_op up-to-war) && eqb up-to-war.log.stats.war_stalls 1) ≡ true
unfolding everything
war-in-a-run = refl

-- ── A capacity change during an offer is refused ────────────────────────────

-- One operation, and cycles up to its offer.
abbrev up-to-offer : State
up-to-offer = runs (after-fetch (op Alu [] (x1 ∷ []))) (cycle ++ (cycle ++ (cycle ++ (cycle ++ (start ∷ [])))))

no-capacity-in-offer : (is_some (offered_op up-to-offer) && eqb (value_or 0 (refusal up-to-offer (capacity 0 3))) 4) ≡ true
unfolding everything
no-capacity-in-offer = refl

-- ── Refusals in order: all faults at once, then the first mended, and so on; 0 for taken ─

abbrev in_order : List (Option ℕ) → List ℕ → Bool
in_order rs ns = same (map (value_or 0) rs) ns

abbrev turned : Bool → Bool → State → State
turned in_cycle invited s = with_front (with_turn in_cycle invited s.front) s

abbrev opened : State → State
opened s = turned true false s

abbrev offering : State → State
offering s = with_offer (offer_of (Some 0) false) s

abbrev bad : Text
bad = 10 ∷ []

-- So many names, all different.
unfoldable names_below : ℕ → List Text
names_below zero = []
names_below (suc n) = decimal n ∷ names_below n

abbrev numbered : ℕ → List Text → State
numbered n ns = with_registers ns [] (with_front (with_next 0 n fresh.front) fresh)

abbrev worded : Text → List Text → Given
worded t r = given (decoded 0 4 Alu false false) (info_of t None None r [] 0)

-- The state with numbers out and names full, and one with neither.
abbrev fetch-order : State → State → List (Option ℕ)
fetch-order f e =
    refusal (turned true false f) (fetch (worded bad (replicate 9 x1)) 0)
    ∷ refusal (turned false false f) (fetch (worded bad (replicate 9 x1)) 0)
    ∷ refusal (turned false true f) (fetch (worded bad (replicate 9 x1)) 0)
    ∷ refusal (turned false true f) (fetch (worded [] (replicate 9 x1)) 0)
    ∷ refusal (turned false true f) (fetch (worded [] (x1 ∷ [])) 0)
    ∷ refusal (turned false true (numbered 0 f.names)) (fetch (worded [] (x1 ∷ [])) 0)
    ∷ refusal (turned false true e) (fetch (worded [] (x1 ∷ [])) 0)
    ∷ refusal (turned false true e) (fetch (worded [] (x1 ∷ [])) memory) ∷ []

order-of-fetch : in_order (fetch-order (numbered max64 (names_below 256)) fresh) (4 ∷ 8 ∷ 2 ∷ 9 ∷ 11 ∷ 10 ∷ 13 ∷ 0 ∷ []) ≡ true
unfolding everything names_below
order-of-fetch = refl

-- Of the names 2 covers the first 8: a bad one after them gives 9.
ninth-name-unread : in_order (refusal (turned false true fresh) (fetch (worded [] (replicate 8 x1 ++ (bad ∷ []))) memory) ∷ []) (9 ∷ []) ≡ true
unfolding everything
ninth-name-unread = refl

abbrev shaped : Text → ℕ → ℕ → ℕ → PipelineShape
shaped name extra n h = pipeline_shape [] None (timing extra 0 0 0 0 0 0) (unit_spec name [] Alu n ∷ []) h

abbrev make-order : List (Option ℕ)
make-order =
    make_refusal (shaped [] max64 1 257) 0 ∷ make_refusal (shaped [] max64 1 256) 0 ∷ make_refusal (shaped x1 max64 1 256) 0
    ∷ make_refusal (shaped x1 0 1 256) 0 ∷ make_refusal (shaped x1 0 1 256) memory ∷ []

order-of-making : in_order make-order (1 ∷ 2 ∷ 3 ∷ 13 ∷ 0 ∷ []) ≡ true
unfolding everything
order-of-making = refl

-- 65 units stand already, so that 1 holds with 12.
abbrev wide : State
wide = new (shaped x1 0 65 256) 0

abbrev capacity-order : List (Option ℕ)
capacity-order =
    refusal (opened wide) (capacity 1 1) ∷ refusal wide (capacity 1 1) ∷ refusal fresh (capacity 0 65) ∷ refusal fresh (capacity 0 64) ∷ []

order-of-capacity : in_order capacity-order (4 ∷ 12 ∷ 1 ∷ 0 ∷ []) ≡ true
unfolding everything
order-of-capacity = refl

abbrev retry-order : List (Option ℕ)
retry-order =
    refusal fresh (retry bad) ∷ refusal (opened fresh) (retry bad) ∷ refusal (opened (offering fresh)) (retry bad)
    ∷ refusal (opened (offering fresh)) (retry []) ∷ []

order-of-retry : in_order retry-order (5 ∷ 6 ∷ 2 ∷ 0 ∷ []) ≡ true
unfolding everything
order-of-retry = refl

abbrev advance-order : List (Option ℕ)
advance-order =
    refusal (offering fresh) (advance None 0) ∷ refusal (opened (offering fresh)) (advance None 0) ∷ refusal (opened fresh) (advance None 0)
    ∷ refusal (opened fresh) (advance None memory) ∷ []

order-of-advance : in_order advance-order (5 ∷ 7 ∷ 13 ∷ 0 ∷ []) ≡ true
unfolding everything
order-of-advance = refl

abbrev retire-order : List (Option ℕ)
retire-order = refusal fresh retire ∷ refusal (opened fresh) retire ∷ refusal (opened (offering fresh)) retire ∷ []

order-of-retire : in_order retire-order (5 ∷ 6 ∷ 0 ∷ []) ≡ true
unfolding everything
order-of-retire = refl

abbrev resolve-order : List (Option ℕ)
resolve-order = refusal fresh (resolve 0) ∷ refusal (opened fresh) (resolve 0) ∷ refusal (opened (offering fresh)) (resolve 0) ∷ []

order-of-resolve : in_order resolve-order (5 ∷ 6 ∷ 0 ∷ []) ≡ true
unfolding everything
order-of-resolve = refl

-- ── Counters stop at 2^64 - 1 ───────────────────────────────────────────────

abbrev counters : Stats → List ℕ
counters a =
    a.cycles ∷ a.committed ∷ a.stalls ∷ a.raw_stalls ∷ a.load_use_stalls ∷ a.branch_stalls ∷ a.functional_unit_stalls ∷ a.memory_stalls
    ∷ a.waw_stalls ∷ a.war_stalls ∷ a.flushes ∷ a.branches ∷ []

abbrev full : Stats
full = stats_of max64 max64 max64 max64 max64 max64 max64 max64 max64 max64 max64 max64

abbrev still_full : Stats → Bool
still_full a = list_all (eqb max64) (counters a)

abbrev hazards : List PipelineHazardKind
hazards =
    ReadAfterWrite ∷ LoadUse ∷ BranchFlush ∷ FunctionalUnitBusy ∷ MemoryLatency ∷ WriteAfterWrite ∷ WriteAfterRead ∷ []

counters-stop : (still_full (count_cycle full) && still_full (count_retired true full) && still_full (count_flush 2 full)) ≡ true
unfolding everything
counters-stop = refl

stall-counters-stop : list_all (λ (h : PipelineHazardKind). still_full (count_stall h full)) hazards ≡ true
unfolding everything
stall-counters-stop = refl

-- A row of 200 cells that began in cycle 2^64 - 1.
first_cycle-stops : eqb (add_cell (row_of 0 0 [] Alu max64 false 0 200)).first_cycle max64 ≡ true
unfolding everything
first_cycle-stops = refl

-- ── The nine wait texts ─────────────────────────────────────────────────────

-- The Rust's long dash.
abbrev dash : Text
dash = 0xE2 ∷ 0x80 ∷ 0x94 ∷ []

abbrev reads_as : Detail → Text → Bool
reads_as d t = same (render d) t

abbrev add : Text
add = bytes "add"

abbrev mul : Text
mul = bytes "mul"

text-of-war : reads_as (overwrites add x1 mul) (bytes "add may not overwrite x1 until mul has read it") ≡ true
unfolding everything
text-of-war = refl

text-of-memory-order
    : reads_as (memory_order (bytes "ld") (bytes "sd")) (bytes "ld waits for sd " ++ (dash ++ bytes " memory keeps program order")) ≡ true
unfolding everything
text-of-memory-order = refl

text-of-drain : reads_as (drains (bytes "ecall")) (bytes "ecall waits for the machine to drain") ≡ true
unfolding everything
text-of-drain = refl

text-of-raw : reads_as (waits_for add x1 (Some mul)) (bytes "add waits for x1 from mul") ≡ true
unfolding everything
text-of-raw = refl

text-of-raw-without : reads_as (waits_for add x1 None) (bytes "add waits for x1 from an older instruction") ≡ true
unfolding everything
text-of-raw-without = refl

text-of-branch : reads_as (behind_branch add) (bytes "add cannot issue behind an unresolved branch") ≡ true
unfolding everything
text-of-branch = refl

text-of-system : reads_as (behind_system add) (bytes "add waits " ++ (dash ++ bytes " a system instruction serializes")) ≡ true
unfolding everything
text-of-system = refl

text-of-waw : reads_as (still_writes add x1) (bytes "add must wait " ++ (dash ++ bytes " an older instruction still writes x1")) ≡ true
unfolding everything
text-of-waw = refl

text-of-busy : reads_as (all_busy (bytes "EX")) (bytes "all EX units are busy") ≡ true
unfolding everything
text-of-busy = refl

text-of-redirect : reads_as (redirect_to 0xBEEF) (bytes "redirect to 0xBEEF") ≡ true
unfolding everything
text-of-redirect = refl
