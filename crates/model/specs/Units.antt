-- scoreboard.rs, `Unit`: a functional unit, the scoreboard row that tracks it, and what a cycle does to one unit alone.
-- Rust's Option of an operation is the flag `busy` beside it: while a unit's result is on offer the flag is off and the operation stays.
use Rattle.std.specs.Prelude.{ℕ, zero, suc, ◌-◌, Bool, true, false, cond, not, ◌&&◌, List, [], ◌∷◌, ◌++◌, eqb, None, Some, slice_get}
use Rattle.laws.specs.Optional.{value_or}
use Rattle.laws.specs.Lists.{is_empty, keep}
use Rattle.laws.specs.Numbers.{max64}
use Rattle.capability.specs.declared.PipelineInstructionClass.{PipelineInstructionClass}
use Rattle.capability.specs.declared.PipelineInstructionClass.TheVariants.{Unknown}
use Rattle.capability.specs.declared.PipelineHazardKind.{PipelineHazardKind}
use Rattle.capability.specs.declared.PipelineHazardKind.TheVariants.{ReadAfterWrite}
use Rattle.capability.specs.declared.Phase.{Phase}
use Rattle.capability.specs.declared.Phase.TheVariants.{Wait, Read, Execute, Write}
use Rattle.capability.specs.Numbers.{phase_number}
use Rattle.model.specs.Config.{UnitSpec}
use Rattle.model.specs.Op.{Op, no_op, with_hazard, with_cycles}

-- Unit. `spec` is its kind, `instance` its number within the kind; `pending` has (register, unit that owes it).
pub record FunctionalUnit : Type 0 where
  pub spec : ℕ
  pub instance : ℕ
  pub class : PipelineInstructionClass
  pub redirects : Bool
  pub busy : Bool
  pub op : Op
  pub phase : Phase
  pub sources : List ℕ
  pub destinations : List ℕ
  pub pending : List (ℕ × ℕ)

abbrev pub unit_of
    : ℕ → ℕ → PipelineInstructionClass → Bool → Bool → Op → Phase → List ℕ → List ℕ → List (ℕ × ℕ) → FunctionalUnit
unit_of s n c r b o p ss ds ws =
    record {
      spec = s;
      instance = n;
      class = c;
      redirects = r;
      busy = b;
      op = o;
      phase = p;
      sources = ss;
      destinations = ds;
      pending = ws;
    }

abbrev pub with_busy : Bool → FunctionalUnit → FunctionalUnit
with_busy b u =
    unit_of u.spec u.instance u.class u.redirects b u.op u.phase u.sources u.destinations u.pending

abbrev pub with_op : Op → FunctionalUnit → FunctionalUnit
with_op o u =
    unit_of u.spec u.instance u.class u.redirects u.busy o u.phase u.sources u.destinations u.pending

abbrev pub with_progress : Op → Phase → FunctionalUnit → FunctionalUnit
with_progress o p u =
    unit_of u.spec u.instance u.class u.redirects u.busy o p u.sources u.destinations u.pending

abbrev pub with_pending : List (ℕ × ℕ) → FunctionalUnit → FunctionalUnit
with_pending ws u =
    unit_of u.spec u.instance u.class u.redirects u.busy u.op u.phase u.sources u.destinations ws

-- Unit::idle
unfoldable pub idle_unit : ℕ → ℕ → FunctionalUnit
idle_unit s n = unit_of s n Unknown false false no_op Wait [] [] []

-- Unit::clear
unfoldable pub clear : FunctionalUnit → FunctionalUnit
clear u = idle_unit u.spec u.instance

unfoldable pub is_busy : FunctionalUnit → Bool
is_busy u = u.busy

unfoldable pub unit_op : FunctionalUnit → Op
unit_op u = u.op

-- Unit::seq
unfoldable pub seq_of : FunctionalUnit → ℕ
seq_of u = cond u.busy u.op.core.seq max64

-- Busy, and in that phase.
unfoldable pub in_phase : Phase → FunctionalUnit → Bool
in_phase p u = u.busy && eqb (phase_number u.phase) (phase_number p)

unfoldable pub unit_at : List FunctionalUnit → ℕ → FunctionalUnit
unit_at us i = value_or (idle_unit 0 0) (slice_get us i)

-- ── build_units ─────────────────────────────────────────────────────────────

unfoldable pub instances : ℕ → ℕ → ℕ → List FunctionalUnit
instances spec i zero = []
instances spec i (suc n) = idle_unit spec i ∷ instances spec (suc i) n

-- Counted from kind `spec`.
unfoldable pub build_units : ℕ → List UnitSpec → List FunctionalUnit
build_units spec [] = []
build_units spec (k ∷ ks) = instances spec 0 k.capacity ++ build_units (suc spec) ks

-- ── What a cycle does to one unit ───────────────────────────────────────────

unfoldable pub clear_hazard : FunctionalUnit → FunctionalUnit
clear_hazard u = with_op (with_hazard None u.op) u

unfoldable pub mark_hazard : PipelineHazardKind → FunctionalUnit → FunctionalUnit
mark_hazard h u = with_op (with_hazard (Some h) u.op) u

-- complete_write: no wait on unit i is left.
unfoldable pub without_waits : ℕ → FunctionalUnit → FunctionalUnit
without_waits i u = with_pending (keep (λ (p : ℕ × ℕ). not (eqb p.1 i)) u.pending) u

-- tick_execute: at 0 cycles left go to write, else one less.
unfoldable pub tick : FunctionalUnit → FunctionalUnit
tick u =
    with_progress
    (with_cycles (cond (in_phase Execute u) (u.op.core.cycles_left - 1) u.op.core.cycles_left) u.op)
    (cond (in_phase Execute u && eqb u.op.core.cycles_left 0) Write u.phase) u

-- start_ready
unfoldable pub begin : FunctionalUnit → FunctionalUnit
begin u =
    with_progress (with_cycles (cond (in_phase Read u) (u.op.core.cycles_left - 1) u.op.core.cycles_left) u.op)
    (cond (in_phase Read u) Execute u.phase) u

-- read_operands: without waits on to read, else a RAW hazard.
unfoldable pub waits : FunctionalUnit → Bool
waits u = in_phase Wait u && not (is_empty u.pending)

unfoldable pub read_one : FunctionalUnit → FunctionalUnit
read_one u =
    with_progress (with_hazard (cond (waits u) (Some ReadAfterWrite) u.op.core.hazard) u.op)
    (cond (in_phase Wait u && is_empty u.pending) Read u.phase) u

-- issue: the operation moves in, with its register numbers and its waits.
unfoldable pub occupy : Op → List ℕ → List ℕ → List (ℕ × ℕ) → FunctionalUnit → FunctionalUnit
occupy o r w p u =
    unit_of u.spec u.instance o.core.decoded.class o.core.decoded.branch true o Wait r w p

-- All of these unfold where a line says `unfolding units`.
unfoldable pub units : Unit {0}
unfolding idle_unit clear is_busy unit_op seq_of in_phase unit_at instances build_units clear_hazard mark_hazard without_waits tick begin
    waits read_one occupy
units = tt
