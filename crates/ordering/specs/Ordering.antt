-- In a run of the program `forecast` no load or store waits for memory order.
use Rattle.std.specs.Prelude.{ℕ, ◌≡◌, Bool, true, false, List, [], ◌∷◌, replicate, None, Some}
use Rattle.laws.specs.Lists.{All}
use Rattle.laws.specs.Texts.{Text, bytes}
use Rattle.capability.specs.declared.PipelineHazardKind.TheVariants.{ReadAfterWrite, FunctionalUnitBusy, WriteAfterRead}
use Rattle.capability.specs.declared.PipelineInstructionClass.TheVariants.{Alu}
use Rattle.model.specs.Config.{default_timing, unit_spec, pipeline_shape}
use Rattle.model.specs.Traces.{Detail, overwrites, memory_order, drains, waits_for, behind_branch, behind_system, still_writes, all_busy, redirect_to, Trace, trace_of, ISSUE, READ, EXECUTE, WRITE}
use Rattle.model.specs.State.{new}
use Rattle.model.specs.Calls.{start, overlap}
use Rattle.model.specs.Forecast.{forecast_shape, Lent, lent_of, play, Run, not_made, line_refused, finished, going, retire_offer, cycle, forecast_run, forecast_of}
use Rattle.ending.specs.Ending.{begun}

-- ── The wait ────────────────────────────────────────────────────────────────

-- A finished load or store waits for an older one.
abbrev pub orders_memory : Detail → Bool
orders_memory (overwrites mine register reader) = false
orders_memory (memory_order mine older) = true
orders_memory (drains mine) = false
orders_memory (waits_for mine register producer) = false
orders_memory (behind_branch mine) = false
orders_memory (behind_system mine) = false
orders_memory (still_writes mine register) = false
orders_memory (all_busy kind) = false
orders_memory (redirect_to target) = false

-- None of these waits is one for memory order.
abbrev pub NoneOrders : List Trace → Type 0
NoneOrders ts = All (λ (t : Trace). orders_memory t.detail ≡ false) ts

-- The waits that are listed.
abbrev pub waits : Lent → List Trace
waits e = e.engine.log.traces

-- The same, of a run: none where there is no engine, or no longer one.
abbrev pub waits_of : Run → List Trace
waits_of (not_made r m) = []
waits_of (line_refused n r m) = []
waits_of (finished e) = waits e
waits_of (going e rest n) = waits e

-- ── The statement ───────────────────────────────────────────────────────────

pub record Ordering (input : Text) (cells : List ℕ) : Type 0 where
  -- After k turns, and at the end.
  pub between_turns : (k : ℕ) → NoneOrders (waits_of (forecast_run k (begun input cells)))
  pub at_the_end : NoneOrders (waits_of (forecast_of input cells))
  -- In the turn after k, also where its line is refused: when the cycle has started, when an offer is retired, and after the advance.
  pub after_start
      : (k : ℕ) (e : Lent) (rest : Text) (n : ℕ) → forecast_run k (begun input cells) ≡ going e rest n → NoneOrders (waits (play start e))
  pub after_retire
      : (k : ℕ) (e : Lent) (rest : Text) (n : ℕ) → forecast_run k (begun input cells) ≡ going e rest n
      → NoneOrders (waits (retire_offer (play start e)))
  pub after_advance
      : (k : ℕ) (e : Lent) (rest : Text) (n : ℕ) → forecast_run k (begun input cells) ≡ going e rest n → NoneOrders (waits (cycle e))

-- ── What does come ──────────────────────────────────────────────────────────

-- The run of the same program on a machine of three units, before its first turn.
abbrev pub three_begun : Text → Run
three_begun input =
    going
    (play (overlap true)
    (lent_of (new (pipeline_shape forecast_shape.stages None default_timing (unit_spec (bytes "EX") [] Alu 3 ∷ []) 256) 0) (replicate 51200 255)))
    input 0

-- Other waits come: an addition that is to write x1 waits for a division that reads it.
abbrev pub OverwritingWaits : Type 0
OverwritingWaits =
    waits_of (forecast_run 7 (begun (bytes "D 4 x1 - divide\nA 4 - x1 add") (replicate 51200 255)))
    ≡ trace_of WriteAfterRead READ WRITE (overwrites (bytes "add") (bytes "x1") (bytes "divide")) ∷ []

-- With a third unit this one comes too: a load that is finished waits for an older one that still waits for its address.
abbrev pub ThirdUnitOrders : Type 0
ThirdUnitOrders =
    waits_of (forecast_run 8 (three_begun (bytes "D 4 - x1 divide\nL 4 x1 - first\nL 4 - - second")))
    ≡ trace_of FunctionalUnitBusy READ WRITE (memory_order (bytes "second") (bytes "first"))
    ∷ trace_of ReadAfterWrite EXECUTE ISSUE (waits_for (bytes "first") (bytes "x1") (Some (bytes "divide"))) ∷ []
