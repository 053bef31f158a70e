-- Lists of calls that differ in what is given to fetch, on the machine of document 01's case W: a multiply writes y, an alu reads y and x
-- and writes z, an alu writes x.
use Rattle.std.specs.Prelude.{ℕ, ◌+◌, true, false, List, [], ◌∷◌, ◌++◌, length, replicate, None, Some}
use Rattle.laws.specs.Texts.{Text, bytes}
use Rattle.capability.specs.declared.PipelineInstructionClass.{PipelineInstructionClass}
use Rattle.capability.specs.declared.PipelineInstructionClass.TheVariants.{Alu, Multiply}
use Rattle.capability.specs.declared.PipelineStageRole.TheVariants as role
use Rattle.capability.specs.Numbers.{phase_number}
use Rattle.model.specs.Config.{PipelineShape, pipeline_shape, timing, unit_spec}
use Rattle.model.specs.Op.{Info, decoded, given, info_of}
use Rattle.model.specs.Units.{FunctionalUnit}
use Rattle.model.specs.State.{Stats}
use Rattle.model.specs.Requests.{disassembly, slot_text, in_queue, status_message, trace_detail}
use Rattle.model.specs.Calls.{Call, advance, cell, fetch, halt, overlap, queued, rename, resolve, retire, retry, start, station, text, view}
use Rattle.renaming.specs.Recording.{Entry}

abbrev pub sample : PipelineShape
sample =
    pipeline_shape (role.Fetch ∷ role.Decode ∷ role.Execute ∷ []) None (timing 0 2 0 0 0 0 0) (unit_spec (bytes "EX") [] Alu 3 ∷ []) 4

-- 200 bytes a row.
abbrev pub lent : List ℕ
lent = replicate 800 0

-- By two names, a text and a payload.
module _ (x y t : Text) (p : ℕ) where
  abbrev pub sample_info : List Text → List Text → Info
  sample_info rs ws = info_of t None (Some x) rs ws p

  -- What the accepted fetches are given.
  abbrev pub sample_infos : List Info
  sample_infos = sample_info [] (y ∷ []) ∷ sample_info (y ∷ x ∷ []) (bytes "z" ∷ []) ∷ sample_info [] (x ∷ []) ∷ []

  abbrev op : ℕ → PipelineInstructionClass → List Text → List Text → Call
  op a c rs ws = fetch (given (decoded a 4 c false false) (sample_info rs ws)) 800

  abbrev next : Call
  next = advance None 800

  -- The fetch inside a cycle is refused. The first operation is offered in cycle 8, tried again, and retired in cycle 9.
  abbrev pub sample_calls : List Call
  sample_calls =
      overlap true ∷ start ∷ next ∷ op 0 Multiply [] (y ∷ []) ∷ start ∷ op 4 Alu [] [] ∷ next
      ∷ op 4 Alu (y ∷ x ∷ []) (bytes "z" ∷ []) ∷ start ∷ next ∷ op 8 Alu [] (x ∷ [])
      ∷ text (slot_text (in_queue 0) disassembly) (64 + p) ∷ start ∷ next ∷ view (queued 0) ∷ start ∷ next ∷ view (rename 0)
      ∷ view (station 1) ∷ text (trace_detail 0) (200 + p) ∷ start ∷ next ∷ start ∷ next ∷ start ∷ retry t
      ∷ text status_message (64 + p) ∷ next ∷ start ∷ retire ∷ resolve 4 ∷ next ∷ start ∷ next ∷ cell 0 2 800 ∷ halt ∷ []

-- ── The numbers of a recording ──────────────────────────────────────────────

module _ {A : Type 0} (f : A → List ℕ) where
  abbrev each : List A → List ℕ
  each [] = []
  each (x ∷ xs) = f x ++ each xs

abbrev of_stats : Stats → List ℕ
of_stats a = a.cycles ∷ a.committed ∷ a.stalls ∷ a.raw_stalls ∷ a.war_stalls ∷ a.waw_stalls ∷ []

abbrev of_unit : FunctionalUnit → List ℕ
of_unit u = phase_number u.phase ∷ length u.pending ∷ u.sources ++ u.destinations

abbrev pub of_look : (ℕ × List ℕ) → List ℕ
of_look l = l.0 ∷ l.1

-- Counters, units, what the looks gave, and the cell memory.
abbrev of_entry : Entry → List ℕ
of_entry e = of_stats e.left.log.stats ++ (each of_unit e.left.units ++ (each of_look e.gave ++ e.memory))

abbrev pub digest : List Entry → List ℕ
digest es = each of_entry es

-- What the looks gave.
abbrev pub looks_of : List Entry → List (ℕ × List ℕ)
looks_of [] = []
looks_of (e ∷ es) = e.gave ++ looks_of es
