-- timeline.rs, `Trace`: an entry of a cycle's wait list, and its text as scoreboard.rs formats it.
use Rattle.std.specs.Prelude.{ℕ, ◌++◌, Option}
use Rattle.laws.specs.Optional.{value_or}
use Rattle.laws.specs.Texts.{Text, bytes, hexadecimal}
use Rattle.capability.specs.declared.PipelineHazardKind.{PipelineHazardKind}

-- A wait text by its form and its words.
pub data Detail : Type 0 where
  -- writer, register, reader
  overwrites : Text → Text → Text → Detail
  -- access, older access
  memory_order : Text → Text → Detail
  drains : Text → Detail
  -- reader, register, producer if there is one
  waits_for : Text → Text → Option Text → Detail
  behind_branch : Text → Detail
  behind_system : Text → Detail
  -- writer, register
  still_writes : Text → Text → Detail
  -- kind
  all_busy : Text → Detail
  redirect_to : ℕ → Detail

unfoldable pub render : Detail → Text
render (overwrites mine register reader) =
    mine ++ (bytes " may not overwrite " ++ (register ++ (bytes " until " ++ (reader ++ bytes " has read it"))))
render (memory_order mine older) = mine ++ (bytes " waits for " ++ (older ++ bytes " — memory keeps program order"))
render (drains mine) = mine ++ bytes " waits for the machine to drain"
render (waits_for mine register producer) =
    mine ++ (bytes " waits for " ++ (register ++ (bytes " from " ++ value_or (bytes "an older instruction") producer)))
render (behind_branch mine) = mine ++ bytes " cannot issue behind an unresolved branch"
render (behind_system mine) = mine ++ bytes " waits — a system instruction serializes"
render (still_writes mine register) = mine ++ (bytes " must wait — an older instruction still writes " ++ register)
render (all_busy kind) = bytes "all " ++ (kind ++ bytes " units are busy")
render (redirect_to target) = bytes "redirect to 0x" ++ hexadecimal target

-- Trace: from and to are stages.
pub record Trace : Type 0 where
  pub kind : PipelineHazardKind
  pub from : ℕ
  pub to : ℕ
  pub detail : Detail

abbrev pub trace_of : PipelineHazardKind → ℕ → ℕ → Detail → Trace
trace_of k f t d = record { kind = k; from = f; to = t; detail = d }

-- The stages of SCOREBOARD_PHASES.
abbrev pub FETCH : ℕ
FETCH = 0

abbrev pub ISSUE : ℕ
ISSUE = 1

abbrev pub READ : ℕ
READ = 2

abbrev pub EXECUTE : ℕ
EXECUTE = 3

abbrev pub WRITE : ℕ
WRITE = 4
