-- Wrong engines, to see which of them demand 3 shuts out by itself (proofs/WrongEngines).
use Rattle.std.specs.Prelude.{ℕ, Bool, true, false, cond, List, [], ◌∷◌, ◌++◌, map, eqb, None}
use Rattle.std.specs.List.{list_any}
use Rattle.laws.specs.Texts.{Text, bytes, same}
use Rattle.capability.specs.declared.PipelineInstructionClass.TheVariants.{Alu}
use Rattle.model.specs.Config.{PipelineShape, default_timing, pipeline_shape}
use Rattle.model.specs.Op.{Info, decoded, given, info_of}
use Rattle.model.specs.Scoreboard.{set_enabled}
use Rattle.model.specs.Calls.{Call, advance, done, fetch, start, refusal, answer, after, memory_after, looks}
use Rattle.runs.specs.Runs.{accepted, given_to}
use Rattle.renaming.specs.Recording.{Engine}

-- It says "done" to every call, changes nothing and looks at nothing.
abbrev pub idle : Engine
idle =
    record {
      refusal = λ s c. None;
      answer = λ s m c. done;
      after = λ s c. s;
      memory_after = λ s c m. m;
      looks = λ s c. [];
    }

-- The engine of demands 1 and 2, but what is given to an accepted fetch turns overlap on, where it passes a test.
abbrev pub reading : (Info → Bool) → Engine
reading p =
    record {
      refusal = refusal;
      answer = answer;
      after = λ s c. cond (list_any p (accepted s c)) (set_enabled true (after s c)) (after s c);
      memory_after = memory_after;
      looks = looks;
    }

abbrev pub payload_is_1 : Info → Bool
payload_is_1 i = eqb i.payload 1

abbrev pub writes_x : Info → Bool
writes_x i = list_any (same (bytes "x")) i.writes

-- As idle, but it looks at each operation that is fetched, under the number 0, and gives every register the number 0.
abbrev pub looks_given : Call → List (ℕ × List ℕ)
looks_given c = map (λ (i : Info). (0, map (λ (a : Text). 0) (i.sources ++ i.writes))) (given_to c)

abbrev pub all_0 : Engine
all_0 =
    record {
      refusal = λ s c. None;
      answer = λ s m c. done;
      after = λ s c. s;
      memory_after = λ s c m. m;
      looks = λ s c. looks_given c;
    }

-- ── Calls on a machine of one unit and one row ──────────────────────────────

abbrev pub small : PipelineShape
small = pipeline_shape [] None default_timing [] 1

abbrev pub fetch_one : List Text → ℕ → Call
fetch_one ws p = fetch (given (decoded 0 4 Alu false false) (info_of [] None None [] ws p)) 200

-- A fetch that no look follows.
abbrev pub unlooked : List Text → ℕ → List Call
unlooked ws p = start ∷ advance None 200 ∷ fetch_one ws p ∷ []
