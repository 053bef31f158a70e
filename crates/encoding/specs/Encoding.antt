-- Every machine and list of calls within the limits has a byte form, and that form decodes to it.
use Rattle.std.specs.Prelude.{◌≡◌, false, [], ◌∷◌, length}
use Rattle.std.specs.Prelude.{None, Some}
use Rattle.laws.specs.Lists.{All}
use Rattle.laws.specs.Numbers.{max64}
use Rattle.capability.specs.declared.PipelineInstructionClass.TheVariants.{Alu, Unknown}
use Rattle.model.specs.Config.{timing, unit_spec, pipeline_shape}
use Rattle.model.specs.Op.{given, decoded, info_of}
use Rattle.model.specs.Calls.{Call, retire, retry, fetch}
use Rattle.decoding.specs.Calls.{size_at}
use Rattle.decoding.specs.Script.{Script, decode}
use Rattle.encoding.specs.Calls.{call_bytes, script_bytes}
use Rattle.encoding.specs.Limits.{Byte, WithinCall, Within}

abbrev pub Encodes : Type 0
Encodes = (s : Script) → Within s → decode (script_bytes s) ≡ Some s

-- The form is a list of bytes.
abbrev pub Bytewise : Type 0
Bytewise = (s : Script) → Within s → All Byte (script_bytes s)

-- A call has the size that the table says of its first byte.
abbrev pub Sized : Type 0
Sized = (c : Call) → WithinCall c → length (call_bytes c) ≡ size_at (call_bytes c) 0

-- The limits leave in what the engine refuses: 65 units, a kind without a name, the greatest extra, a long history, calls out of turn, bytes that no text may hold.
abbrev pub refused_script : Script
refused_script =
    record {
      shape = pipeline_shape [] None (timing max64 0 0 0 0 0 0) (unit_spec [] [] Alu 65 ∷ []) 257;
      entry = 0;
      lent = 0;
      calls = retire ∷ retry (0 ∷ 255 ∷ []) ∷ fetch (given (decoded 0 0 Unknown false false) (info_of [] None (Some (10 ∷ [])) [] [] 0)) 0 ∷ [];
    }

abbrev pub LeavesRefused : Type 0
LeavesRefused = Within refused_script
