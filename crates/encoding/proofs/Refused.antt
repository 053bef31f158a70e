-- What the engine refuses is within the limits: an example, which also shows that something is.
use native.Mathlib.Omega.{arith}
use mathlib.Core.Path.{◌≡◌, refl}
use mathlib.Core.List.{flatten}
use lib.ListN.{length}
use Rattle.laws.specs.Lists.{All, keep}
use Rattle.std.specs.List.{list_any}
use Rattle.capability.specs.Numbers.{class_number}
use Rattle.config.specs.View.{flag, flagged}
use Rattle.encoding.specs.Parts.{low_bytes, number_bytes, flag_bytes, class_bytes, role_bytes, filled, text_bytes, optional_bytes, parts_bytes}
use Rattle.encoding.specs.Records.{flags_of, op_bytes, kind_bytes, machine_bytes}
use Rattle.encoding.specs.Calls.{call_bytes, script_bytes}
use Rattle.encoding.specs.Limits.{WithinCall}
use Rattle.encoding.specs.Encoding.{refused_script, LeavesRefused}

-- 555 and 1, 66 and 391.
refused-size : length (script_bytes refused_script) ≡ 1013
unfolding script_bytes machine_bytes call_bytes op_bytes kind_bytes flags_of flatten low_bytes number_bytes flag_bytes class_bytes role_bytes filled
    text_bytes optional_bytes parts_bytes
refused-size = refl

refused-calls : All WithinCall refused_script.calls
refused-calls = omega arith

pub leaves-refused : LeavesRefused
unfolding flags_of flagged flag keep class_number
leaves-refused =
    record {
      shape = record {
        stages = omega arith;
        instruction_bytes = tt;
        times = omega arith;
        units = (omega arith, (record { name = (omega arith, tt); classes = refl; capacity = omega arith }, tt));
        history = omega arith;
      };
      entry = omega arith;
      lent = omega arith;
      calls = refused-calls;
      size = omega (arith, refused-size);
    }
