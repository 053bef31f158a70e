-- A list of bytes as a machine and the calls on it.
use Rattle.std.specs.Prelude.{ℕ, zero, suc, ◌+◌, Bool, true, false, cond, ◌&&◌, List, [], ◌∷◌, eqb, ltb, leb, length, Option, None, Some}
use Rattle.model.specs.Config.{PipelineShape}
use Rattle.model.specs.Calls.{Call}
use Rattle.decoding.specs.Machine.{shape_at, entry_at, making_lent, machine_formed}
use Rattle.decoding.specs.Calls.{size_at, call_at, formed_at}

-- The calls from a place to the end. The fuel is never the reason to stop where it is at least the bytes left: a call has one or more.
unfoldable pub calls_at : ℕ → List ℕ → ℕ → List Call
calls_at zero l at = []
calls_at (suc fuel) l at = elim (ltb at (length l)) [ true ↦ call_at l at ∷ calls_at fuel l (at + size_at l at) | false ↦ [] ]

-- Each is of its form, and the last ends where the list does.
unfoldable pub all_formed : ℕ → List ℕ → ℕ → Bool
all_formed zero l at = eqb at (length l)
all_formed (suc fuel) l at =
    elim (ltb at (length l)) [ true ↦ formed_at l at && all_formed fuel l (at + size_at l at) | false ↦ eqb at (length l) ]

pub record Script : Type 0 where
  pub shape : PipelineShape
  pub entry : ℕ
  -- Bytes of cell memory lent to making.
  pub lent : ℕ
  pub calls : List Call

unfoldable pub script_of : List ℕ → Script
script_of l =
    record { shape = shape_at l; entry = entry_at l; lent = making_lent l; calls = calls_at (length l) l 555 }

unfoldable pub list_formed : List ℕ → Bool
list_formed l = leb (length l) 16777216 && (machine_formed l && all_formed (length l) l 555)

-- None where the list is not of its form.
unfoldable pub decode : List ℕ → Option Script
decode l = cond (list_formed l) (Some (script_of l)) None

-- All of these unfold where a line says `unfolding scripts`.
unfoldable pub scripts : Unit {0}
unfolding calls_at all_formed script_of list_formed decode
scripts = tt
