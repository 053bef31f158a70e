-- What a pass over a list tells before anything is touched.
use Rattle.std.specs.Prelude.{Option, length, option_map}
use Rattle.decoding.specs.Script.{Script}
use Rattle.calls.specs.declared.Tally.{Tally}
use Rattle.calls.specs.Play.{cells_needed, out_needed}

-- Of a script.
abbrev pub tally : Script → Tally
tally d = record { calls = length d.calls; bytes = out_needed d; lent = cells_needed d }

-- None where the list is not of its form.
abbrev pub tally_of : Option Script → Option Tally
tally_of o = option_map tally o
