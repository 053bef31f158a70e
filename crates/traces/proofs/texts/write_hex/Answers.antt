-- Hexadecimal digits, of which 16 are enough.
use mathlib.Core.Path.{ap}
use mathlib.Core.List.{◌++◌}
use native.Mathlib.Omega.{arith}
use Rattle.traces.proofs.Written.{wrote_as, hexadecimal-digits}
use Rattle.traces.proofs.texts.write_hex.Goals as goal

pub returns : goal.returns
returns c = wrote_as (ap (λ t. c.args.name.now ++ t) (hexadecimal-digits c.args.number (omega arith))) c.write_number.ensures
