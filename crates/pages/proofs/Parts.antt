-- The totals and a refused line, by the parts that are put one behind the other.
use Prim.Native.Nat.{ℕ}
use mathlib.Core.Path.{◌≡◌}
use mathlib.Core.List.{◌++◌, append_assoc}
use Rattle.laws.specs.Texts.{bytes, decimal}
use Rattle.model.specs.State.{Stats}
use Rattle.model.specs.Forecast.{totals_text, refused_text}

pub totals-parts : (a : Stats)
    → bytes "cycles " ++ decimal a.cycles
    ++ (bytes " committed " ++ decimal a.committed ++ (bytes " stalls " ++ decimal a.stalls ++ bytes "\n"))
    ≡ totals_text a
unfolding totals_text
totals-parts a = simp append_assoc

pub refused-parts : (n r : ℕ) → bytes "line " ++ decimal n ++ (bytes " refused " ++ decimal r ++ bytes "\n") ≡ refused_text n r
unfolding refused_text
refused-parts n r = simp append_assoc
