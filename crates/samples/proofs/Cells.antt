-- A cell that Digest reads from a row's own bytes is the byte that the model's cell view reads from the cell memory.
use Prim.Native.Nat.{ℕ, ◌+◌, ◌%◌}
use mathlib.Core.Path.{◌≡◌, ap}
use mathlib.Core.Bool.{cond}
use Rattle.std.specs.Prelude.{Option, None}
use mathlib.Core.List.{List}
use lib.Dec.{ltb}
use lib.ListN.{drop}
use Rattle.laws.proofs.Slices.{nth_drop}
use Rattle.model.specs.Timeline.{Row, slot, cell_place, cell_at}
use Rattle.samples.specs.Digest.{cell_in}

pub same-cell : (history : ℕ) (w : Row) (m : List ℕ) (c : ℕ) → cell_in w (drop (slot history w.id) m) c ≡ cell_at history w m c
unfolding cell_in cell_at cell_place
same-cell history w m c =
    ap (λ (x : Option ℕ). cond (ltb c w.count) x None) (nth_drop m (slot history w.id) ((w.oldest_at + c) % 200))
