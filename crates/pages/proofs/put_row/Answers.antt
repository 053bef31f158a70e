-- Two numbers of at most 20 digits, and at most 200 cells of 10 bytes.
use Prim.Native.Nat.{ℕ, ◌+◌, ◌*◌, ◌≤◌}
use native.Mathlib.Omega.{arith}
use lib.ListN.{length}
use mathlib.Core.List.{List, [], ◌∷◌}
use Rattle.laws.specs.Texts.{bytes, utf8, decimal}
use Rattle.traces.specs.Texts.{Laid}
use Rattle.model.specs.Forecast.{lent_of}
use Rattle.timeline.specs.Cells.{bare}
use Rattle.traces.proofs.Written.{laid_next}
use Rattle.pages.proofs.Laid.{laid_as, laid-within}
use Rattle.pages.proofs.Lengths.{decimal-most, after-most}
use Rattle.pages.proofs.Cells.{of_size, cells-within}
use Rattle.pages.proofs.Rows.{row-parts}
use Rattle.pages.proofs.put_row.Goals as goal

-- Behind both numbers there is room for the cells.
room : {at p q : ℕ} {m n o : List ℕ} (id cycle : ℕ) → at + 2042 ≤ length m → Laid at (decimal id) m n p → Laid p (32 ∷ decimal cycle) n o q
    → (k : ℕ) → k ≤ 2001 → q + k ≤ length o
room id cycle z a b k h = laid-within b 21 k (after-most (32 ∷ []) cycle) (laid-within a 20 (21 + k) (decimal-most id) (omega (arith, z, h)))

pub put_after-b-requires : goal.put_after-b-requires
put_after-b-requires c = laid-within c.put_number-a.ensures 20 21 (decimal-most c.args.row.id) (omega arith)

pub put_cells-c-requires : goal.put_cells-c-requires
put_cells-c-requires c =
    let q = c.requires in
    record {
      machine_ok = q.machine_ok;
      window_ok = q.window_ok;
      history_value = q.history_value;
      history_in_bounds = q.history_in_bounds;
      cells_in_bounds = room c.args.row.id c.args.row.first_cycle c.requires.at_in_bounds c.put_number-a.ensures c.put_after-b.ensures (c.args.row.cells * 10) (omega (arith, q.cells_bound));
    }

pub put-requires : goal.put-requires
put-requires c =
    let a = c.args in
    let within = cells-within c.requires.machine_ok (bare a.row) a.cells.now a.row.cells c.put_cells-c.ensures in
    let few = c.requires.cells_bound in
    omega (arith, within, of_size a.machine.now c.put_cells-c.ensures, room c.args.row.id c.args.row.first_cycle c.requires.at_in_bounds c.put_number-a.ensures c.put_after-b.ensures (a.row.cells * 10 + 1) (omega (arith, few)))

pub returns : goal.returns
unfolding bytes utf8
returns c =
    let a = c.args in
    λ s e.
    laid_as (row-parts (lent_of s a.cells.now) (bare a.row))
    (laid_next c.put_number-a.ensures (laid_next c.put_after-b.ensures (laid_next (c.put_cells-c.ensures s e) c.put.ensures)))
