-- A name has at most 8 bytes, so it is written whole; where there is none nothing is put.
use mathlib.Core.Path.{sym}
use native.Mathlib.Omega.{arith}
use lib.Seq.{length-take-le}
use Rattle.pages.proofs.Laid.{laid_as, wrote-front, wrote_count}
use Rattle.pages.proofs.Lengths.{short-labels}
use Rattle.pages.proofs.put_label.Goals as goal

pub slice_bounds-name-end : goal.slice_bounds-name-end
slice_bounds-name-end c =
    let h = short-labels c.requires.machine_ok c.args.label in
    omega (arith, wrote_count _ h c.write_cell_label.ensures c.unwrap_or.ensures c.unwrap_or-size.ensures, h, c.write_cell_label.auto.out)

pub slice_bounds-put-end : goal.slice_bounds-put-end
slice_bounds-put-end c =
    let h = short-labels c.requires.machine_ok c.args.label in
    let count = wrote_count _ h c.write_cell_label.ensures c.unwrap_or.ensures c.unwrap_or-size.ensures in
    sym (length-take-le _ _ (omega (arith, count, h, c.write_cell_label.auto.out)))

pub returns : goal.returns
returns c =
    let h = short-labels c.requires.machine_ok c.args.label in
    laid_as (wrote-front _ h c.write_cell_label.ensures c.unwrap_or.ensures c.unwrap_or-size.ensures) c.put.ensures
