-- Each number has at most 20 digits.
use native.Mathlib.Omega.{arith}
use Rattle.laws.specs.Texts.{bytes, utf8}
use Rattle.stalls.specs.View.{view_stats}
use Rattle.traces.proofs.Written.{laid_next}
use Rattle.pages.proofs.Laid.{laid_as, laid-within}
use Rattle.pages.proofs.Lengths.{after-most}
use Rattle.pages.proofs.Parts.{totals-parts}
use Rattle.pages.proofs.put_totals.Goals as goal

pub put_after-b-requires : goal.put_after-b-requires
unfolding bytes utf8
put_after-b-requires c = laid-within c.put_after-a.ensures 27 31 (after-most (bytes "cycles ") c.args.stats.cycles) (omega arith)

pub put_after-c-requires : goal.put_after-c-requires
unfolding bytes utf8
put_after-c-requires c = laid-within c.put_after-b.ensures 31 28 (after-most (bytes " committed ") c.args.stats.committed)
    (laid-within c.put_after-a.ensures 27 59 (after-most (bytes "cycles ") c.args.stats.cycles) (omega arith))

pub put-requires : goal.put-requires
unfolding bytes utf8
put-requires c = laid-within c.put_after-c.ensures 28 1 (after-most (bytes " stalls ") c.args.stats.stalls)
    (laid-within c.put_after-b.ensures 31 29 (after-most (bytes " committed ") c.args.stats.committed)
    (laid-within c.put_after-a.ensures 27 60 (after-most (bytes "cycles ") c.args.stats.cycles) (omega arith)))

pub returns : goal.returns
unfolding bytes utf8 view_stats
returns c = let a = c.args in
    laid_as (totals-parts (view_stats a.stats))
    (laid_next c.put_after-a.ensures (laid_next c.put_after-b.ensures (laid_next c.put_after-c.ensures c.put.ensures)))
