-- Both numbers have at most 20 digits.
use native.Mathlib.Omega.{arith}
use Rattle.laws.specs.Texts.{bytes, utf8}
use Rattle.traces.proofs.Written.{laid_next}
use Rattle.pages.proofs.Laid.{laid_as, laid-within}
use Rattle.pages.proofs.Lengths.{after-most}
use Rattle.pages.proofs.Parts.{refused-parts}
use Rattle.pages.proofs.put_refused.Goals as goal

pub put_after-b-requires : goal.put_after-b-requires
unfolding bytes utf8
put_after-b-requires c = laid-within c.put_after-a.ensures 25 29 (after-most (bytes "line ") c.args.line) (omega arith)

pub put-requires : goal.put-requires
unfolding bytes utf8
put-requires c = laid-within c.put_after-b.ensures 29 1 (after-most (bytes " refused ") c.args.number)
    (laid-within c.put_after-a.ensures 25 30 (after-most (bytes "line ") c.args.line) (omega arith))

pub returns : goal.returns
unfolding bytes utf8
returns c = let a = c.args in
    laid_as (refused-parts a.line a.number) (laid_next c.put_after-a.ensures (laid_next c.put_after-b.ensures c.put.ensures))
