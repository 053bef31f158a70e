-- A search over the places of the kinds.
use mathlib.Core.Path.{sym, ◌∙◌}
use lib.ListN.{drop_of_length-le}
use borrow.Author.Tests.{not-true, not-false}
use Rattle.laws.proofs.Search.{scan-next, scan-stop, scan-last, all-hit, all-miss, all_end}
use Rattle.decoding.specs.Machine.{kind_formed}
use Rattle.decoding.specs.Bytes.{places}
use Rattle.decoding.proofs.Places.{places-next}
use Rattle.std.proofs.Common.{ap, not}
use Rattle.decoding.proofs.form.kinds_formed.Goals as goal

pub returns-then-not-kind_formed : goal.returns-then-not-kind_formed
returns-then-not-kind_formed c = scan-stop c.loop-i.invariant (places-next 28 107 c.loop-i-test.true) (all-hit (kind_formed c.args.list.now) (sym c.kind_formed.ensures ∙ not-true _ (ap not c.if-not-kind_formed.true)))

pub loop-i-preserved : goal.loop-i-preserved
loop-i-preserved c = scan-next c.loop-i.invariant (places-next 28 107 c.loop-i-test.true) (all-miss (kind_formed c.args.list.now) (sym c.kind_formed.ensures ∙ not-false _ (ap not c.if-not-kind_formed.false)))

pub returns : goal.returns
unfolding places
returns c = scan-last c.loop-i.invariant (drop_of_length-le (places 28 16 107) c.loop-i-test.false) (all_end (kind_formed c.args.list.now))
