-- As many as pass.
use Rattle.std.proofs.Common.{rules}
use Rattle.std.proofs.lemmas.Iterator.{YieldsList-from_slice}
use Rattle.std.proofs.lemmas.Iterator.Consumers.{YieldsList-from_filter, count_from_yields_List}
use Rattle.model.specs.Views.{in_kind}
use Rattle.units.specs.View.{view_unit}
use Rattle.bank.specs.View.{slots}
use Rattle.occupants.proofs.Seen.{units_count}
use Rattle.occupants.proofs.oldest.active.Goals as goal

pub returns : goal.returns
returns c = units_count (in_kind c.args.kind) c.args.units.now (λ g.
    count_from_yields_List {v = λ y. y.now} _ c.count.result c.count.ensures.ran
    (YieldsList-from_filter _ (λ u. in_kind c.args.kind (view_unit g u)) (YieldsList-from_slice (slots c.args.units.now) cc) c.filter.ensures.closure
    (λ x b h p. search rules)))
