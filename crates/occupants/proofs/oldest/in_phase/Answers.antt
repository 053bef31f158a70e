-- The least of the units in the phase, by their numbers.
use Rattle.std.proofs.Common.{rules, ◌∙◌}
use Rattle.std.proofs.lemmas.Iterator.{YieldsList-from_slice}
use Rattle.std.proofs.lemmas.Iterator.Consumers.{YieldsList-from_filter}
use Rattle.model.specs.Units.{in_phase, seq_of}
use Rattle.units.specs.View.{view_unit}
use Rattle.bank.specs.View.{slots}
use Rattle.occupants.proofs.Least.{least_from}
use Rattle.occupants.proofs.Seen.{oldest_means}
use Rattle.occupants.proofs.oldest.in_phase.Goals as goal

pub returns : goal.returns
returns c = oldest_means c.requires (in_phase c.args.phase) (λ g.
    c.copied.ensures ∙ least_from (λ y. y.now) (λ u. seq_of (view_unit g u)) (λ x k h p. search rules) c.min_by_key.result c.min_by_key.ensures.ran
    (YieldsList-from_filter _ (λ u. in_phase c.args.phase (view_unit g u)) (YieldsList-from_slice (slots c.args.units.now) cc) c.filter.ensures.closure
    (λ x b h p. search rules)))
