use Rattle.std.proofs.Common.{refl}
use Rattle.model.specs.Units.{with_busy}
use Rattle.bank.proofs.Steps.{units-set, place_kept, units-so}
use Rattle.bank.proofs.Units.set_busy.Goals as goal

pub returns : goal.returns
returns c = let ok = c.requires.units_ok in units-so (units-set ok (λ g. with_busy c.args.busy) _ c.requires.at_lt_len c.set_busy.ensures) (λ g. refl) (place_kept ok _ c.requires.at_lt_len)
