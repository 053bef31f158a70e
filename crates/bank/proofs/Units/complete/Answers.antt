use Rattle.std.proofs.Common.{ap}
use mathlib.Core.List.{map}
use Rattle.model.specs.Units.{clear, without_waits}
use Rattle.bank.proofs.Steps.{unit_ok, units-set, units-so}
use Rattle.bank.proofs.Units.complete.Goals as goal

pub clear-requires : goal.clear-requires
clear-requires c = unit_ok c.requires.units_ok _ c.requires.at_lt_len

pub without_waits-requires : goal.without_waits-requires
without_waits-requires c = (units-set c.requires.units_ok (λ g. clear) _ c.requires.at_lt_len c.clear.ensures).ok

pub returns : goal.returns
returns c =
    let e = units-set c.requires.units_ok (λ g. clear) _ c.requires.at_lt_len c.clear.ensures in
    units-so c.without_waits.ensures (λ g. ap (map (without_waits c.args.at)) (e.is g)) e.places
