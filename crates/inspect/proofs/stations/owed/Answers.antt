-- The unit of the first that has the register.
use Rattle.std.proofs.Common.{rules, ◌≡◌, ◌==◌, ap, ◌∙◌, option_map}
use borrow.Author.Tests.{tests}
use Rattle.std.proofs.lemmas.Iterator.{YieldsList-from_slice}
use Rattle.std.proofs.lemmas.Iterator.Search.{find_from_yields_List}
use Rattle.inspect.proofs.Station.{owed_found}
use Rattle.inspect.proofs.stations.owed.Goals as goal

pub returns : goal.returns
returns c =
    let found = find_from_yields_List (λ p. p.register == c.args.register) _ _ c.find.result c.find.ensures.ran (YieldsList-from_slice c.args.pending.now cc)
    (λ x b q k. search (rules, tests)) in
    let mapped : c.map.result ≡ option_map (λ p. p.unit) (option_map (λ x. x.now) c.find.result) = search rules in
    owed_found c.args.register c.args.pending.now (mapped ∙ ap (option_map (λ p. p.unit)) found)
