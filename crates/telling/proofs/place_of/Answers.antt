use Rattle.std.proofs.Common.{◌≡◌, None, Some, arith, slice_get}
use Rattle.std.proofs.lemmas.Grind.{common_steps}
use Rattle.std.proofs.lemmas.Option.{gets}
use Rattle.bank.specs.View.{slots}
use Rattle.telling.proofs.Heard.{place_found, place_none}
use Rattle.telling.proofs.place_of.Goals as goal

pub returns-in-Some : goal.returns-in-Some
returns-in-Some c =
    let e : slice_get (slots c.args.units.now) c.args.unit ≡ Some c.in-Some.u.now = grind (arith, common_steps, gets) in
    place_found _ _ e

pub returns-in-None : goal.returns-in-None
returns-in-None c =
    let e : slice_get (slots c.args.units.now) c.args.unit ≡ None = grind (arith, common_steps, gets) in
    place_none _ _ e
