use Rattle.std.proofs.Common.{◌≡◌, Some, rules}
use Rattle.offering.proofs.Answers.{on_offer_inside, unit_offers}
use Rattle.offering.proofs.offered.Goals as goal

pub returns : goal.returns
returns c ts ns =
    let p : c.args.board.now.offer.writing ≡ Some c.in_ok-u.field-0 = search rules in
    unit_offers c.args.decoded.now ts ns c.requires.units_ok p (on_offer_inside c.args.board.now c.requires.offer_inside p) _ c.at.ensures c.offer_view.ensures
