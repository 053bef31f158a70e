-- The answers about the result on offer, whatever texts and names stand behind the numbers.
use Rattle.std.specs.Prelude.{ℕ, ◌≡◌, true, List, Option, Some, option_map}
use Rattle.laws.specs.Texts.{Text}
use Rattle.model.specs.Op.{Op}
use Rattle.model.specs.Units.{unit_at}
use Rattle.model.specs.Write.{resolve_branch}
use Rattle.model.specs.Calls.{Answer, resolved}
use Rattle.model.specs.Views.{OfferView as ModelOffer, offer_view}
use Rattle.flight.specs.declared.pool.Decoded.{Decoded}
use Rattle.flight.specs.declared.pool.DecodedPool.{DecodedPool}
use Rattle.flight.specs.declared.pool.TextPool.{TextPool}
use Rattle.flight.specs.Pool.{legend}
use Rattle.units.specs.declared.Unit.{Unit as Slot}
use Rattle.bank.specs.declared.Units.{Units}
use Rattle.bank.specs.View.{view_units}
use Rattle.board.specs.declared.Board.{Board}
use Rattle.engine.specs.declared.OfferView.{OfferView}
use Rattle.engine.specs.View.{view_offer}

abbrev pub offer_with : Slot → Decoded → ModelOffer
offer_with u d =
    record {
      seq = u.seq;
      address = d.address;
      size = d.length;
      class = u.class;
      branch = u.redirects;
      atomic = d.atomic;
      predicted_next = d.predicted_next;
      payload = d.payload;
    }

-- The operation on offer: that of a unit, if there is one.
abbrev pub op_on_offer : DecodedPool → TextPool → List Text → Units → Option ℕ → Option Op
op_on_offer ds ts ns us w = option_map (λ (i : ℕ). (unit_at (view_units (legend ds ts ns) us) i).op) w

-- What is offered of it.
abbrev pub Offers : Board → DecodedPool → Option OfferView → Type 0
Offers b ds r =
    (ts : TextPool) (ns : List Text) → option_map view_offer r ≡ option_map offer_view (op_on_offer ds ts ns b.units b.offer.writing)

-- In a cycle, with a unit on offer: where to go instead, by the units and the pool alone.
abbrev pub ResolvesOffer : Board → DecodedPool → ℕ → Answer → Type 0
ResolvesOffer b ds actual a =
    b.front.in_cycle ≡ true → (i : ℕ) → b.offer.writing ≡ Some i → (ts : TextPool) (ns : List Text)
    → a ≡ resolved (resolve_branch (op_on_offer ds ts ns b.units b.offer.writing) actual)
