-- The operation on offer, as the code reads it; what it answers of it.
use Prim.Native.Nat.{ℕ, ◌<◌}
use mathlib.Core.Path.{◌≡◌, refl, sym, subst, ap, ap₂, ◌∙◌}
use mathlib.Core.Bool.{Bool, true, false, cond, not, ◌&&◌}
use mathlib.Core.List.{List, [], ◌∷◌}
use Rattle.std.specs.Prelude.{Option, None, Some, option_map}
use Rattle.std.specs.Option.{IfSome}
use lib.Dec.{eqb, ltb}
use lib.ListN.{get_or}
use Rattle.laws.specs.Optional.{is_none}
use Rattle.laws.specs.Texts.{Text}
use Rattle.model.specs.Op.{Op}
use Rattle.model.specs.Units.{FunctionalUnit}
use Rattle.model.specs.Write.{resolve_branch}
use Rattle.model.specs.Views.{OfferView as ModelOffer, offer_view}
use Rattle.model.specs.Calls.{first_of}
use Rattle.flight.specs.declared.pool.Decoded.{Decoded}
use Rattle.flight.specs.declared.pool.DecodedPool.{DecodedPool}
use Rattle.flight.specs.declared.pool.TextPool.{TextPool}
use Rattle.flight.specs.View.{Legend, nothing_carried, carried_at, op_with}
use Rattle.flight.specs.Pool.{no_decoded, legend, held_at, decoded_at}
use Rattle.units.specs.declared.Unit.{Unit as Slot}
use Rattle.units.specs.View.{view_unit}
use Rattle.bank.specs.declared.Units.{Units}
use Rattle.bank.specs.View.{UnitsOk}
use Rattle.board.specs.declared.Board.{Board}
use Rattle.board.proofs.Parts.{unit-seen}
use Rattle.offering.specs.Answers.{offer_with, op_on_offer}

-- The unit on offer is there.
pub on_offer_inside : (b : Board) → IfSome b.offer.writing (λ (i : ℕ). i < b.units.len) → {i : ℕ} → b.offer.writing ≡ Some i → i < b.units.len
on_offer_inside b h q = subst (λ (o : Option ℕ). IfSome o (λ (i : ℕ). i < b.units.len)) q h

-- In a cycle no check refuses it.
pub not-refused : (b : Board) → b.front.in_cycle ≡ true → {i : ℕ} → b.offer.writing ≡ Some i
    → first_of ((5, not b.front.in_cycle) ∷ (6, is_none b.offer.writing) ∷ []) ≡ None
unfolding first_of
not-refused b h q = ap₂ (λ (t : Bool) (o : Option ℕ). first_of ((5, not t) ∷ (6, is_none o) ∷ [])) h q

module _ (ds : DecodedPool) (ts : TextPool) (ns : List Text) where
  abbrev pool-legend : Legend
  pool-legend = legend ds ts ns

  unit-offer : (u : Slot) → offer_view (view_unit pool-legend u).op ≡ offer_with u (decoded_at ds u.place)
  unfolding view_unit op_with carried_at held_at decoded_at offer_view
  unit-offer u = go (ltb u.place 80)
    where
      go : (b : Bool)
          → offer_view
          (op_with (cond b (held_at ds ts u.place) nothing_carried) pool-legend u.seq u.class u.redirects u.operands
          u.progress.hazard u.progress.cycles_left)
          ≡ offer_with u (cond b (get_or ds.items u.place no_decoded) no_decoded)
      go true = refl
      go false = refl

  -- The operation of the unit on offer.
  op_at
      : {us : Units} → UnitsOk us → (d : Slot) {w : Option ℕ} {i : ℕ} → w ≡ Some i → i < us.len
      → op_on_offer ds ts ns us w ≡ Some (view_unit pool-legend (get_or us.items i d)).op
  op_at {us} ok d q k = ap (op_on_offer ds ts ns us) q ∙ ap (λ (u : FunctionalUnit). Some u.op) (unit-seen ok pool-legend d k)

  pub unit_offers
      : {us : Units} → UnitsOk us → {w : Option ℕ} {i : ℕ} → w ≡ Some i → i < us.len → (d : Slot) {x : Decoded} {v : ModelOffer}
      → x ≡ decoded_at ds (get_or us.items i d).place → v ≡ offer_with (get_or us.items i d) x
      → Some v ≡ option_map offer_view (op_on_offer ds ts ns us w)
  unit_offers {us} ok {i = i} p h d q e =
      let u = get_or us.items i d in
      ap Some (e ∙ ap (offer_with u) q ∙ sym (unit-offer u)) ∙ sym (ap (option_map offer_view) (op_at ok d p h))

  -- Where to go instead, by the test on what the code read.
  pub unit-resolved
      : {us : Units} → UnitsOk us → (d : Slot) {w : Option ℕ} {i : ℕ} → w ≡ Some i → i < us.len → (actual : ℕ) {x : Decoded} {b : Bool}
      → x ≡ decoded_at ds (get_or us.items i d).place
      → ((get_or us.items i d).redirects && not (eqb actual x.predicted_next)) ≡ b
      → resolve_branch (op_on_offer ds ts ns us w) actual ≡ cond b (Some actual) None
  unfolding resolve_branch view_unit op_with offer_view
  unit-resolved {us} ok d {i = i} p k actual e q =
      let u = get_or us.items i d in
      ap (λ (o : Option Op). resolve_branch o actual) (op_at ok d p k)
      ∙ ap (λ (v : ModelOffer). cond (v.branch && not (eqb actual v.predicted_next)) (Some actual) None) (unit-offer u)
      ∙ ap (λ (y : Decoded). cond (u.redirects && not (eqb actual y.predicted_next)) (Some actual) None) (sym e)
      ∙ ap (λ (t : Bool). cond t (Some actual) None) q
