-- A request for a text, by the byte that says which, and the place and the field of an operation that it names.
use Prim.Native.Nat.{ℕ, ◌+◌, ◌-◌}
use mathlib.Core.Path.{◌≡◌, sym, ap, ap₂, ◌∙◌}
use mathlib.Core.List.{List, [], ◌∷◌}
use lib.ListN.{length, get_or}
use Rattle.model.specs.State.{State}
use Rattle.model.specs.Requests.{
  Place,
  in_queue,
  in_station,
  in_stage,
  in_unit,
  on_offer,
  Field,
  disassembly,
  destination,
  fault,
  source,
  write,
  Request,
  status_message,
  text_at,
}
use Rattle.model.specs.Calls.{buffer_after}
use Rattle.traces.specs.Texts.{Written, written}
use Rattle.decoding.specs.Bytes.{byte_at, number_at}
use Rattle.decoding.specs.Calls.{asks, place_at, field_at, request_at}
use Rattle.calls.proofs.Which.{request-is}

abbrev places : List (ℕ → Place)
places = in_queue ∷ in_station ∷ in_stage ∷ in_unit ∷ []

abbrev fields : List (ℕ → Field)
fields = (λ i. disassembly) ∷ (λ i. destination) ∷ (λ i. fault) ∷ source ∷ []

-- i is the index behind the byte.
module _ (l : List ℕ) (at : ℕ) {i : ℕ} (n : i ≡ number_at l (at + 1)) where
  pub place-by : (k : ℕ) → byte_at l at ≡ k → get_or places k (λ i. on_offer) i ≡ place_at l at
  unfolding place_at
  place-by k e = ap₂ (λ t j. get_or places t (λ i. on_offer) j) (sym e) n

  pub field-by : (k : ℕ) → byte_at l at ≡ k → get_or fields k write i ≡ field_at l at
  unfolding field_at
  field-by k e = ap₂ (λ t j. get_or fields t write j) (sym e) n

-- q is the request that was answered; the byte is k.
module _ (l : List ℕ) (at : ℕ) {k : ℕ} (e : byte_at l at ≡ k) {q : Request} (p : q ≡ get_or asks (k - 39) (λ l at. status_message) l at) where
  pub asked-at : (s : State) (out : List ℕ) {r : Written} {out' : List ℕ}
      → (r ≡ written (length out) (text_at s q)) × (out' ≡ buffer_after s q out)
      → (r ≡ written (length out) (text_at s (request_at l at))) × (out' ≡ buffer_after s (request_at l at) out)
  asked-at s out y =
      let is : q ≡ request_at l at = p ∙ sym (request-is l at e) in
      (y.0 ∙ ap (λ t. written (length out) (text_at s t)) is, y.1 ∙ ap (λ t. buffer_after s t out) is)
