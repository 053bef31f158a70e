-- A call of the engine, whose answer is laid, as the call that stands at a place.
use Prim.Native.Nat.{ℕ}
use mathlib.Core.Path.{◌≡◌, refl, sym, ap, subst, ◌∙◌}
use Rattle.std.specs.Prelude.{Option, None, Some, Result, Ok, Err}
use mathlib.Core.Bool.{false}
use mathlib.Core.List.{List, [], ◌++◌}
use lib.ListN.{length, get_or}
use Rattle.laws.specs.Optional.{when_some}
use Rattle.capability.specs.declared.Refusal.{Refusal}
use Rattle.model.specs.Timeline.{splice, write_all}
use Rattle.model.specs.State.{State}
use Rattle.model.specs.Calls.{Call, Answer, refusal, sets, answer, memory_after}
use Rattle.traces.specs.Texts.{Laid}
use Rattle.engine.specs.declared.OfferView.{OfferView}
use Rattle.engine.specs.View.{view_offer, answer_by, done_answer, offer_answer, target_answer, invitation_answer}
use Rattle.scoreboard.specs.declared.ScoreboardPipeline.{ScoreboardPipeline}
use Rattle.scoreboard.specs.View.{pipeline, view_engine}
use Rattle.scoreboard.specs.Calls.{Does}
use Rattle.decoding.specs.Bytes.{byte_at}
use Rattle.decoding.specs.Calls.{drives, shows, text_call, call_at}
use Rattle.answers.specs.Bytes.{number_bytes, optional, offer_bytes}
use Rattle.answers.specs.Encode.{encode, answer_bytes}
use Rattle.calls.specs.Steps.{shows_only, Plays}
use Rattle.calls.proofs.Which.{call-is}

-- ── The bytes of what was asked for ─────────────────────────────────────────

pub offer_told : (r : Result (Option OfferView) Refusal) → answer_bytes (λ v. offer_bytes (view_offer v)) r ≡ encode (offer_answer r)
unfolding answer_bytes encode optional answer_by
offer_told (Ok None) = refl
offer_told (Ok (Some v)) = refl
offer_told (Err r) = refl

module _ (r : Result (Option ℕ) Refusal) where
  pub target_told : answer_bytes number_bytes r ≡ encode (target_answer r)
  unfolding answer_bytes encode answer_by
  target_told = go r
    where
      go : (r : Result (Option ℕ) Refusal) → answer_bytes number_bytes r ≡ encode (target_answer r)
      go (Ok o) = refl
      go (Err r) = refl

  pub invitation_told : answer_bytes number_bytes r ≡ encode (invitation_answer r)
  unfolding answer_bytes encode answer_by
  invitation_told = go r
    where
      go : (r : Result (Option ℕ) Refusal) → answer_bytes number_bytes r ≡ encode (invitation_answer r)
      go (Ok o) = refl
      go (Err r) = refl

-- A number as an answer takes one byte.
pub done_size : (r : Result Unit Refusal) → length (encode (done_answer r)) ≡ 1
unfolding encode answer_by
done_size (Ok u) = refl
done_size (Err r) = refl

-- ── The call ────────────────────────────────────────────────────────────────

-- It sets no byte of the cell memory.
pub stays : (s : State) (c : Call) (m : List ℕ) → sets s c ≡ [] → m ≡ memory_after s c m
unfolding memory_after write_all
stays s c m e = go (refusal s c)
  where
    go : (o : Option ℕ) → m ≡ when_some o (write_all (sets s c) m) (λ (n : ℕ). m)
    go None = sym (ap (λ w. write_all w m) e)
    go (Some n) = refl

-- d is the call that was done; the byte is k.
module _ (l : List ℕ) (at : ℕ) {k : ℕ} (e : byte_at l at ≡ k) {d : Call} (p : d ≡ get_or (drives ++ shows) k text_call l at) where
  is : d ≡ call_at l at
  is = p ∙ sym (call-is l at e)

  -- `bytes` are those of its answer, a.
  pub plays : {x y : ScoreboardPipeline} {a : Answer} {b n : ℕ} {bytes m m' out out' : List ℕ} → Does x d a y → m' ≡ memory_after (view_engine x) d m
      → bytes ≡ encode a → Laid b bytes out out' n → shows_only d ≡ false → Plays (call_at l at) b x m out y m' out'
  plays {x} {y} {b = b} {m = m} {m'} {out} {out'} h r q z k =
      let laid = z.is ∙ ap (λ t. splice b t out) (q ∙ ap encode (h.answer m)) in
      subst (λ c. Plays c b x m out y m' out') is
      (record {
        engine = h.engine;
        valid = h.valid;
        refused = λ n q. ap pipeline (h.refused n q);
        shown = λ t. cc;
        memory = r;
        answer = laid;
      })

  pub answers-at : (s : State) (m : List ℕ) → answer s m (call_at l at) ≡ answer s m d
  answers-at s m = ap (answer s m) (sym is)
