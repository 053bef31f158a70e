-- A text that is written to its room, and then the ten bytes before it.
use Prim.Native.Nat.{ℕ, ◌+◌, ◌-◌, ◌≤◌}
use mathlib.Core.Path.{◌≡◌, sym, ap, ◌∙◌}
use mathlib.Core.List.{List, ◌++◌, append_assoc}
use native.Mathlib.Omega.{arith}
use lib.ListN.{length, take, drop, length-append, length-drop}
use lib.Seq.{length-take-le, drop-drop}
use Rattle.model.specs.Timeline.{splice}
use Rattle.model.specs.State.{State}
use Rattle.model.specs.Requests.{text_at}
use Rattle.model.specs.Calls.{text, answer, buffer_after}
use Rattle.traces.specs.Texts.{Laid, Written, written}
use Rattle.timeline.proofs.Memory.{splice-parts}
use Rattle.decoding.specs.Bytes.{byte_at}
use Rattle.decoding.specs.Calls.{request_at, room_at, text_call, call_at}
use Rattle.answers.specs.Encode.{encode, written_bytes}
use Rattle.answers.specs.Size.{size}
use Rattle.answers.proofs.Sizes.{text-told}
use Rattle.calls.proofs.Which.{told_text}
use Rattle.calls.proofs.Room.{size-text}

is-text : (l : List ℕ) (at : ℕ) → 39 ≤ byte_at l at → call_at l at ≡ text (request_at l at) (room_at l at)
unfolding text_call
is-text l at h = told_text (λ c. c) l at h

-- What stands before a part is still there.
pub front-there : (a : ℕ) (xs ys : List ℕ) → a ≤ length xs → a ≤ length (take a xs ++ ys)
front-there a xs ys h = omega (arith, length-append (take a xs) ys, length-take-le a xs h)

-- The room is cut from the buffer by its two ends.
module _ (l : List ℕ) (at : ℕ) (h : 39 ≤ byte_at l at) (out : List ℕ) (b : ℕ) {n : ℕ} (e : n ≡ room_at l at)
    (fits : b + size (call_at l at) ≤ length out) where
  abbrev cut : ℕ
  cut = b + 10 + n - (b + 10)

  abbrev mid : List ℕ
  mid = take cut (drop (b + 10) out)

  room : cut ≡ room_at l at
  room = omega (arith, e)

  put_back : (part : List ℕ) → length part ≡ length mid → take (b + 10) out ++ (part ++ drop cut (drop (b + 10) out)) ≡ splice (b + 10) part out
  put_back part q =
      let k : length mid ≡ cut = length-take-le cut (drop (b + 10) out) (omega (arith, length-drop (b + 10) out, size-text l at h, room)) in
      let end : b + 10 + cut ≡ b + 10 + length part = omega (arith, q, k) in
      ap (λ t. take (b + 10) out ++ (part ++ t)) (drop-drop cut (b + 10) out ∙ ap (λ j. drop j out) end)
      ∙ sym (append_assoc (take (b + 10) out) part (drop (b + 10 + length part) out))
      ∙ sym (splice-parts (b + 10) part out (omega (arith, q, k, size-text l at h, room)))

  -- w and `part` are what the request answered and left in its room; `last` is the buffer after the ten bytes were laid.
  pub told_at : (s : State) {w : Written} {part last : List ℕ} {r : ℕ} → length part ≡ length mid
      → (w ≡ written (length mid) (text_at s (request_at l at))) × (part ≡ buffer_after s (request_at l at) mid)
      → Laid b (written_bytes w) (take (b + 10) out ++ (part ++ drop cut (drop (b + 10) out))) last r
      → (m : List ℕ) → last ≡ splice b (encode (answer s m (call_at l at))) out
  told_at s {w} {part} q y z m =
      let area = take (room_at l at) (drop (b + 10) out) in
      let same : mid ≡ area = ap (λ k. take k (drop (b + 10) out)) room in
      z.is ∙ ap (splice b (written_bytes w)) (put_back part q ∙ ap (λ t. splice (b + 10) t out) (y.1 ∙ ap (buffer_after s (request_at l at)) same))
      ∙ text-told b (room_at l at) out s m (request_at l at) (omega (arith, size-text l at h))
      (y.0 ∙ ap (λ t. written (length t) (text_at s (request_at l at))) same)
      ∙ sym (ap (λ c. splice b (encode (answer s m c)) out) (is-text l at h))
