-- How many bytes the answer to the call at a place takes, and how large that can be.
use Prim.Native.Nat.{ℕ, ◌+◌, ◌≤◌, ◌<◌}
use mathlib.Core.Path.{◌≡◌, sym, ◌∙◌}
use mathlib.Core.Bool.{true}
use mathlib.Core.Logic.{⊎_elim}
use mathlib.Core.List.{List}
use native.Mathlib.Omega.{arith}
use borrow.Author.Tests.{leb-true}
use lib.Dec.{leb}
use lib.ListN.{take, drop}
use Rattle.laws.specs.Lists.{All}
use Rattle.laws.proofs.Slices.{All-get_or, All-append}
use Rattle.laws.proofs.Tests.{and_both, lt-or-ge}
use Rattle.model.specs.Calls.{Call}
use Rattle.decoding.specs.Bytes.{byte_at}
use Rattle.decoding.specs.Calls.{size_at, room_at, text_call, call_at, formed_at}
use Rattle.decoding.proofs.Sizes.{text_size, parts-text}
use Rattle.decoding.proofs.Script.{formed-is}
use Rattle.answers.specs.Encode.{encode}
use Rattle.answers.specs.Size.{size_of_view, size}
use Rattle.answers.proofs.Sizes.{refused-fits}
use Rattle.calls.proofs.Which.{told, told_below, told_text, known}

-- An answer takes one byte or more.
pub size_least : (c : Call) → 1 ≤ size c
unfolding encode
size_least c = refused-fits 0 c

module _ (l : List ℕ) (at : ℕ) where
  -- A text's answer has ten bytes before its room.
  pub size-text : 39 ≤ byte_at l at → size (call_at l at) ≡ 10 + room_at l at
  unfolding size text_call
  size-text h = told_text size l at h

  size_small : byte_at l at < 39 → size (call_at l at) ≤ 97
  unfolding size size_of_view
  size_small h =
      let t = told size l at in
      let each : All (λ n. n ≤ 97) t = All-append (λ n. n ≤ 97) (take 20 t) (drop 20 t) (omega arith) (omega arith) in
      omega (arith, told_below size l at 0 h, All-get_or (λ n. n ≤ 97) t 0 each h)

  module _ (e : formed_at l at ≡ true) where
    pub room-there : 39 ≤ byte_at l at → 8 < size_at l at
    unfolding size_at
    room-there h = text_size h (known l at e)

    pub room_small : 39 ≤ byte_at l at → room_at l at ≤ 65535
    room_small h = leb-true (room_at l at) 65535 (and_both (leb (room_at l at) 65535) _ (sym (parts-text l at h) ∙ (formed-is l at e).parts)).0

    pub size-most : size (call_at l at) ≤ 65545
    size-most =
        ⊎_elim
        (λ (h : byte_at l at < 39). omega (arith, size_small h))
        (λ (h : 39 ≤ byte_at l at). omega (arith, size-text h, room_small h))
        (lt-or-ge (byte_at l at) 39)
