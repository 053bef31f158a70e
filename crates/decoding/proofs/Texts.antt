-- A text: its length's byte, and the bytes behind it, copied into an array of zeros.
use mathlib.Core.Path.{◌≡◌, ap, ap₂, ◌∙◌}
use mathlib.Core.List.{List, ◌++◌, append-nil}
use Prim.Native.Nat.{ℕ, zero, ◌+◌, ◌-◌, ◌≤◌}
use native.Mathlib.Omega.{arith}
use lib.ListN.{length, get_or, take, drop, replicate, length-drop, length-replicate, drop_of_length-le}
use lib.Seq.{take_all, length-take-le}
use Rattle.op.specs.Chars.{shown}
use Rattle.decoding.specs.Bytes.{byte_at, text_at}

module _ (most : ℕ) (l : List ℕ) (at : ℕ) where
  -- What is copied, cut from the list by its two ends.
  abbrev behind : List ℕ
  behind = take (at + (1 + most) - (at + 1)) (drop (at + 1) l)

  pub text-copied : {b : List ℕ} → at + (1 + most) ≤ length l
      → b ≡ take (length (replicate most zero)) behind ++ drop (length behind) (replicate most zero)
      → shown most (get_or l at 0) b ≡ text_at most l at
  unfolding text_at byte_at
  text-copied h e =
      let n : at + (1 + most) - (at + 1) ≡ most = omega arith in
      let cut : behind ≡ take most (drop (at + 1) l) = ap (λ k. take k (drop (at + 1) l)) n in
      let size : length behind ≡ most = ap length cut ∙ length-take-le most (drop (at + 1) l) (rw length-drop (omega arith)) in
      let room : length (replicate most zero) ≡ most = length-replicate most zero in
      ap (shown most (get_or l at 0))
      (e ∙ ap₂ ◌++◌ (take_all (length (replicate most zero)) behind (omega arith))
      (drop_of_length-le (replicate most zero) {i = length behind} (omega arith))
      ∙ append-nil behind
      ∙ cut)
