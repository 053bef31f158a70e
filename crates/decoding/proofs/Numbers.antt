-- Eight bytes as a number, the lowest first.
use Rattle.std.proofs.Common.{◌≡◌, ℕ, List, [], ◌∷◌, length, arith}
use Rattle.std.specs.Int.{w64, from_le_bytes}
use Rattle.decoding.specs.Bytes.{little}

pub lowest_first : (bs : List ℕ) → length bs ≡ 8 → from_le_bytes w64 bs ≡ little bs
unfolding little
lowest_first (a ∷ b ∷ c ∷ d ∷ e ∷ f ∷ g ∷ h ∷ []) n = omega arith
lowest_first l n = absurd (let z : ⊥ = omega arith in z)
