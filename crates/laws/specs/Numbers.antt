-- Numbers that stop at 2^64 - 1.
use Rattle.std.specs.Prelude.{ℕ, ◌+◌, min}

-- u64::MAX
abbrev pub max64 : ℕ
max64 = 18446744073709551615

-- u64::saturating_add
abbrev pub saturating_add : ℕ → ℕ → ℕ
saturating_add a b = min (a + b) max64
