-- Units in a row, as they stand: how many are busy, and which busy one has the least number.
use Rattle.std.specs.Prelude.{ℕ, ◌+◌, ◌≤◌, ◌<◌, ◌≡◌, true, false, cond, ◌&&◌, List, [], ◌∷◌, ltb, Option, None, Some, option_map, slice_get, count_by}
use Rattle.std.specs.Option.{option_map_or}
use Rattle.units.specs.declared.Unit.{Unit as Slot}
use Rattle.units.specs.declared.lent.Best.{Best}

unfoldable pub busy_count : List Slot → ℕ
busy_count us = count_by (λ (u : Slot). u.busy) us

abbrev pub best_at : Slot → ℕ → Option Best
best_at u i = Some (record { at = i; seq = u.seq })

-- The best of those before i, and of the unit at i: where their numbers are equal the earlier stays.
unfoldable pub better_of : Option Best → Slot → ℕ → Option Best
better_of b u i = cond (u.busy && option_map_or (λ (x : Best). ltb u.seq x.seq) b true) (best_at u i) b

-- The best of b and of units whose places count from i.
unfoldable pub best_from : ℕ → Option Best → List Slot → Option Best
best_from i b [] = b
best_from i b (u ∷ us) = best_from (i + 1) (better_of b u i) us

-- The place of the busy unit of the least number, the first of equals.
unfoldable pub oldest_busy : List Slot → Option ℕ
oldest_busy us = option_map (λ (x : Best). x.at) (best_from 0 None us)

-- The unit at place k is busy, no busy unit has a lesser number, and those before it have greater ones.
pub record IsOldest (us : List Slot) (k : ℕ) (u : Slot) : Type 0 where
  pub here : slice_get us k ≡ Some u
  pub busy : u.busy ≡ true
  pub least : (j : ℕ) (v : Slot) → slice_get us j ≡ Some v → v.busy ≡ true → u.seq ≤ v.seq
  pub first : (j : ℕ) (v : Slot) → j < k → slice_get us j ≡ Some v → v.busy ≡ true → u.seq < v.seq

-- What `oldest_busy` says (proofs/OldestIs): such a place, or that no unit is busy.
abbrev pub Oldest : List Slot → Option ℕ → Type 0
Oldest us (Some k) = (u : Slot) × IsOldest us k u
Oldest us None = (j : ℕ) (v : Slot) → slice_get us j ≡ Some v → v.busy ≡ false
