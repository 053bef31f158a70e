use Rattle.std.proofs.Common.{ℕ, ◌<◌, ◌≡◌, true, false, get_or}
use Rattle.places.proofs.Places.first_free.Given as goal

abbrev pub invariant-loop-i : goal.invariant-loop-i
invariant-loop-i l = (j : ℕ) → j < l.i → get_or l.self.used j false ≡ true
