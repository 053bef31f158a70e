-- The pool at a place.
use Rattle.std.proofs.Common.{ℕ, ◌≡◌, ◌<◌, ◌≤◌, get_or, sym, ◌∙◌, arith}
use Rattle.std.proofs.lemmas.List.{get_or_past}
use mathlib.Core.Logic.{⊎_elim}
use Rattle.laws.proofs.Tests.{lt-or-ge, cond-lt, cond-ge}
use Rattle.flight.specs.declared.pool.DecodedPool.{DecodedPool}
use Rattle.flight.specs.Pool.{no_decoded, decoded_at, DecodedPoolOk}

pub decoded_there : (p : DecodedPool) (place : ℕ) → DecodedPoolOk p → get_or p.items place no_decoded ≡ decoded_at p place
unfolding decoded_at
decoded_there p place ok =
    ⊎_elim (λ (h : place < 80). sym (cond-lt _ _ h))
    (λ (h : 80 ≤ place). get_or_past p.items place no_decoded (omega (arith, ok.size)) ∙ sym (cond-ge (get_or p.items place no_decoded) no_decoded h))
    (lt-or-ge place 80)
