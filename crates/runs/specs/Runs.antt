-- Calls along a run: what an accepted fetch was given, and which calls are no reset.
use Rattle.std.specs.Prelude.{ℕ, List, [], ◌∷◌}
use Rattle.laws.specs.Optional.{when_some}
use Rattle.model.specs.Op.{Info}
use Rattle.model.specs.State.{State}
use Rattle.model.specs.Calls.{Call, start, retire, retry, resolve, advance, fetch, capacity, overlap, halt, fault, reset, redirect, view, cell, text, refusal}

abbrev pub given_to : Call → List Info
given_to start = []
given_to retire = []
given_to (retry r) = []
given_to (resolve a) = []
given_to (advance r lent) = []
given_to (fetch g lent) = g.info ∷ []
given_to (capacity k n) = []
given_to (overlap b) = []
given_to halt = []
given_to (fault m) = []
given_to (reset a lent) = []
given_to (redirect a) = []
given_to (view v) = []
given_to (cell r c lent) = []
given_to (text t n) = []

abbrev pub accepted : State → Call → List Info
accepted s c = when_some (refusal s c) (given_to c) (λ (n : ℕ). [])

-- The number of the operation of a look.
abbrev pub look_number : (ℕ × List ℕ) → ℕ
look_number p = p.0

abbrev pub NoReset : Call → Type 0
NoReset start = Unit {0}
NoReset retire = Unit {0}
NoReset (retry r) = Unit {0}
NoReset (resolve a) = Unit {0}
NoReset (advance r lent) = Unit {0}
NoReset (fetch g lent) = Unit {0}
NoReset (capacity k n) = Unit {0}
NoReset (overlap b) = Unit {0}
NoReset halt = Unit {0}
NoReset (fault m) = Unit {0}
NoReset (reset a lent) = ⊥
NoReset (redirect a) = ⊥
NoReset (view v) = Unit {0}
NoReset (cell r c lent) = Unit {0}
NoReset (text t n) = Unit {0}
