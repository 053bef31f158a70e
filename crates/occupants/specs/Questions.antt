-- What resume_pc and in_flight_before say of the operations in flight.
use Rattle.std.specs.Prelude.{ℕ, ◌≤◌, ◌<◌, ◌≡◌, true, [], ◌↔◌, Some, slice_get}
use Rattle.model.specs.Op.{Op}
use Rattle.model.specs.State.{State}
use Rattle.model.specs.Scoreboard.{in_flight, resume_pc, in_flight_before}

-- o is in flight, at place i of those in units and then in the queue.
abbrev pub InFlight : State → ℕ → Op → Type 0
InFlight s i o = slice_get (in_flight s) i ≡ Some o

-- No operation in flight has a smaller number.
abbrev pub Oldest : State → Op → Type 0
Oldest s o = (i : ℕ) (p : Op) → InFlight s i p → o.core.seq ≤ p.core.seq

-- It resumes at an operation in flight that has the least number.
pub record ResumesAt (s : State) (o : Op) : Type 0 where
  pub there : (i : ℕ) × InFlight s i o
  pub oldest : Oldest s o
  pub address : resume_pc s ≡ o.core.decoded.address

-- An operation in flight is older than number n.
abbrev pub OlderThan : ℕ → State → Type 0
OlderThan n s = (i : ℕ) × ((o : Op) × (InFlight s i o × (o.core.seq < n)))

pub record Questions : Type 0 where
  -- Where nothing is in flight it resumes where it would fetch.
  pub idle : (s : State) → in_flight s ≡ [] → resume_pc s ≡ s.front.fetch_pc
  -- Where something is, at the least number in flight.
  pub resumes : (s : State) (i : ℕ) (p : Op) → InFlight s i p → (o : Op) × ResumesAt s o
  -- An older one is in flight: exactly then the answer is true.
  pub before : (n : ℕ) (s : State) → (in_flight_before n s ≡ true) ↔ OlderThan n s
