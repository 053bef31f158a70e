-- Places of the pool: which are taken, and one that is not.
use Rattle.std.specs.Prelude.{ℕ, ◌≤◌, ◌<◌, ◌≡◌, false, List, map, length, get_or}
use Rattle.laws.specs.Lists.{elem}
use Rattle.flight.specs.declared.Queued.{Queued}
use Rattle.flight.specs.declared.Queue.{Queue}
use Rattle.flight.specs.View.{entries}
use Rattle.places.specs.declared.Places.{Places}

-- Those of queued operations.
unfoldable pub queue_places : Queue → List ℕ
queue_places q = map (λ (x : Queued). x.place) (entries q)

-- Exactly the places of the list are marked.
pub record Marked (l : List ℕ) (m : Places) : Type 0 where
  pub size : length m.used ≡ 81
  pub is : (p : ℕ) → p ≤ 80 → get_or m.used p false ≡ elem p l

-- A place of the pool that is none of these.
pub record Free (l : List ℕ) (p : ℕ) : Type 0 where
  pub there : p < 80
  pub free : elem p l ≡ false
