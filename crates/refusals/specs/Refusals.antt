-- Demand 1, over the model. The tables of (number, test) are `make_checks` and `checks` of the model's Calls, in document 01's order;
-- `make_refusal` and `refusal` are the first of a table's tests that holds.
use Rattle.std.specs.Prelude.{ℕ, ◌≡◌, ◌↔◌, true, false, List, ◌∷◌, ◌++◌, length}
use Rattle.laws.specs.Lists.{All}
use Rattle.model.specs.Config.{PipelineShape}
use Rattle.model.specs.Timeline.{write_all}
use Rattle.model.specs.State.{State, new}
use Rattle.model.specs.Requests.{Request, text_at, buffer_with}
use Rattle.model.specs.Calls.{Call, Check, checks, make_checks, refused, answer, after, memory_after, buffer_after, text, reply, run, sets, no_machine, made, make, memory_made, make_memory}

abbrev pub fails : Check → Type 0
fails p = p.1 ≡ false

-- n is the number of a test that holds, and no test before it does.
abbrev pub First : ℕ → List Check → Type 0
First n ps = (before : List Check) × (later : List Check) × (ps ≡ before ++ ((n, true) ∷ later)) × All fails before

-- For one call, on any engine and any lent cell memory.
pub record Refusals (s : State) (m : List ℕ) (c : Call) : Type 0 where
  -- "refused with the number 01's order puts first": exactly where n's test is the first that holds
  pub refused_first : (n : ℕ) → (answer s m c ≡ refused n) ↔ First n (checks s c)
  -- "engine and lent memory are then what they were before"
  pub untouched : (n : ℕ) → answer s m c ≡ refused n → (after s c ≡ s) × (memory_after s c m ≡ m)
  -- "every call to which the table gives no number is accepted": it runs, and is not refused
  pub taken
      : All fails (checks s c)
      → (answer s m c ≡ reply s m c) × (after s c ≡ run s c) × (memory_after s c m ≡ write_all (sets s c) m)
  pub never_refused : (n : ℕ) → All fails (checks s c) → answer s m c ≡ refused n → ⊥

-- For a text request, with any lent buffer: what a refusal and a text leave in it.
pub record Buffers (s : State) (t : Request) (lent : List ℕ) : Type 0 where
  pub untouched : (m : List ℕ) (n : ℕ) → answer s m (text t (length lent)) ≡ refused n → buffer_after s t lent ≡ lent
  pub written : All fails (checks s (text t (length lent))) → buffer_after s t lent ≡ buffer_with (text_at s t) lent

abbrev pub Demand1 : Type 0
Demand1 = ((s : State) (m : List ℕ) (c : Call) → Refusals s m c) × ((s : State) (t : Request) (lent : List ℕ) → Buffers s t lent)

-- For making, with any declared machine, entry address and lent cell memory.
pub record MakeRefusals (d : PipelineShape) (entry : ℕ) (lent : List ℕ) : Type 0 where
  pub refused_first : (n : ℕ) → (make d entry lent ≡ no_machine n) ↔ First n (make_checks d (length lent))
  pub untouched : (n : ℕ) → make d entry lent ≡ no_machine n → make_memory d lent ≡ lent
  pub taken
      : All fails (make_checks d (length lent)) → (make d entry lent ≡ made (new d entry)) × (make_memory d lent ≡ memory_made d lent)

abbrev pub Demand1Making : Type 0
Demand1Making = (d : PipelineShape) (entry : ℕ) (lent : List ℕ) → MakeRefusals d entry lent
