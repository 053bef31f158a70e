-- Names are interned at fetch and known from the look on. What must hold for the look to give the model's numbers.
use Rattle.std.specs.Prelude.{ℕ, suc, max, ◌≡◌, List, [], ◌∷◌, ◌++◌, length, take}
use Rattle.laws.specs.Texts.{Text}
use Rattle.model.specs.Op.{Info}
use Rattle.model.specs.Registers.{numbered, intern_all, Operands, operands, resolve}

-- One more than the largest of these numbers.
unfoldable pub through : List ℕ → ℕ
through [] = 0
through (k ∷ ks) = max (suc k) (through ks)

-- How many names are known after a look that gives these numbers.
abbrev pub known_after : List Text → List ℕ → ℕ
known_after ns ks = max (length ns) (through ks)

-- ── One look ──────────────────────────────────────────────────────────────────

-- The names ns are known; the queue's front names bs, those behind it cs; interned at their fetches they made `held`, and bs got the numbers ks.
pub record AtFetch (ns bs cs held : List Text) (ks : List ℕ) : Type 0 where
  pub names : held ≡ (intern_all ns (bs ++ cs)).names
  pub numbers : ks ≡ take (length bs) (intern_all ns (bs ++ cs)).numbers

-- The model's look at the front: the same numbers, and the names known after it. From there on the rest of the queue makes `held` again,
-- and so does the whole queue, where the front stays.
pub record AtLook (ns bs cs held : List Text) (ks : List ℕ) : Type 0 where
  pub numbers : (intern_all ns bs).numbers ≡ ks
  pub names : (intern_all ns bs).names ≡ take (known_after ns ks) held
  pub rest : held ≡ (intern_all (intern_all ns bs).names cs).names
  pub again : intern_all (intern_all ns bs).names bs ≡ numbered ks (intern_all ns bs).names

abbrev pub LooksRight : Type 0
LooksRight = (ns bs cs held : List Text) (ks : List ℕ) → AtFetch ns bs cs held ks → AtLook ns bs cs held ks

-- ── Along the queue ───────────────────────────────────────────────────────────

-- The numbers that a fetch gave an operation.
pub record Numbers : Type 0 where
  pub read : List ℕ
  pub written : List ℕ

abbrev pub numbers_of : Operands → Numbers
numbers_of o = record { read = o.read; written = o.written }

abbrev pub with_names : Numbers → List Text → Operands
with_names k ns = operands k.read k.written ns

-- The names of queued operations, in order.
unfoldable pub queue_names : List Info → List Text
queue_names [] = []
queue_names (i ∷ q) = i.sources ++ (i.writes ++ queue_names q)

-- The numbers that each gets, resolved from ns on.
unfoldable pub queue_numbers : List Text → List Info → List Numbers
queue_numbers ns [] = []
queue_numbers ns (i ∷ q) = numbers_of (resolve ns i) ∷ queue_numbers (resolve ns i).names q

-- What holds of the names known, the names held, the queue, and the numbers kept with it.
pub record Queued (ns held : List Text) (q : List Info) (ks : List Numbers) : Type 0 where
  pub names : held ≡ (intern_all ns (queue_names q)).names
  pub numbers : ks ≡ queue_numbers ns q

-- It holds of an empty queue, after a fetch, after a look, and after an issue; and the look is the model's.
pub record QueueLaws : Type 0 where
  pub empty : (ns : List Text) → Queued ns ns [] []
  pub fetched : (ns held : List Text) (q : List Info) (ks : List Numbers) (i : Info) → Queued ns held q ks
      → Queued ns (resolve held i).names (q ++ i ∷ []) (ks ++ numbers_of (resolve held i) ∷ [])
  -- what refusal 10 counts
  pub counted : (ns held : List Text) (q : List Info) (ks : List Numbers) (bs : List Text) → Queued ns held q ks
      → (intern_all ns (queue_names q ++ bs)).names ≡ (intern_all held bs).names
  pub look : (ns held : List Text) (i : Info) (q : List Info) (k : Numbers) (ks : List Numbers) → Queued ns held (i ∷ q) (k ∷ ks)
      → resolve ns i ≡ with_names k (take (known_after ns (k.read ++ k.written)) held)
  pub stays : (ns held : List Text) (i : Info) (q : List Info) (k : Numbers) (ks : List Numbers) → Queued ns held (i ∷ q) (k ∷ ks)
      → Queued (resolve ns i).names held (i ∷ q) (k ∷ ks)
  pub issued : (ns held : List Text) (i : Info) (q : List Info) (k : Numbers) (ks : List Numbers) → Queued ns held (i ∷ q) (k ∷ ks)
      → Queued (resolve ns i).names held q ks

-- All of these unfold where a line says `unfolding looking`.
unfoldable pub looking : Unit {0}
unfolding through queue_names queue_numbers
looking = tt
