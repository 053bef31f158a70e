-- What the hints of a table say.
use Rattle.std.specs.Prelude.{ℕ, suc, ◌+◌, ◌*◌, ◌%◌, ◌<◌, ◌≡◌, List, [], ◌∷◌, ◌++◌, length, get_or, set, take, drop, replicate}
use Rattle.std.specs.List.{fold}
use Rattle.laws.specs.Texts.{Text}
use Rattle.registers.specs.declared.RegisterTable.{RegisterTable}
use Rattle.registers.specs.View.{view_held, table_of, view_table, TableOk}

-- bucket: the place of a name's hint among 1,024, a hash of its text.
unfoldable pub bucket_of : Text → ℕ
bucket_of a = fold (λ h b. (h * 37 + b) % 1024) 0 a

-- Hints with those of names that have the numbers from n on: in the bucket of each stands the number of the last that has it.
unfoldable pub hinted : ℕ → List Text → List ℕ → List ℕ
hinted n [] hs = hs
hinted n (a ∷ rest) hs = hinted (suc n) rest (set hs (bucket_of a) n)

-- RegisterTable::new: no name, and every bucket hints at number 0.
pub record Empty (t : RegisterTable) : Type 0 where
  pub is : view_table t ≡ table_of [] []
  pub ok : TableOk t
  pub hints : t.hints ≡ replicate 1024 0

-- u is t with names more, none or some, and their hints.
pub record Grown (t u : RegisterTable) : Type 0 where
  pub names : take t.held (view_held u) ≡ view_held t
  pub hints : u.hints ≡ hinted t.held (drop t.held (view_held u)) t.hints

-- The k-th of these names is the last of its bucket.
abbrev pub Last : List Text → ℕ → Type 0
Last ns k = (j : ℕ) → k < j → j < length ns → bucket_of (get_or ns j []) ≡ bucket_of (get_or ns k []) → ⊥

-- Of a table t, and what it grew to.
pub record HintLaws : Type 0 where
  pub again : (t s u : RegisterTable) → TableOk t → TableOk s → Grown t s → Grown s u → Grown t u
  -- No name is new, or one is.
  pub same : (t u : RegisterTable) → TableOk t → Grown t u → view_held u ≡ view_held t → u.hints ≡ t.hints
  pub new : (t u : RegisterTable) (a : Text) → TableOk t → Grown t u → view_held u ≡ view_held t ++ a ∷ []
      → u.hints ≡ set t.hints (bucket_of a) t.held
  -- From no name on all hints are those of the names held.
  pub all : (t u : RegisterTable) → t.held ≡ 0 → Grown t u → u.hints ≡ hinted 0 (view_held u) t.hints
  -- So the bucket of a name hints at its number, and of names in one bucket at the last. A bucket of none hints as it did.
  pub each : (t u : RegisterTable) → TableOk t → t.held ≡ 0 → Grown t u → (k : ℕ) → k < length (view_held u) → Last (view_held u) k
      → get_or u.hints (bucket_of (get_or (view_held u) k [])) 0 ≡ k
  pub other : (t u : RegisterTable) → t.held ≡ 0 → Grown t u → (b : ℕ)
      → ((k : ℕ) → k < length (view_held u) → bucket_of (get_or (view_held u) k []) ≡ b → ⊥) → get_or u.hints b 0 ≡ get_or t.hints b 0
