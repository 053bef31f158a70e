-- The scoreboard of the book, as definitions of its own: J. E. Thornton, "Design of a Computer: The Control Data 6600"; J. L. Hennessy
-- and D. A. Patterson, "Computer Architecture: A Quantitative Approach", the appendix on pipelining, dynamic scheduling with a
-- scoreboard. Its table:
--
-- | step               | wait until                           | bookkeeping                                                      |
-- | Issue              | not Busy[FU] and not Result[D]       | Busy[FU] ← yes; Op[FU] ← op; Fi[FU] ← D; Fj[FU] ← S1;            |
-- |                    |                                      | Fk[FU] ← S2; Qj ← Result[S1]; Qk ← Result[S2]; Rj ← not Qj;      |
-- |                    |                                      | Rk ← not Qk; Result[D] ← FU                                      |
-- | Read operands      | Rj and Rk                            | Rj ← No; Rk ← No; Qj ← 0; Qk ← 0                                 |
-- | Execution complete | functional unit done                 |                                                                  |
-- | Write result       | ∀f ((Fj[f] ≠ Fi[FU] or Rj[f] = No)   | ∀f (if Qj[f] = FU then Rj[f] ← Yes);                             |
-- |                    | and (Fk[f] ≠ Fi[FU] or Rk[f] = No))  | ∀f (if Qk[f] = FU then Rk[f] ← Yes);                             |
-- |                    |                                      | Result[Fi[FU]] ← 0; Busy[FU] ← No                                |
--
-- Liberties:
-- 1. D and (S1, S2) are lists of any length, so Fi is a list, and (Fj, Qj, Rj), (Fk, Qk, Rk) are a list of (F, Q, R). What the table
--    says of D, of j and of k is said of each element. With one destination and two sources it is the table.
-- 2. A unit is a number, the place of its row, and a register is a number; where the book writes 0 for no unit stands `none`.
-- 3. Op is the operation's class.
-- 4. The book's third table, instruction status, is left out: it says which steps an instruction has done, and nothing above reads
--    it but "functional unit done". That a unit has read shows in its row: each R is No and each Q is 0.
use Rattle.std.specs.Prelude.{ℕ, ◌≡◌, Bool, true, false, cond, not, ◌&&◌, ◌||◌, List, [], map, eqb, replicate, Option, None, Some, slice_get, is_some}
use Rattle.laws.specs.Lists.{elem, modify}
use Rattle.std.specs.List.{list_all, list_any}
use Rattle.laws.specs.Optional.{is_none, when_some}
use Rattle.capability.specs.declared.PipelineInstructionClass.{PipelineInstructionClass}
use Rattle.capability.specs.declared.PipelineInstructionClass.TheVariants.{Unknown}

-- ── The tables ──────────────────────────────────────────────────────────────

-- One source of a unit. F: its register. Q: the unit that produces it. R: it is ready and not yet read.
pub record Source : Type 0 where
  pub F : ℕ
  pub Q : Option ℕ
  pub R : Bool

abbrev pub source : ℕ → Option ℕ → Bool → Source
source f q r = record { F = f; Q = q; R = r }

-- Functional unit status, one row.
pub record Status : Type 0 where
  pub Busy : Bool
  pub Op : PipelineInstructionClass
  pub Fi : List ℕ
  pub sources : List Source

abbrev pub status : Bool → PipelineInstructionClass → List ℕ → List Source → Status
status b o d ss = record { Busy = b; Op = o; Fi = d; sources = ss }

-- Functional unit status, and register result status.
pub record Book : Type 0 where
  pub FU : List Status
  pub Result : ℕ → Option ℕ

abbrev pub book : List Status → (ℕ → Option ℕ) → Book
book u r = record { FU = u; Result = r }

-- Busy[i], Fi[i]. A unit that is not there is not Busy, and is not free either.
abbrev pub busy_at : Book → ℕ → Bool
busy_at b i = when_some (slice_get b.FU i) false (λ (u : Status). u.Busy)

abbrev pub free_at : Book → ℕ → Bool
free_at b i = when_some (slice_get b.FU i) false (λ (u : Status). not u.Busy)

abbrev pub fi_at : Book → ℕ → List ℕ
fi_at b i = when_some (slice_get b.FU i) [] (λ (u : Status). u.Fi)

-- ── Issue ───────────────────────────────────────────────────────────────────

-- not Busy[FU] and not Result[D]
abbrev pub can_issue : Book → ℕ → List ℕ → Bool
can_issue b i ds = free_at b i && not (list_any (λ (d : ℕ). is_some (b.Result d)) ds)

-- F ← S; Q ← Result[S]; R ← not Q
abbrev pub fill : (ℕ → Option ℕ) → ℕ → Source
fill result s = source s (result s) (is_none (result s))

-- Result[D] ← FU
abbrev pub claimed_by : ℕ → List ℕ → (ℕ → Option ℕ) → ℕ → Option ℕ
claimed_by i ds result r = cond (elem r ds) (Some i) (result r)

abbrev pub do_issue : ℕ → PipelineInstructionClass → List ℕ → List ℕ → Book → Book
do_issue i o ss ds b =
    book (modify i (λ (u : Status). status true o ds (map (fill b.Result) ss)) b.FU) (claimed_by i ds b.Result)

-- ── Read operands ───────────────────────────────────────────────────────────

-- Rj and Rk
abbrev pub all_ready : Status → Bool
all_ready u = list_all (λ (x : Source). x.R) u.sources

abbrev pub can_read : Book → ℕ → Bool
can_read b i = when_some (slice_get b.FU i) false all_ready

-- R ← No; Q ← 0
abbrev pub read_row : Status → Status
read_row u = status u.Busy u.Op u.Fi (map (λ (x : Source). source x.F None false) u.sources)

abbrev pub do_read : ℕ → Book → Book
do_read i b = book (modify i read_row b.FU) b.Result

-- ── Execution complete: the unit is done; no table changes ──────────────────

-- ── Write result ────────────────────────────────────────────────────────────

-- F[f] ≠ Fi[FU] or R[f] = No
abbrev pub overwritable : List ℕ → Source → Bool
overwritable ds x = not (elem x.F ds) || not x.R

abbrev pub can_write : Book → ℕ → Bool
can_write b i = list_all (λ (f : Status). list_all (overwritable (fi_at b i)) f.sources) b.FU

-- if Q[f] = FU then R[f] ← Yes
abbrev pub owes : ℕ → Option ℕ → Bool
owes i None = false
owes i (Some k) = eqb k i

abbrev pub wake : ℕ → Source → Source
wake i x = source x.F x.Q (cond (owes i x.Q) true x.R)

abbrev pub wake_row : ℕ → Status → Status
wake_row i u = status u.Busy u.Op u.Fi (map (wake i) u.sources)

-- Busy ← No
abbrev pub free_row : Status → Status
free_row u = status false u.Op u.Fi u.sources

-- Result[Fi[FU]] ← 0
abbrev pub released : List ℕ → (ℕ → Option ℕ) → ℕ → Option ℕ
released ds result r = cond (elem r ds) None (result r)

abbrev pub do_write : ℕ → Book → Book
do_write i b = book (modify i free_row (map (wake_row i) b.FU)) (released (fi_at b i) b.Result)

-- ── Tables that the book's own steps lead to, from n idle units ─────────────

abbrev pub idle_row : Status
idle_row = status false Unknown [] []

abbrev pub idle_tables : ℕ → Book
idle_tables n = book (replicate n idle_row) (λ (r : ℕ). None)

-- The unit has read: each R is No, and each Q is 0.
abbrev pub is_read : Source → Bool
is_read x = not x.R && is_none x.Q

abbrev pub has_read : Book → ℕ → Bool
has_read b i = when_some (slice_get b.FU i) false (λ (u : Status). list_all is_read u.sources)

pub data Reached : Book → Type 0 where
  idle : (n : ℕ) → Reached (idle_tables n)
  issued
      : {b : Book} → Reached b → (i : ℕ) (o : PipelineInstructionClass) (ss ds : List ℕ) → can_issue b i ds ≡ true
      → Reached (do_issue i o ss ds b)
  read : {b : Book} → Reached b → (i : ℕ) → busy_at b i ≡ true → can_read b i ≡ true → Reached (do_read i b)
  written
      : {b : Book} → Reached b → (i : ℕ) → busy_at b i ≡ true → has_read b i ≡ true → can_write b i ≡ true
      → Reached (do_write i b)

-- ── What nothing looks at ───────────────────────────────────────────────────

-- The book leaves the row of a unit that is no longer Busy as it was, and a Q whose R is set until the operand is read. No condition and
-- no bookkeeping looks at either: `NeverLookedAt` says so. The tables with both taken out:
abbrev pub tidy_source : Source → Source
tidy_source x = source x.F (cond x.R None x.Q) x.R

abbrev pub tidy_row : Status → Status
tidy_row u = cond u.Busy (status true u.Op u.Fi (map tidy_source u.sources)) idle_row

abbrev pub tidy : Book → Book
tidy b = book (map tidy_row b.FU) b.Result

-- Of tables that the book's steps lead to: tidied tables allow the same steps, and lead to the same tables but for what is tidied.
pub record Unseen (b : Book) : Type 0 where
  pub same_issue : (i : ℕ) (ds : List ℕ) → can_issue (tidy b) i ds ≡ can_issue b i ds
  pub same_read : (i : ℕ) → busy_at b i ≡ true → can_read (tidy b) i ≡ can_read b i
  pub same_write : (i : ℕ) → busy_at b i ≡ true → can_write (tidy b) i ≡ can_write b i
  pub issued_same
      : (i : ℕ) (o : PipelineInstructionClass) (ss ds : List ℕ) → tidy (do_issue i o ss ds (tidy b)) ≡ tidy (do_issue i o ss ds b)
  pub read_same : (i : ℕ) → tidy (do_read i (tidy b)) ≡ tidy (do_read i b)
  pub written_same : (i : ℕ) → busy_at b i ≡ true → tidy (do_write i (tidy b)) ≡ tidy (do_write i b)

abbrev pub NeverLookedAt : Type 0
NeverLookedAt = (b : Book) → Reached b → Unseen b
