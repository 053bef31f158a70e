-- A list of calls with what the Rust answered and showed, and whether the model answers and shows the same.
use Rattle.std.specs.Prelude.{ℕ, zero, suc, Bool, List, [], ◌∷◌, replicate, Option, None}
use Rattle.laws.specs.Texts.{Text, same}
use Rattle.capability.specs.declared.PipelineInstructionClass.{PipelineInstructionClass}
use Rattle.model.specs.Config.{PipelineShape}
use Rattle.model.specs.Op.{decoded, info_of, Given, given}
use Rattle.model.specs.State.{State}
use Rattle.model.specs.Calls.{Call, start, advance, Made, no_machine, made, make, make_memory, after, memory_after}
use Rattle.samples.specs.Digest.{hash, text_numbers, call_numbers, everything_shown, fixed_shown}

-- Each step has one number.
pub data Step : Type 0 where
  -- a call: its answer, and all that the engine shows after it
  shown : Call → Step
  -- a call: its answer alone
  quiet : Call → Step
  -- so many times start and advance, lent so much: each answer, and all that the engine shows after the last
  idle : ℕ → ℕ → Step
  -- all that the engine shows, what no call changes, and every byte of the cell memory
  rest : Step

-- A machine, its entry, the length of the cell memory lent to making, the steps, and the Rust's numbers: one for making, and one a step.
pub record Case : Type 0 where
  pub shape : PipelineShape
  pub entry : ℕ
  pub lent : ℕ
  pub steps : List Step
  pub numbers : List ℕ

abbrev pub case_of : PipelineShape → ℕ → ℕ → List Step → List ℕ → Case
case_of d e n s x = record { shape = d; entry = e; lent = n; steps = s; numbers = x }

-- An operation: address, length, class, branch, atomic; text, fault note, shown destination, reads, writes, payload.
abbrev pub op
    : ℕ → ℕ → PipelineInstructionClass → Bool → Bool → Text → Option Text → Option Text → List Text → List Text → ℕ → Given
op a n c b m t f d r w p = given (decoded a n c b m) (info_of t f d r w p)

-- The engine, the cell memory, and the number of what was answered so far.
pub record Playing : Type 0 where
  pub engine : State
  pub cells : List ℕ
  pub number : ℕ

abbrev pub playing : State → List ℕ → ℕ → Playing
playing s m h = record { engine = s; cells = m; number = h }

unfoldable pub answered : Call → Playing → Playing
answered c p =
    let s = p.engine in
    let m = p.cells in playing (after s c) (memory_after s c m) (hash p.number (call_numbers s m c []))

unfoldable pub idled : ℕ → ℕ → Playing → Playing
idled zero lent p = p
idled (suc n) lent p = idled n lent (answered (advance None lent) (answered start p))

unfoldable pub all_shown : State → List ℕ → List ℕ → List ℕ
all_shown s m l = everything_shown s m (fixed_shown s (text_numbers m l))

-- The number of each step.
unfoldable pub trail : State → List ℕ → List Step → List ℕ
trail s m [] = []
trail s m (shown c ∷ cs) =
    let t = after s c in
    let n = memory_after s c m in hash 7 (call_numbers s m c (everything_shown t n [])) ∷ trail t n cs
trail s m (quiet c ∷ cs) = hash 7 (call_numbers s m c []) ∷ trail (after s c) (memory_after s c m) cs
trail s m (idle n lent ∷ cs) =
    let p = idled n lent (playing s m 7) in
    hash p.number (everything_shown p.engine p.cells []) ∷ trail p.engine p.cells cs
trail s m (rest ∷ cs) = hash 7 (all_shown s m []) ∷ trail s m cs

unfoldable pub made_trail : Made → List ℕ → List Step → List ℕ
made_trail (no_machine n) m cs = hash 7 (0 ∷ n ∷ text_numbers m []) ∷ []
made_trail (made s) m cs = hash 7 (1 ∷ all_shown s m []) ∷ trail s m cs

-- The cell memory holds 7 in every byte before making.
unfoldable pub numbers_of : Case → List ℕ
numbers_of c =
    made_trail (make c.shape c.entry (replicate c.lent 7)) (make_memory c.shape (replicate c.lent 7)) c.steps

unfoldable pub agrees : Case → Bool
agrees c = same (numbers_of c) c.numbers

-- All of these unfold where a line says `unfolding lists_of_calls`.
unfoldable pub lists_of_calls : Unit {0}
unfolding answered idled all_shown trail made_trail numbers_of agrees
lists_of_calls = tt
