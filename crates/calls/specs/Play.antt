-- What `calls_play` answers and leaves, for every list of bytes (docs/CALLS.md).
use Rattle.std.specs.Prelude.{ℕ, ◌+◌, max, Bool, cond, ◌||◌, List, [], ◌∷◌, ◌++◌, ltb, length, take, drop}
use Rattle.laws.specs.Optional.{when_some}
use Rattle.model.specs.Timeline.{splice}
use Rattle.model.specs.State.{State, new}
use Rattle.model.specs.Calls.{
  Call,
  start,
  retire,
  retry,
  resolve,
  advance,
  fetch,
  capacity,
  overlap,
  halt,
  fault,
  reset,
  redirect,
  view,
  cell,
  text,
  refused,
  make_refusal,
  make_memory,
  answer,
  after,
  memory_after,
}
use Rattle.decoding.specs.Script.{Script, decode}
use Rattle.answers.specs.Bytes.{number_bytes}
use Rattle.answers.specs.Size.{size, block}

-- ── Cell memory ─────────────────────────────────────────────────────────────

-- How many bytes of it a call is lent.
unfoldable pub lent_of : Call → ℕ
lent_of start = 0
lent_of retire = 0
lent_of (retry reason) = 0
lent_of (resolve a) = 0
lent_of (advance r lent) = lent
lent_of (fetch g lent) = lent
lent_of (capacity k n) = 0
lent_of (overlap b) = 0
lent_of halt = 0
lent_of (fault note) = 0
lent_of (reset a lent) = lent
lent_of (redirect a) = 0
lent_of (view v) = 0
lent_of (cell r c lent) = lent
lent_of (text t room) = 0

-- The first n bytes are lent, and the rest stays.
unfoldable pub lend : ℕ → (List ℕ → List ℕ) → List ℕ → List ℕ
lend n f m = f (take n m) ++ drop n m

-- The cell memory after a call.
unfoldable pub cells_after : State → Call → List ℕ → List ℕ
cells_after s c m = lend (lent_of c) (memory_after s c) m

-- ── A list of calls, each on the engine and the memory that the last one left ─

-- The bytes of the answer to a call.
unfoldable pub block_of : State → List ℕ → Call → List ℕ
block_of s m c = block c (answer s (take (lent_of c) m) c)

unfoldable pub blocks : State → List ℕ → List Call → List ℕ
blocks s m [] = []
blocks s m (c ∷ cs) = block_of s m c ++ blocks (after s c) (cells_after s c m) cs

unfoldable pub cells_played : State → List ℕ → List Call → List ℕ
cells_played s m [] = m
cells_played s m (c ∷ cs) = cells_played (after s c) (cells_after s c m) cs

-- Where making is refused: each call answers making's number.
unfoldable pub refused_blocks : ℕ → List Call → List ℕ
refused_blocks n [] = []
refused_blocks n (c ∷ cs) = block c (refused n) ++ refused_blocks n cs

-- ── How much room a script takes ────────────────────────────────────────────

unfoldable pub most_lent : List Call → ℕ
most_lent [] = 0
most_lent (c ∷ cs) = max (lent_of c) (most_lent cs)

unfoldable pub all_sizes : List Call → ℕ
all_sizes [] = 0
all_sizes (c ∷ cs) = size c + all_sizes cs

-- The most bytes of cell memory that are lent, to making or a call.
unfoldable pub cells_needed : Script → ℕ
cells_needed d = max d.lent (most_lent d.calls)

-- The bytes of all answers, with the 17 before them.
unfoldable pub out_needed : Script → ℕ
out_needed d = 17 + all_sizes d.calls

-- 13: the cell memory or the room for the answers is short.
unfoldable pub short : Script → ℕ → ℕ → Bool
short d cells out = ltb cells (cells_needed d) || ltb out (out_needed d)

-- ── A script ────────────────────────────────────────────────────────────────

-- Making's number or 0, how many calls, how many bytes in all.
unfoldable pub header : ℕ → Script → List ℕ
header n d = n ∷ (number_bytes (length d.calls) ++ number_bytes (out_needed d))

-- The cell memory after making.
unfoldable pub cells_made : Script → List ℕ → List ℕ
cells_made d m = lend d.lent (make_memory d.shape) m

unfoldable pub made_bytes : Script → List ℕ → List ℕ
made_bytes d m = header 0 d ++ blocks (new d.shape d.entry) (cells_made d m) d.calls

unfoldable pub refused_bytes : Script → ℕ → List ℕ
refused_bytes d n = header n d ++ refused_blocks n d.calls

unfoldable pub script_answers : Script → List ℕ → List ℕ
script_answers d m = when_some (make_refusal d.shape d.lent) (made_bytes d m) (refused_bytes d)

unfoldable pub script_cells : Script → List ℕ → List ℕ
script_cells d m =
    when_some (make_refusal d.shape d.lent) (cells_played (new d.shape d.entry) (cells_made d m) d.calls) (λ (n : ℕ). m)

-- ── The call: of a list of bytes, the cell memory and the room for the answers ─

unfoldable pub play_answer : List ℕ → List ℕ → List ℕ → ℕ
play_answer l m out = when_some (decode l) 14 (λ (d : Script). cond (short d (length m) (length out)) 13 (out_needed d))

unfoldable pub play_cells : List ℕ → List ℕ → List ℕ → List ℕ
play_cells l m out = when_some (decode l) m (λ (d : Script). cond (short d (length m) (length out)) m (script_cells d m))

unfoldable pub play_out : List ℕ → List ℕ → List ℕ → List ℕ
play_out l m out =
    when_some (decode l) out (λ (d : Script). cond (short d (length m) (length out)) out (splice 0 (script_answers d m) out))

-- All of these unfold where a line says `unfolding playing`.
unfoldable pub playing : Unit {0}
unfolding lent_of lend cells_after block_of blocks cells_played refused_blocks most_lent all_sizes cells_needed out_needed short header
    cells_made made_bytes refused_bytes script_answers script_cells play_answer play_cells play_out
playing = tt
