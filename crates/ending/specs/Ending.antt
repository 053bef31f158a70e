-- The program `forecast` always ends: its fuel is never the reason to stop, and turn after turn without fuel makes the same run.
use Rattle.std.specs.Prelude.{ℕ, suc, ◌+◌, ◌*◌, ◌≤◌, ◌<◌, ◌≡◌, Bool, true, false, cond, List, [], ◌∷◌, eqb, replicate}
use Rattle.laws.specs.Texts.{Text, bytes}
use Rattle.model.specs.Scoreboard.{idle}
use Rattle.model.specs.Calls.{Made, no_machine, made, make, make_memory, overlap}
use Rattle.model.specs.Forecast.{Lent, lent_of, play, Run, not_made, line_refused, finished, going, forecast_shape, turn, forecast_run, excess, forecast_of}

-- How many lines an input has: one more than its bytes 10 that have a byte behind them; none where it is empty.
unfoldable pub line_count : Text → ℕ
line_count [] = 0
line_count (x ∷ []) = 1
line_count (x ∷ y ∷ ys) = cond (eqb x 10) 1 0 + line_count (y ∷ ys)

-- ── How a run ends ──────────────────────────────────────────────────────────

-- The lines are used up, and nothing is in flight.
pub record UsedUp (input : Text) (e : Lent) : Type 0 where
  pub nothing_in_flight : idle e.engine ≡ true
  -- Each line was fetched, and each was retired.
  pub all_fetched : e.engine.front.next_seq ≡ line_count input
  pub all_retired : e.engine.log.stats.committed ≡ line_count input
  -- At most 25 cycles for each line: one each to be fetched, to issue, to read, to go to write and to be offered; at most 20 to execute.
  pub cycles_few : e.engine.log.stats.cycles ≤ 25 * line_count input

-- Making is refused with 13 only. A refused line is one of the input's, or 0 for excess input. No run is still going.
abbrev pub Outcome : Text → Run → Type 0
Outcome input (not_made r m) = r ≡ 13
Outcome input (line_refused n r m) = n ≤ line_count input
Outcome input (finished e) = UsedUp input e
Outcome input (going e rest n) = ⊥

-- ── The run by turns alone ──────────────────────────────────────────────────

-- It is no longer going.
abbrev pub is_over : Run → Bool
is_over (not_made r m) = true
is_over (line_refused n r m) = true
is_over (finished e) = true
is_over (going e rest n) = false

-- Before the first turn.
unfoldable pub begun_made : Made → Text → List ℕ → Run
begun_made (no_machine r) input cells = not_made r cells
begun_made (made s) input cells =
    elim (excess input) [
      | true ↦ line_refused 0 14 cells
      | false ↦ going (play (overlap true) (lent_of s (make_memory forecast_shape cells))) input 0
    ]

unfoldable pub begun : Text → List ℕ → Run
begun input cells = begun_made (make forecast_shape 0 cells) input cells

-- One turn more, where it is not over.
unfoldable pub next_turn : Run → Run
next_turn (not_made r m) = not_made r m
next_turn (line_refused n r m) = line_refused n r m
next_turn (finished e) = finished e
next_turn (going e rest n) = turn e rest n

-- ── The statement ───────────────────────────────────────────────────────────

pub record Ending (input : Text) (cells : List ℕ) : Type 0 where
  pub ends : Outcome input (forecast_of input cells)
  -- The run after k turns: each is made of the last, more than 25 for each line are enough, and where k are enough it is `forecast_of`.
  pub no_turn : forecast_run 0 (begun input cells) ≡ begun input cells
  pub one_more : (k : ℕ) → forecast_run (suc k) (begun input cells) ≡ next_turn (forecast_run k (begun input cells))
  pub enough : (k : ℕ) → 25 * line_count input < k → is_over (forecast_run k (begun input cells)) ≡ true
  pub same_run : (k : ℕ) → is_over (forecast_run k (begun input cells)) ≡ true → forecast_run k (begun input cells) ≡ forecast_of input cells

-- ── The bound is met ────────────────────────────────────────────────────────

abbrev pub cycles_of : Run → ℕ
cycles_of (not_made r m) = 0
cycles_of (line_refused n r m) = 0
cycles_of (finished e) = e.engine.log.stats.cycles
cycles_of (going e rest n) = 0

-- A division alone takes 25 cycles.
abbrev pub BoundMet : Type 0
BoundMet = cycles_of (forecast_of (bytes "D 4 - x1 divide") (replicate 51200 255)) ≡ 25
