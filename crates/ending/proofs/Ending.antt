-- Every run of `forecast` ends, within 25 turns for each line and one more.
use Prim.Native.Nat.{ℕ, zero, suc, ◌+◌, ◌*◌, ◌≤◌}
use native.Mathlib.Omega.{arith}
use mathlib.Core.Path.{◌≡◌, refl, sym, ◌∙◌, ap, subst}
use mathlib.Core.Bool.{Bool, true, false, cond, false≢true}
use Rattle.std.specs.Prelude.{Option, None, Some}
use mathlib.Core.List.{List}
use lib.Dec.{ltb}
use lib.ListN.{length}
use borrow.Author.Tests.{ltb-false}
use Rattle.laws.specs.Optional.{when_some}
use Rattle.laws.specs.Texts.{Text}
use Rattle.laws.proofs.Choices.{none-some, some_inj}
use Rattle.model.specs.State.{new}
use Rattle.model.specs.Timeline.{clear_writes, write_all}
use Rattle.model.specs.Calls.{Made, calls, made, make, make_memory, make_refusal, no_machine, overlap}
use Rattle.model.specs.Everything.{everything}
use Rattle.model.specs.Forecast.{Lent, Run, excess, finished, forecast_made, forecast_of, forecast_run, forecast_shape, fuel_for, going, lent_of, line_refused, not_made, play, turn}
use Rattle.invariant.proofs.Invariant.{invariant-kept, invariant-made}
use Rattle.ending.specs.Ending.{BoundMet, Ending, Outcome, begun, begun_made, is_over, line_count, next_turn}
use Rattle.ending.proofs.Totals.{total}
use Rattle.ending.proofs.Work.{op-work, unit-work}
use Rattle.ending.proofs.Share.{op-share, share, unit-share}
use Rattle.ending.proofs.Counts.{in_flight-count, one-busy}
use Rattle.rows.proofs.Bytes.{write_all-length}
use Rattle.ending.proofs.Turn.{Between, Turned, left, lines-most, on, over, turned}

-- ── Turns ───────────────────────────────────────────────────────────────────

over-stays : (k : ℕ) (r : Run) → is_over r ≡ true → forecast_run k r ≡ r
unfolding forecast_run
over-stays zero r e = refl
over-stays (suc k) (not_made r m) e = refl
over-stays (suc k) (line_refused n r m) e = refl
over-stays (suc k) (finished l) e = refl
over-stays (suc k) (going l rest n) e = absurd (false≢true e)

pub one-turn-more : (k : ℕ) (r : Run) → forecast_run (suc k) r ≡ next_turn (forecast_run k r)
unfolding forecast_run next_turn
one-turn-more zero (not_made r m) = refl
one-turn-more zero (line_refused n r m) = refl
one-turn-more zero (finished e) = refl
one-turn-more zero (going e rest n) = refl
one-turn-more (suc k) (not_made r m) = refl
one-turn-more (suc k) (line_refused n r m) = refl
one-turn-more (suc k) (finished e) = refl
one-turn-more (suc k) (going e rest n) = one-turn-more k (turn e rest n)

-- A run that is over after k turns stays as it is.
pub run-stays : (k j : ℕ) (r : Run) → is_over (forecast_run k r) ≡ true → forecast_run (k + j) r ≡ forecast_run k r
unfolding forecast_run next_turn
run-stays k zero r e = let z : k + 0 ≡ k = omega arith in ap (λ (n : ℕ). forecast_run n r) z
run-stays k (suc j) r e =
    let z : k + suc j ≡ suc (k + j) = omega arith in
    ap (λ (n : ℕ). forecast_run n r) z ∙ one-turn-more (k + j) r ∙ ap next_turn (run-stays k j r e) ∙ stays (forecast_run k r) e
  where
    stays : (r : Run) → is_over r ≡ true → next_turn r ≡ r
    stays (not_made r m) e = refl
    stays (line_refused n r m) e = refl
    stays (finished l) e = refl
    stays (going l rest n) e = absurd (false≢true e)

pub over-same
    : (j k : ℕ) (r : Run) → is_over (forecast_run j r) ≡ true → is_over (forecast_run k r) ≡ true → forecast_run j r ≡ forecast_run k r
over-same j k r a b =
    let z : j + k ≡ k + j = omega arith in
    sym (run-stays j k r a) ∙ ap (λ (n : ℕ). forecast_run n r) z ∙ run-stays k j r b

-- ── Enough turns ────────────────────────────────────────────────────────────

outcome-over : (input : Text) (r : Run) → Outcome input r → is_over r ≡ true
outcome-over input (not_made r m) h = refl
outcome-over input (line_refused n r m) h = refl
outcome-over input (finished e) h = refl
outcome-over input (going e rest n) h = absurd h

-- With more turns than what is left the run ends.
reaches : (input : Text) (k more : ℕ) (r : Run) → Turned input more r → more ≤ k → Outcome input (forecast_run k r)
unfolding forecast_run
reaches input zero more r t l = go r t
  where
    go : (r : Run) → Turned input more r → Outcome input r
    go r (over q o) = o
    go r (on e rest n b m) = absurd (omega arith)
reaches input (suc k) more r t l = go (reaches input k) r t
  where
    go
        : ((m : ℕ) (q : Run) → Turned input m q → m ≤ k → Outcome input (forecast_run k q)) → (r : Run) → Turned input more r
        → Outcome input (forecast_run (suc k) r)
    go ih r (over q o) = subst (Outcome input) (sym (over-stays (suc k) q (outcome-over input q o))) o
    go ih r (on e rest n b m) = ih (left e rest) (turn e rest n) (turned input e rest n b) (omega arith)

-- ── The beginning ───────────────────────────────────────────────────────────

-- The only refusal of this machine is for short cells.
made-refusal : (lent : ℕ) → make_refusal forecast_shape lent ≡ cond (ltb lent 51200) (Some 13) None
unfolding everything
made-refusal lent = refl

module _ (input : Text) (cells : List ℕ) (p : make_refusal forecast_shape (length cells) ≡ None) where
  abbrev first-engine : Lent
  first-engine = play (overlap true) (lent_of (new forecast_shape 0) (make_memory forecast_shape cells))

  cells-long : 51200 ≤ length cells
  cells-long = go (ltb (length cells) 51200) refl (sym (made-refusal (length cells)) ∙ p)
    where
      go : (b : Bool) → ltb (length cells) 51200 ≡ b → cond {A = Option ℕ} b (Some 13) None ≡ None → 51200 ≤ length cells
      go true e q = none-some 13 (sym q)
      go false e q = ltb-false (length cells) 51200 e

  first-cells : length first-engine.cells ≡ length cells
  unfolding calls play write_all forecast_shape
  first-cells =
      ap (λ (o : Option ℕ). length (when_some o (write_all (clear_writes 256) cells) (λ (n : ℕ). cells))) p
      ∙ write_all-length (clear_writes 256) cells

  first-between : Between input first-engine input 0
  unfolding everything left share in_flight-count op-share unit-share op-work unit-work one-busy total
  first-between =
      record {
        invariant =
            invariant-kept (new forecast_shape 0) (overlap true) (invariant-made forecast_shape 0 (length cells) p);
        machine = refl;
        enabled = refl;
        running = refl;
        outside = refl;
        memory = omega (arith, first-cells, cells-long);
        lines = omega arith;
        number = refl;
        account = refl;
        time = omega arith;
      }

  first-left : left first-engine input ≡ 25 * line_count input
  unfolding everything left share op-share unit-share op-work unit-work total
  first-left = omega arith

pub begun-turned : (input : Text) (cells : List ℕ) → Turned input (suc (25 * line_count input)) (begun input cells)
unfolding begun begun_made make
begun-turned input cells = go (make_refusal forecast_shape (length cells)) refl
  where
    go
        : (o : Option ℕ) → make_refusal forecast_shape (length cells) ≡ o
        → Turned input (suc (25 * line_count input)) (begun_made (when_some o (made (new forecast_shape 0)) no_machine) input cells)
    go (Some r) p = over (not_made r cells) (thirteen (ltb (length cells) 51200) (sym (made-refusal (length cells)) ∙ p))
      where
        thirteen : (b : Bool) → cond {A = Option ℕ} b (Some 13) None ≡ Some r → r ≡ 13
        thirteen true e = sym (some_inj 13 r e)
        thirteen false e = none-some r e
    go None p = at (excess input)
      where
        at
            : (b : Bool)
            → Turned input (suc (25 * line_count input))
            (elim b [
              | true ↦ line_refused 0 14 cells
              | false ↦ going (play (overlap true) (lent_of (new forecast_shape 0) (make_memory forecast_shape cells))) input 0
            ])
        at true = over (line_refused 0 14 cells) (omega arith)
        at false = on (first-engine input cells p) input 0 (first-between input cells p) (omega (arith, first-left input cells p))

-- ── The theorem ─────────────────────────────────────────────────────────────

pub as-run : (input : Text) (cells : List ℕ) → forecast_of input cells ≡ forecast_run (fuel_for input) (begun input cells)
unfolding forecast_of forecast_made begun begun_made
as-run input cells = go (make forecast_shape 0 cells)
  where
    go : (x : Made) → forecast_made x input cells ≡ forecast_run (fuel_for input) (begun_made x input cells)
    go (no_machine r) = sym (over-stays (fuel_for input) (not_made r cells) refl)
    go (made s) = at (excess input)
      where
        at
            : (b : Bool)
            → elim b [
              | true ↦ line_refused 0 14 cells
              | false ↦ forecast_run (fuel_for input) (going (play (overlap true) (lent_of s (make_memory forecast_shape cells))) input 0)
            ]
            ≡ forecast_run (fuel_for input)
            (elim b [
              | true ↦ line_refused 0 14 cells
              | false ↦ going (play (overlap true) (lent_of s (make_memory forecast_shape cells))) input 0
            ])
        at true = sym (over-stays (fuel_for input) (line_refused 0 14 cells) refl)
        at false = refl

pub always-ends : (input : Text) (cells : List ℕ) → Ending input cells
unfolding forecast_run fuel_for
always-ends input cells =
    let out : Outcome input (forecast_run (fuel_for input) (begun input cells))
    = reaches input (fuel_for input) (suc (25 * line_count input)) (begun input cells) (begun-turned input cells) (omega (arith, lines-most input)) in
    record {
      ends = subst (Outcome input) (sym (as-run input cells)) out;
      no_turn = refl;
      one_more = λ k. one-turn-more k (begun input cells);
      enough = λ k l.
          outcome-over input (forecast_run k (begun input cells))
          (reaches input k (suc (25 * line_count input)) (begun input cells) (begun-turned input cells) l);
      same_run = λ k e.
          over-same k (fuel_for input) (begun input cells) e (outcome-over input (forecast_run (fuel_for input) (begun input cells)) out)
          ∙ sym (as-run input cells);
    }

pub bound-met : BoundMet
unfolding everything
bound-met = refl
