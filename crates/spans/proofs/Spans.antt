-- In every run of `forecast` each row has at most 95 cells, and none loses one.
use Prim.Native.Nat.{ℕ}
use native.Mathlib.Omega.{arith}
use mathlib.Core.Path.{refl, sym, subst}
use mathlib.Core.List.{List}
use Rattle.laws.specs.Lists.{All}
use Rattle.laws.specs.Texts.{Text}
use Rattle.model.specs.State.{State}
use Rattle.model.specs.Everything.{everything}
use Rattle.model.specs.Forecast.{Run, cycle, finished, forecast_run, fuel_for, going, line_refused, not_made}
use Rattle.runs.proofs.Tracks.{all-weaken}
use Rattle.ending.specs.Ending.{begun}
use Rattle.ending.proofs.Work.{unit-work}
use Rattle.ending.proofs.Ending.{as-run}
use Rattle.ending.proofs.Along.{Along, EngineOf, Keeps, along, along-engine}
use Rattle.spans.specs.Spans.{LongRow, RowShort, RunShort, Spans, most_cells}
use Rattle.spans.proofs.Cells.{Within}
use Rattle.spans.proofs.Short.{Short, short-cycle, short-fetched}

-- At first there are two idle units, and no row.
short-keeps : Keeps Short
unfolding everything unit-work
short-keeps =
    record {
      first = λ cells. record { few = record { queued = tt; placed = (omega arith, (omega arith, tt)) }; two = refl; rows = tt };
      cycle = short-cycle;
      fetch = short-fetched;
    }

rows_short : (s : State) → Short s → All RowShort s.log.rows
rows_short s x =
    all-weaken (Within _) RowShort (λ r w. record { cells_few = omega (arith, w.cells); none_lost = w.none_lost }) s.log.rows x.rows

run_short : (r : Run) → EngineOf Short r → RunShort r
run_short (not_made r m) x = tt
run_short (line_refused n r m) x = tt
run_short (finished e) x = rows_short e.engine x
run_short (going e rest n) x = rows_short e.engine x

pub rows-stay-short : (input : Text) (cells : List ℕ) → Spans input cells
rows-stay-short input cells =
    record {
      between_turns = after;
      at_the_end = subst RunShort (sym (as-run input cells)) (after (fuel_for input));
      in_a_turn = λ k e rest n q.
          let h = subst (Along Short input) q (along Short short-keeps input cells k) in
          rows_short (cycle e).engine (short-cycle input e rest n h.0 h.1);
    }
  where
    after : (k : ℕ) → RunShort (forecast_run k (begun input cells))
    after k =
        let r = forecast_run k (begun input cells) in
        run_short r (along-engine Short input r (along Short short-keeps input cells k))

pub long-row : LongRow
unfolding everything most_cells
long-row = refl
