-- What is printed of a run, by how it stands.
use Prim.Native.Nat.{ℕ, ◌≤◌}
use mathlib.Core.Path.{◌≡◌, refl, ap}
use mathlib.Core.List.{List, [], ◌++◌}
use native.Mathlib.Omega.{arith}
use lib.ListN.{length, length-append}
use Rattle.laws.specs.Texts.{Text, bytes, utf8, decimal}
use Rattle.capability.specs.declared.Refusal.{Refusal}
use Rattle.capability.specs.Refusals.{refusal_number}
use Rattle.model.specs.State.{Stats}
use Rattle.model.specs.Forecast.{lent_of, rows_text, totals_text, refused_text, printed, cells_left}
use Rattle.timeline.specs.View.{view_rows}
use Rattle.stalls.specs.View.{view_log, view_stats}
use Rattle.board.specs.View.{view_board}
use Rattle.scoreboard.specs.declared.ScoreboardPipeline.{ScoreboardPipeline}
use Rattle.scoreboard.specs.View.{view_engine}
use Rattle.engine.specs.View.{view_engine as engine-view}
use Rattle.driving.specs.declared.Standing.{Standing}
use Rattle.driving.specs.declared.Standing.TheVariants.{Running, Finished, Refused}
use Rattle.driving.specs.declared.Going.{Going}
use Rattle.driving.specs.Runs.{run_by, view_run}
use Rattle.pages.proofs.Lengths.{decimal-most}

module _ (input : Text) (e : ScoreboardPipeline) (g : Going) (m : List ℕ) where
  pub run-cells : cells_left (view_run input e g m) ≡ m
  unfolding view_run run_by cells_left
  run-cells = go g.stands
    where
      go : (s : Standing) → cells_left (run_by s input e g m) ≡ m
      go Running = refl
      go Finished = refl
      go (Refused r) = refl

  -- By how it stands.
  printed-by : {s : Standing} → g.stands ≡ s → printed (view_run input e g m) ≡ printed (run_by s input e g m)
  unfolding view_run
  printed-by h = ap (λ s. printed (run_by s input e g m)) h

  pub none-printed : g.stands ≡ Running → printed (view_run input e g m) ≡ []
  unfolding run_by printed
  none-printed h = printed-by h

  pub refused-printed : {r : Refusal} → g.stands ≡ Refused r → printed (view_run input e g m) ≡ refused_text g.lines (refusal_number r)
  unfolding run_by printed
  refused-printed h = printed-by h

  pub rows-printed : g.stands ≡ Finished
      → printed (view_run input e g m)
      ≡ rows_text (lent_of (view_engine e) m) (view_rows e.window e.tracks e.rows) ++ totals_text (view_stats e.board.log.stats)
  unfolding run_by printed engine-view view_board view_log
  rows-printed h = printed-by h

-- ── How long it is ──────────────────────────────────────────────────────────

pub refused-most : (n r : ℕ) → length (refused_text n r) ≤ 55
unfolding refused_text bytes utf8
refused-most n r =
    omega (
      arith,
      length-append (bytes "line ") (decimal n ++ (bytes " refused " ++ (decimal r ++ bytes "\n"))),
      length-append (decimal n) (bytes " refused " ++ (decimal r ++ bytes "\n")),
      length-append (bytes " refused ") (decimal r ++ bytes "\n"),
      length-append (decimal r) (bytes "\n"),
      decimal-most n,
      decimal-most r,
    )

pub totals-most : (a : Stats) → length (totals_text a) ≤ 87
unfolding totals_text bytes utf8
totals-most a =
    let c = decimal a.committed ++ (bytes " stalls " ++ (decimal a.stalls ++ bytes "\n")) in
    omega (
      arith,
      length-append (bytes "cycles ") (decimal a.cycles ++ (bytes " committed " ++ c)),
      length-append (decimal a.cycles) (bytes " committed " ++ c),
      length-append (bytes " committed ") c,
      length-append (decimal a.committed) (bytes " stalls " ++ (decimal a.stalls ++ bytes "\n")),
      length-append (bytes " stalls ") (decimal a.stalls ++ bytes "\n"),
      length-append (decimal a.stalls) (bytes "\n"),
      decimal-most a.cycles,
      decimal-most a.committed,
      decimal-most a.stalls,
    )
