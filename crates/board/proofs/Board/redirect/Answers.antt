use mathlib.Core.Path.{◌≡◌, refl, sym, subst, ap, ◌∙◌}
use mathlib.Core.Logic.{inl}
use Rattle.std.specs.Prelude.{Option, None}
use mathlib.Core.List.{[], ◌∷◌, ◌++◌, map}
use Prim.Native.Nat.{ℕ}
use native.Mathlib.Omega.{arith}
use lib.ListN.{length, length-append}
use Rattle.laws.specs.Lists.{All}
use Rattle.laws.proofs.Choices.{none-some}
use Rattle.laws.proofs.Slices.{All-append}
use Rattle.capability.specs.declared.PipelineHazardKind.TheVariants.{BranchFlush}
use Rattle.model.specs.Timeline.{push_all}
use Rattle.model.specs.Traces.{trace_of, redirect_to, FETCH, WRITE}
use Rattle.model.specs.State.{log_of, count_flush}
use Rattle.model.specs.Issue.{flushed_cell, flush, redirected}
use Rattle.model.specs.Scoreboard.{clear_status}
use Rattle.flight.specs.declared.Queued.{Queued}
use Rattle.flight.specs.View.{view_queue}
use Rattle.flight.proofs.Entries.{queue-length}
use Rattle.stalls.specs.View.{view_trace, listed, view_traces, view_stats, view_log}
use Rattle.stalls.specs.Promises.{redirect_trace, names_register, Known}
use Rattle.stalls.proofs.Logged.{listed-length}
use Rattle.board.specs.declared.Board.{Board}
use Rattle.board.specs.View.{known_names, log_frame, boards}
use Rattle.board.specs.Promises.{queue_places, Names, unit_places, with_frame_rows, Redirects}
use Rattle.board.proofs.Parts.{state-by, frame-with}
use Rattle.board.proofs.Counting.{dropped-apart}
use Rattle.board.proofs.Board.redirect.Goals as goal

redirects-so : {b r : Board} {t u : Option ℕ} → t ≡ u → Redirects b r t → Redirects b r u
redirects-so {b} {r} e = subst (Redirects b r) e

redirect-known : (n : ℕ) → Known n redirect_trace
unfolding names_register
redirect-known n e = absurd (let z : ◌≡◌ {A = ℕ} 0 1 = cc in omega arith)

pub returns-in-Some : goal.returns-in-Some
unfolding boards view_log view_traces view_trace redirected flush clear_status queue_places
returns-in-Some c = let b = c.args.self.now in
    let ok = c.requires.board_ok in
    let f = c.flush.ensures in
    let h = c.redirect.ensures in
    let n = b.claims.len in
    redirects-so (sym c.in-Some.is)
    (record {
      is =
          λ x.
          let q = view_queue x.legend b.queue in
          let rows = push_all (map flushed_cell q) x.rows in
          state-by refl (f.is x.legend) refl refl refl refl refl
          (h.is (frame-with (with_frame_rows rows x) (known_names x b) None)
          ∙ ap
          (λ k.
          log_of (count_flush k (view_stats b.log.stats))
          (view_traces (log_frame x b) b.log.traces ++ trace_of BranchFlush WRITE FETCH (redirect_to c.in-Some.target) ∷ []) rows None)
          (sym (queue-length ok.queue x.legend)));
      step =
          record {
            ok =
                record {
                  units = ok.units;
                  queue = f.ok;
                  claims = ok.claims;
                  log = h.ok;
                  offer = ok.offer;
                  status = tt;
                  gone = ok.gone;
                  knows = ok.knows;
                  known =
                      subst (All (Known n)) (sym h.waits)
                      (All-append (Known n) (listed b.log.traces) (redirect_trace ∷ []) ok.known (redirect-known n, tt));
                };
            few =
                omega (
                  arith,
                  listed-length h.ok,
                  listed-length ok.log,
                  ap length h.waits,
                  length-append (listed b.log.traces) (redirect_trace ∷ []),
                );
            apart = dropped-apart b _ refl (ap (map (λ (x : Queued). x.place)) f.entries) refl;
            named =
                λ a.
                subst (All (Names (unit_places b))) (sym h.waits)
                (All-append (Names (unit_places b)) (listed b.log.traces) (redirect_trace ∷ []) a
                (record { mine = inl refl; other = inl refl }, tt));
          };
      units = refl;
      vacant = λ v. v;
      offer = refl;
      stays = λ e. none-some _ (sym e);
      dropped = λ t e. f.entries;
      known = refl;
    })
