use mathlib.Core.Path.{refl, sym, subst, ap, ◌∙◌}
use mathlib.Core.List.{[], ◌∷◌, ◌++◌, map}
use native.Mathlib.Omega.{arith}
use Rattle.laws.specs.Lists.{All, keep}
use Rattle.model.specs.State.{stall_all}
use Rattle.model.specs.Units.{tick, begin, waits}
use Rattle.model.specs.Issue.{wait_trace, tick_execute, start_ready, read_operands}
use Rattle.stalls.specs.View.{listed, view_log}
use Rattle.stalls.specs.Promises.{Known}
use Rattle.bank.specs.View.{view_units, places}
use Rattle.telling.proofs.Tell.{tells_all}
use Rattle.board.specs.View.{known_names, log_frame, boards}
use Rattle.board.specs.Promises.{queue_places, Names}
use Rattle.board.proofs.Parts.{state-by, offer_kept, alike_self, looks-kept}
use Rattle.board.proofs.Knowing.{knows-kept}
use Rattle.board.proofs.Vacancy.{empty-stepped}
use Rattle.board.proofs.Counting.{more_left, same-apart}
use Rattle.cycle.proofs.Halves.{stepped-knows, told_names, read-traces}
use Rattle.cycle.proofs.step.Goals as goal

pub returns : goal.returns
unfolding boards queue_places read_operands start_ready tick_execute
returns c = let b = c.args.board.now in
    let us = c.step.new.self in
    let n = b.claims.len in
    let ok = c.requires.board_ok in
    let e = c.step.ensures in
    let l = c.list_waits.ensures in
    let knows = knows-kept n b.units e (λ g. stepped-knows n (view_units g b.units)) ok.knows in
    record {
      is =
          λ x.
          let w = map begin (map tick (view_units x.legend b.units)) in
          state-by (e.is x.legend) refl refl refl refl refl refl
          (l.is (log_frame x b)
          ∙ ap (λ v. stall_all (map (wait_trace v (known_names x b)) (keep waits v)) (view_log (log_frame x b) b.log)) (e.is x.legend)
          ∙ ap (λ ws. stall_all ws (view_log (log_frame x b) b.log)) (read-traces w (known_names x b)));
      step =
          record {
            ok =
                record {
                  units = e.ok;
                  queue = ok.queue;
                  claims = ok.claims;
                  log = l.ok;
                  offer = offer_kept b.offer.writing ok.units e refl ok.offer;
                  status = ok.status;
                  gone = ok.gone;
                  knows = knows;
                  known = tells_all (Known n) l (λ t w. w.known n knows) ok.known;
                };
            few = omega (arith, l.few, e.ok.few);
            apart = same-apart b _ e.places refl refl;
            named =
                λ a.
                told_names (places us ++ b.gone ∷ []) (more_left (places us) (b.gone ∷ [])) l
                (subst (λ ps. All (Names (ps ++ b.gone ∷ [])) (listed b.log.traces)) (sym e.places) a);
          };
      vacant = empty-stepped b.units e b.offer.writing;
      offer = refl;
      looks = λ x. looks-kept x b _ refl (alike_self b.queue);
      known = refl;
    }
