use mathlib.Core.Path.{refl, sym, subst, ap}
use native.Mathlib.Omega.{arith}
use Rattle.laws.specs.Lists.{All}
use Rattle.model.specs.Write.{take_out, offer_found}
use Rattle.stalls.specs.View.{listed}
use Rattle.stalls.specs.Promises.{Known, NoRedirect}
use Rattle.bank.specs.View.{view_units, places}
use Rattle.bank.proofs.Steps.{units-so}
use Rattle.writing.specs.View.{turned_away, view_tried}
use Rattle.telling.proofs.Tell.{tells_all}
use Rattle.board.specs.View.{log_frame, boards}
use Rattle.board.specs.Promises.{queue_places, Names}
use Rattle.board.proofs.Parts.{state-by, offer_kept, alike_self, looks-kept}
use Rattle.board.proofs.Knowing.{knows-kept}
use Rattle.board.proofs.Vacancy.{Empty, no_offer, empty-offered}
use Rattle.cycle.proofs.Halves.{marked-knows, taken-knows, told_names, none_listed}
use Rattle.cycle.proofs.offer_found.Goals as goal

pub take_out-requires-clause-found_lt_len : goal.take_out-requires-clause-found_lt_len
take_out-requires-clause-found_lt_len c =
    offer_kept c.args.tried.now.found c.requires.board_ok.units c.mark_blocked.ensures refl c.requires.tried_ok.found

pub returns : goal.returns
unfolding boards queue_places offer_found view_tried
returns c = let b = c.args.board.now in
    let n = b.claims.len in
    let tr = c.args.tried.now in
    let ok = c.requires.board_ok in
    let none = c.requires.traces_value in
    let marked = c.mark_blocked.ensures in
    let e = units-so c.take_out.ensures (λ g. ap (take_out tr.found) (marked.is g)) marked.places in
    let l = c.list_blocked.ensures in
    record {
      is = λ x. state-by (e.is x.legend) refl refl refl refl refl refl (l.is (log_frame x b));
      ok =
          record {
            units = e.ok;
            queue = ok.queue;
            claims = ok.claims;
            log = l.ok;
            offer = offer_kept tr.found ok.units e refl c.requires.tried_ok.found;
            status = ok.status;
            gone = ok.gone;
            knows = knows-kept n b.units e (λ g a. taken-knows n tr.found _ (marked-knows n (turned_away tr) (view_units g b.units) a)) ok.knows;
            known = tells_all (Known n) l (λ t c. c.known n ok.knows) ok.known;
          };
      places = e.places;
      queue = refl;
      begun =
          record {
            few = omega (arith, l.few, ok.units.few, none_listed ok.log none);
            none = tells_all NoRedirect l (λ t c. c.other_form) (subst (All NoRedirect) (sym none) tt);
            named =
                subst (λ ps. All (Names ps) (listed c.list_blocked.new.log.traces)) (sym e.places)
                (told_names (places b.units) (λ p h. omega arith) l (subst (All (Names (places b.units))) (sym none) tt));
            gone = c.requires.gone_value;
          };
      vacant = λ h v. empty-offered b.units (turned_away tr) tr.found e (no_offer b.units tr.found (subst (Empty b.units) h v));
      looks = λ x. looks-kept x b _ refl (alike_self b.queue);
      known = refl;
    }
