use mathlib.Core.Path.{refl, sym, subst, ap, ◌∙◌}
use mathlib.Core.List.{map, map-map}
use native.Mathlib.Omega.{arith}
use Rattle.std.specs.Prelude.{None}
use Rattle.laws.specs.Lists.{All}
use Rattle.model.specs.Units.{clear_hazard}
use Rattle.model.specs.Write.{open_cycle}
use Rattle.flight.specs.declared.Queued.{Queued}
use Rattle.flight.specs.View.{entries}
use Rattle.flight.specs.Promises.{hazardous}
use Rattle.stalls.specs.View.{view_log}
use Rattle.stalls.specs.Promises.{Known}
use Rattle.bank.specs.View.{view_units}
use Rattle.board.specs.View.{log_frame, boards}
use Rattle.board.specs.Promises.{queue_places}
use Rattle.board.proofs.Parts.{state-by, offer_kept, alike-hazards, looks-kept}
use Rattle.board.proofs.Knowing.{knows-kept, knows-map, clear_hazard-knows}
use Rattle.board.proofs.Vacancy.{clear_hazard-busy, empty-map}
use Rattle.board.proofs.Board.open.Goals as goal

pub returns : goal.returns
unfolding boards view_log open_cycle queue_places
returns c = let b = c.args.self.now in
    let ok = c.requires in
    let e = c.clear_hazards.ensures in
    let f = c.clear_hazards-2.ensures in
    let h = c.open.ensures in
    let n = b.claims.len in
    record {
      is = λ x. state-by (e.is x.legend) (f.is x.legend) refl refl refl refl refl (h.is (log_frame x b));
      ok =
          record {
            units = e.ok;
            queue = f.ok;
            claims = ok.claims;
            log = h.ok;
            offer = offer_kept b.offer.writing ok.units e refl ok.offer;
            status = ok.status;
            gone = omega arith;
            knows = knows-kept n b.units e (λ g. knows-map n clear_hazard (clear_hazard-knows n) (view_units g b.units)) ok.knows;
            known = subst (All (Known n)) (sym h.waits) tt;
          };
      places = e.places;
      queue = ap (map (λ (x : Queued). x.place)) f.entries ∙ map-map (λ (x : Queued). x.place) (hazardous None) (entries b.queue);
      gone = refl;
      waits = h.waits;
      vacant = empty-map b.units clear_hazard clear_hazard-busy e b.offer.writing;
      offer = refl;
      looks = λ x. looks-kept x b _ refl (alike-hazards b.queue f);
      known = refl;
    }
