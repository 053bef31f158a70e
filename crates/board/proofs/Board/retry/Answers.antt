use mathlib.Core.Path.{refl, sym, subst, ap, ◌∙◌}
use mathlib.Core.Bool.{true}
use Rattle.model.specs.Units.{with_busy}
use Rattle.model.specs.Write.{put_back, retry}
use Rattle.stalls.specs.View.{view_trace, view_traces, view_log}
use Rattle.bank.specs.View.{view_units}
use Rattle.board.specs.View.{boards}
use Rattle.board.specs.Promises.{queue_places}
use Rattle.board.proofs.Parts.{state-by, offer_inside, none_inside, none_offered, alike_self, looks-kept}
use Rattle.board.proofs.Vacancy.{Empty, empty_back}
use Rattle.board.proofs.Knowing.{knows-kept, knows-modify, busy-knows}
use Rattle.board.proofs.Board.retry.Goals as goal

pub returns : goal.returns
unfolding boards view_log view_traces view_trace retry put_back queue_places
returns c = let b = c.args.self.now in
    let at = c.args.at in
    let ok = c.requires.board_ok in
    let w = c.requires.offer in
    let o = c.none-self.ensures in
    let e = c.set_busy.ensures in
    let n = b.claims.len in
    record {
      is =
          λ x. state-by (e.is x.legend ∙ sym (ap (λ o. put_back o (view_units x.legend b.units)) w)) refl refl refl refl
          (none_offered o) refl refl;
      ok =
          record {
            units = e.ok;
            queue = ok.queue;
            claims = ok.claims;
            log = ok.log;
            offer = none_inside o c.set_busy.new.self.len;
            status = c.requires.len_bound;
            gone = ok.gone;
            knows = knows-kept n b.units e (λ g. knows-modify n at (with_busy true) (busy-knows n true) (view_units g b.units)) ok.knows;
            known = ok.known;
          };
      still =
          record {
            places = e.places;
            queue = refl;
            gone = refl;
            waits = refl;
            vacant = λ v. empty_back ok.units (offer_inside ok w) e c.none-self.result.writing (subst (Empty b.units) w v);
            looks = λ x. looks-kept x b _ refl (alike_self b.queue);
            known = refl;
          };
    }
