use mathlib.Core.Path.{refl, sym, subst, ap, ◌∙◌}
use Rattle.std.specs.Prelude.{Some}
use mathlib.Core.List.{[], ◌∷◌, ◌++◌, map}
use Rattle.laws.specs.Lists.{All, modify}
use Rattle.laws.proofs.Slices.{All-append}
use Rattle.model.specs.Op.{Op, with_hazard}
use Rattle.model.specs.State.{stall_all}
use Rattle.flight.specs.declared.Queued.{Queued}
use Rattle.flight.specs.View.{view_queue, entries}
use Rattle.registers.specs.View.{view_operands}
use Rattle.stalls.specs.View.{view_trace, listed, view_log}
use Rattle.stalls.specs.Promises.{Known}
use Rattle.board.specs.View.{log_frame, boards}
use Rattle.board.specs.Promises.{queue_places}
use Rattle.board.proofs.Parts.{state-by}
use Rattle.issuing.specs.Steps.{trace_by}
use Rattle.issuing.proofs.Moving.{front-item, front_kept, one_more}
use Rattle.issuing.proofs.block.Goals as goal

pub returns : goal.returns
unfolding boards queue_places
returns c =
    let b = c.args.board.now in
    let w = c.args.blocked.form in
    let n = c.args.blocked.number in
    let ok = c.requires.board_ok in
    let e = c.block_front.ensures in
    let h = c.stall.ensures in
    let l = listed b.log.traces in
    record {
      is =
          λ q f x. state-by refl
          (e.is x.legend ∙ ap (λ t. modify 0 (with_hazard (Some t)) (view_queue x.legend b.queue)) c.kind_of.ensures)
          refl refl refl refl refl
          (h.is (log_frame x b)
          ∙ ap
          (λ (y : Queued). stall_all (view_trace (log_frame x b) b.log.traces.target (trace_by w y n) ∷ []) (view_log (log_frame x b) b.log))
          (front-item ok.queue _ f));
      ok =
          record {
            units = ok.units;
            queue = e.ok;
            claims = ok.claims;
            log = h.ok;
            offer = ok.offer;
            status = ok.status;
            gone = ok.gone;
            knows = ok.knows;
            known = subst (All (Known b.claims.len)) (sym h.waits) (All-append (Known b.claims.len) l (_ ∷ []) ok.known (c.requires.number_lt_len, tt));
          };
      few = one_more _ ok.log h.ok h.waits;
      waits = λ q f. h.waits ∙ ap (λ (y : Queued). l ++ trace_by w y n ∷ []) (front-item ok.queue _ f);
      units = refl;
      queue = ap (map (λ (x : Queued). x.place)) e.entries ∙ front_kept (λ (x : Queued). x.place) (λ x. refl) (entries b.queue);
      offer = refl;
      gone = refl;
      known = refl;
      alike =
          record {
            names = λ g. ap (map (λ (o : Op). o.info)) (e.is g) ∙ front_kept (λ (o : Op). o.info) (λ x. refl) (view_queue g b.queue);
            numbers =
                ap (map (λ (x : Queued). view_operands x.operands)) e.entries
                ∙ front_kept (λ (x : Queued). view_operands x.operands) (λ x. refl) (entries b.queue);
          };
    }
