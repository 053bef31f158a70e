use mathlib.Core.Path.{refl, sym, subst, ap, ap₂, ◌∙◌}
use mathlib.Core.Bool.{not, ◌&&◌}
use mathlib.Core.Logic.{inl, inr}
use Rattle.std.specs.Prelude.{option_map}
use Rattle.laws.specs.Lists.{All, modify}
use Rattle.laws.proofs.Slices.{seen-get_or}
use Rattle.model.specs.Config.{is_system}
use Rattle.model.specs.Registers.{release_all}
use Rattle.model.specs.Units.{clear, without_waits}
use Rattle.model.specs.State.{marks}
use Rattle.model.specs.Issue.{complete_at}
use Rattle.op.specs.Chars.{view_text}
use Rattle.registers.specs.View.{view_claims}
use Rattle.stalls.specs.View.{listed}
use Rattle.stalls.specs.Promises.{Known}
use Rattle.units.specs.View.{view_unit}
use Rattle.bank.specs.View.{view_units, slots, places, UnitKnows}
use Rattle.bank.proofs.Steps.{unit_ok, places-next}
use Rattle.board.specs.View.{view_board}
use Rattle.board.specs.Promises.{queue_places}
use Rattle.board.proofs.Parts.{
  state-by,
  none_inside,
  none_offered,
  place_inside,
  unit-seen,
  claims-kept,
  released-length,
  names-kept,
  log-names,
  and-joined,
  alike_self,
  looks-kept,
}
use Rattle.board.proofs.Knowing.{knows-kept, knows-map, knows-modify, clear-knows, without_waits-knows}
use Rattle.board.proofs.Counting.{names_more, left-apart, left-more}
use Rattle.board.proofs.Vacancy.{Empty, empty_left}
use Rattle.board.proofs.Board.complete.Goals as goal
use Rattle.board.proofs.Board.complete.Goals.{then-not-u, else-not-u, then-not-is_system, else-not-is_system}

pub returns : goal.returns
unfolding view_board view_unit complete_at queue_places
returns c = let b = c.args.self.now in
    let at = c.args.at in
    let ok = c.requires.board_ok in
    let h = c.requires.at_lt_len in
    let place = seen-get_or (places-next ok.units _ h) 80 in
    let e = c.complete.ensures in
    let f = rw c.writes.ensures at c.release_all.ensures in
    let o = c.none-self.ensures in
    let n = b.claims.len in
    let k = claims-kept ok.claims f (released-length at (view_claims b.claims) _) in
    record {
      is =
          λ x.
          let v = unit-seen ok.units x.legend _ h in
          state-by (e.is x.legend) refl (names-kept x b _ k)
          (f.is ∙ ap (λ u. release_all at (view_claims b.claims) u.destinations) (sym v))
          (ap₂ marks
          (and-joined (elim c.if-not-u.branch [ then-not-u w ↦ inl (w.if-not-u.true, w.self-is) | else-not-u w ↦ inr (w.if-not-u.false, w.self-is) ])
          ∙ ap (λ u. not u.redirects && b.marks.branch) (sym v))
          (and-joined
          (elim c.if-not-is_system.branch [ then-not-is_system w ↦ inl (w.if-not-is_system.true, w.self-is) | else-not-is_system w ↦ inr (w.if-not-is_system.false, w.self-is) ])
          ∙ ap (λ t. not t && b.marks.system) (c.is_system.ensures ∙ ap (λ u. is_system u.class) (sym v))))
          (none_offered o) refl
          (log-names x (option_map view_text b.status) b.log (names-kept x b _ k));
      ok =
          record {
            units = e.ok;
            queue = ok.queue;
            claims = f.ok;
            log = ok.log;
            offer = none_inside o c.complete.new.self.len;
            status = ok.status;
            gone = (unit_ok ok.units _ h).place;
            knows =
                subst (λ l. All (UnitKnows l) (slots c.complete.new.self)) (sym k)
                (knows-kept n b.units e
                (λ g k.
                knows-map n (without_waits at) (without_waits-knows n at) (modify at clear (view_units g b.units))
                (knows-modify n at clear (clear-knows n) (view_units g b.units) k))
                ok.knows);
            known = subst (λ l. All (Known l) (listed b.log.traces)) (sym k) ok.known;
          };
      waits = refl;
      apart = left-apart b _ (place_inside ok.units h) e.places place refl;
      named = names_more (places b.units) _ (left-more (places b.units) (place_inside ok.units h) e.places place) (listed b.log.traces);
      vacant = λ w v. empty_left ok.units h e c.none-self.result.writing (subst (Empty b.units) w v);
      offer = ap (λ o. o.writing) o;
      looks = λ x. looks-kept x b _ k (alike_self b.queue);
      known = k;
    }
