use Prim.Native.Nat.{ℕ}
use mathlib.Core.Path.{refl, sym, subst, ap}
use mathlib.Core.List.{map}
use Rattle.std.specs.Prelude.{Option, None, Some}
use Rattle.laws.specs.Lists.{All}
use Rattle.laws.proofs.Maps.{length-of}
use Rattle.model.specs.Units.{clear}
use Rattle.model.specs.Write.{abandon, stopped}
use Rattle.op.specs.Chars.{view_text}
use Rattle.registers.specs.View.{view_claims}
use Rattle.flight.specs.declared.Queued.{Queued}
use Rattle.stalls.specs.View.{listed, view_trace, view_traces, view_log}
use Rattle.stalls.specs.Promises.{Known}
use Rattle.bank.specs.View.{view_units, slots, UnitKnows}
use Rattle.board.specs.View.{view_board}
use Rattle.board.specs.Promises.{queue_places}
use Rattle.board.proofs.Parts.{state-by, none_inside, none_offered, claims-kept, names-kept, log-names}
use Rattle.board.proofs.Knowing.{knows-kept, knows-map, clear-knows}
use Rattle.board.proofs.Vacancy.{none-placed}
use Rattle.board.proofs.Board.stop.Goals as goal

abbrev nobody : Option ℕ → Option ℕ
nobody p = None

pub returns : goal.returns
unfolding view_board view_log view_traces view_trace abandon stopped queue_places
returns c = let b = c.args.self.now in
    let ok = c.requires.board_ok in
    let e = c.clear.ensures in
    let f = c.flush.ensures in
    let h = c.clear_claims.ensures in
    let o = c.none-self.ensures in
    let k = claims-kept ok.claims h (length-of nobody (view_claims b.claims)) in
    let n = b.claims.len in
    record {
      is =
          λ x. state-by (e.is x.legend) (f.is x.legend) (names-kept x b _ k) h.is refl (none_offered o) refl
          (log-names x (Some (view_text c.args.note)) b.log (names-kept x b _ k));
      ok =
          record {
            units = e.ok;
            queue = f.ok;
            claims = h.ok;
            log = ok.log;
            offer = none_inside o c.clear.new.self.len;
            status = c.requires.len_bound;
            gone = ok.gone;
            knows =
                subst (λ n. All (UnitKnows n) (slots c.clear.new.self)) (sym k)
                (knows-kept n b.units e (λ g. knows-map n clear (clear-knows n) (view_units g b.units)) ok.knows);
            known = subst (λ n. All (Known n) (listed b.log.traces)) (sym k) ok.known;
          };
      places = e.places;
      queue = ap (map (λ (x : Queued). x.place)) f.entries;
      gone = refl;
      waits = refl;
      vacant = none-placed c.clear.new.self b.units.len e.places c.none-self.result.writing;
      known = k;
    }
