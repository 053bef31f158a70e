use mathlib.Core.Path.{refl, sym, subst, ap, ◌∙◌}
use native.Mathlib.Omega.{arith}
use lib.ListN.{take, length}
use Rattle.laws.specs.Lists.{All}
use Rattle.model.specs.State.{front_of}
use Rattle.registers.proofs.Owing.{claims-length}
use Rattle.stalls.specs.Promises.{Known}
use Rattle.bank.specs.View.{slots, UnitKnows}
use Rattle.board.specs.View.{boards}
use Rattle.board.proofs.Parts.{state-by, none_inside, none_offered}
use Rattle.board.proofs.Vacancy.{none-placed}
use Rattle.board.proofs.Board.new.Goals as goal

pub returns : goal.returns
unfolding boards
returns c = let q = c.new.ensures in
    let o = c.none.ensures in
    let h = c.new-2.ensures in
    let l = c.new-4.ensures in
    let k = sym (claims-length h.ok) ∙ ap length h.is in
    record {
      is =
          λ x. state-by refl (q.is x.legend) (ap (λ n. take n x.legend.names) k) h.is refl (none_offered o)
          (ap (λ f. front_of f.enabled f.halted f.faulted f.in_cycle f.invited c.args.entry x.next x.next) c.new-3.ensures)
          (l.is _);
      ok =
          record {
            units = c.requires.units_ok;
            queue = q.ok;
            claims = h.ok;
            log = l.ok;
            offer = none_inside o c.args.units.len;
            status = tt;
            gone = omega arith;
            knows = subst (λ n. All (UnitKnows n) (slots c.args.units)) (sym k) c.requires.all;
            known = subst (All (Known c.new-2.result.len)) (sym l.waits) tt;
          };
      units = refl;
      queue = q.entries;
      gone = refl;
      waits = l.waits;
      vacant = none-placed c.args.units c.args.units.len c.requires.units_value c.none.result.writing;
      known = k;
    }
