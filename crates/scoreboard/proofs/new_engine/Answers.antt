use mathlib.Core.Path.{◌≡◌, refl, sym, subst, ap, ◌∙◌}
use mathlib.Core.Bool.{false}
use Rattle.std.specs.Prelude.{None as no-status}
use mathlib.Core.List.{[], map}
use native.Mathlib.Omega.{arith}
use lib.Dec.{T}
use lib.ListN.{length}
use Rattle.laws.specs.Lists.{All}
use Rattle.laws.proofs.Choices.{false-T}
use Rattle.model.specs.Config.{capacities}
use Rattle.model.specs.State.{State, no_stats, front_of, log_of}
use Rattle.registers.specs.View.{Table}
use Rattle.registers.proofs.NameTable.{known-length}
use Rattle.timeline.specs.declared.Window.{Window}
use Rattle.timeline.specs.View.{from, view_rows}
use Rattle.config.specs.View.{view_machine}
use Rattle.flight.specs.declared.Queued.{Queued}
use Rattle.flight.specs.View.{nothing_carried}
use Rattle.bank.specs.View.{places}
use Rattle.board.specs.View.{Frame, view_board}
use Rattle.board.specs.Promises.{queue_places, taken_places, Names}
use Rattle.board.proofs.Parts.{state-by}
use Rattle.engine.specs.View.{view_engine}
use Rattle.scoreboard.specs.Calls.{new_state}
use Rattle.engine.proofs.Dropping.{empty-looks}
use Rattle.scoreboard.proofs.Fresh.{built_places, built_knows, empty-apart}
use Rattle.scoreboard.proofs.new_engine.Goals as goal

pub new-requires-clause-units_value : goal.new-requires-clause-units_value
new-requires-clause-units_value c = built_places (view_machine c.args.machine).specs c.build.ensures

pub new-requires-clause-all : goal.new-requires-clause-all
new-requires-clause-all c = built_knows (view_machine c.args.machine).specs c.build.ensures 0

pub returns : goal.returns
unfolding new_state view_engine view_board view_rows from queue_places
returns c = let fresh = c.new.ensures in
    let win = c.new-2.ensures in
    let table = c.new-5.ensures in
    let none = sym (known-length table.ok) ∙ ap (λ (t : Table). length t.known) table.is in
    let x : Frame =
    record {
      legend = record { carried = λ p. nothing_carried; names = [] };
      machine = view_machine c.args.machine;
      rows = [];
      next = 0;
    } in
    let idle : c.new.result.front.in_cycle ≡ false = ap (λ (t : State). t.front.in_cycle) (fresh.is x) in
    record {
      is =
          fresh.is _
          ∙ state-by (c.build.ensures.is _) refl refl refl refl refl
          (ap (λ (k : Window). front_of false false false false false c.args.entry k.next k.next) win.is)
          (ap (λ (k : Window). log_of no_stats [] (view_rows k c.new-3.result c.new-7.result) no-status) win.is);
      ok =
          record {
            board = fresh.ok;
            window = win.ok;
            tracks = c.new-3.ensures.ok;
            rows = c.new-7.ensures.ok;
            machine = c.requires;
            table = table.ok;
            decoded = c.new-4.ensures.ok;
            texts = c.new-6.ensures.ok;
            history = ap (λ (k : Window). k.history) win.is ∙ omega (arith, c.requires.history_least);
            known = none ∙ sym fresh.known;
            looks = empty-looks _ c.new.result fresh.queue (ap (λ (t : Table). length t.held) table.is ∙ sym fresh.known);
            apart =
                empty-apart c.new.result (capacities (view_machine c.args.machine).specs)
                (ap places fresh.units ∙ c.build.ensures.places) (ap (map (λ (q : Queued). q.place)) fresh.queue) fresh.gone;
            vacant = fresh.vacant;
            begun = λ h o. false-T c.new.result.front.in_cycle idle (subst T (sym h) tt);
            named = λ h. subst (All (Names (taken_places c.new.result))) (sym fresh.waits) tt;
          };
    }
