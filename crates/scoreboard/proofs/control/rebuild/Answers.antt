use mathlib.Core.Path.{◌≡◌, sym, ap, ◌∙◌}
use mathlib.Core.Bool.{Bool, false}
use mathlib.Core.Logic.{inr}
use Rattle.std.specs.List.{list_any}
use Rattle.model.specs.Units.{is_busy}
use Rattle.model.specs.Scoreboard.{rebuilt}
use Rattle.config.specs.View.{view_machine}
use Rattle.flight.specs.View.{Legend}
use Rattle.bank.specs.View.{view_units}
use Rattle.scoreboard.proofs.Fresh.{built_places, built_knows}
use Rattle.scoreboard.proofs.control.rebuild.Goals as goal

pub returns-then-not-any_busy : goal.returns-then-not-any_busy
unfolding rebuilt
returns-then-not-any_busy c =
    let us = c.args.units.now in
    let ks = (view_machine c.args.machine.now).specs in
    let none : (g : Legend) → list_any is_busy (view_units g us) ≡ false = λ g. sym (c.any_busy.ensures g) ∙ c.if-not-any_busy.true in
    let built = c.build.ensures in
    record {
      is = λ g. built.is g ∙ ap (λ (b : Bool). rebuilt b ks (view_units g us)) (sym (none g));
      ok = built.ok;
      knows = λ n a. built_knows ks built n;
      kept = inr record { idle = none; places = built_places ks built };
    }
