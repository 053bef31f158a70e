-- What a change of capacity does to the units, and what a reset or a redirect does to the engine.
use Rattle.std.specs.Prelude.{ℕ, ◌≡◌, ◌⊎◌, false, replicate}
use Rattle.laws.specs.Lists.{All}
use Rattle.std.specs.List.{list_any}
use Rattle.model.specs.Config.{Machine, capacities}
use Rattle.model.specs.Units.{is_busy, build_units}
use Rattle.model.specs.Scoreboard.{rebuilt}
use Rattle.config.specs.View.{view_machine}
use Rattle.flight.specs.View.{Legend}
use Rattle.bank.specs.declared.Units.{Units}
use Rattle.bank.specs.View.{view_units, slots, places, UnitsOk, UnitsAre, UnitKnows}
use Rattle.board.specs.declared.Board.{Board}
use Rattle.board.specs.Promises.{Fresh}
use Rattle.engine.specs.Engine.{Engine}
use Rattle.scoreboard.specs.declared.ScoreboardPipeline.{ScoreboardPipeline}
use Rattle.scoreboard.specs.View.{parts}

-- Built anew: none was busy, and none has a place of the pool.
pub record Built (us r : Units) : Type 0 where
  pub idle : (g : Legend) → list_any is_busy (view_units g us) ≡ false
  pub places : places r ≡ replicate r.len 80

pub record Rebuilds (m : Machine) (us r : Units) : Type 0 where
  pub is : (g : Legend) → view_units g r ≡ rebuilt (list_any is_busy (view_units g us)) m.specs (view_units g us)
  pub ok : UnitsOk r
  pub knows : (n : ℕ) → All (UnitKnows n) (slots us) → All (UnitKnows n) (slots r)
  pub kept : (r ≡ us) ⊎ Built us r

-- With this board, which is idle, and no names known or held; the overlap stays.
abbrev pub renewed : Engine → Board → Engine
renewed e b =
    record e {
      board = record b { front = record b.front { enabled = e.board.front.enabled } };
      table = record e.table { known = 0; held = 0 };
    }

-- An idle board of the machine's units, no names, the overlap as it was; and all else too.
pub record Renews (e : ScoreboardPipeline) (address : ℕ) (r : ScoreboardPipeline) : Type 0 where
  pub units : Units
  pub built
      : UnitsAre units (λ g. build_units 0 (view_machine e.machine).specs) (replicate (capacities (view_machine e.machine).specs) 80)
  pub board : Board
  pub fresh : Fresh units address board
  pub is : parts r ≡ renewed (parts e) board
