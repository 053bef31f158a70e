-- What each cycle and each fetch of `forecast` keeps holds of its engine after every turn.
use Prim.Native.Nat.{ℕ, zero, suc}
use mathlib.Core.Path.{◌≡◌, refl, sym, ap, subst}
use mathlib.Core.Bool.{Bool, true, false, ◌&&◌}
use Rattle.std.specs.Prelude.{Option, None, Some}
use mathlib.Core.List.{List, [], ◌∷◌}
use lib.ListN.{length}
use Rattle.laws.specs.Lists.{is_empty}
use Rattle.laws.specs.Optional.{when_some}
use Rattle.laws.specs.Texts.{Text}
use Rattle.model.specs.Config.{machine_of}
use Rattle.model.specs.Op.{Given}
use Rattle.model.specs.State.{State, new}
use Rattle.model.specs.Scoreboard.{fetched, idle}
use Rattle.model.specs.Calls.{fetch, invitation_of, made, make, make_memory, make_refusal, no_machine, overlap, refusal}
use Rattle.model.specs.Forecast.{Lent, Line, Run, cycle, cycle_and_line, excess, fetch_line, finished, first_line, forecast_run, forecast_shape, going, lent_of, line_given, line_refused, not_made, other_lines, parse, play, take_fetched, take_line, take_parsed, turn}
use Rattle.invariant.specs.Invariant.{Invariant}
use Rattle.invariant.proofs.Invariant.{invariant-kept}
use Rattle.ending.specs.Ending.{Outcome, begun, begun_made, next_turn}
use Rattle.ending.proofs.Turn.{Between, Turned, after-cycle, fetch-played, on, over, turned}
use Rattle.ending.proofs.Ending.{begun-turned, one-turn-more}

pub record Keeps (P : State → Type 0) : Type 0 where
  pub first : (cells : List ℕ) → P (play (overlap true) (lent_of (new forecast_shape 0) (make_memory forecast_shape cells))).engine
  pub cycle : (input : Text) (e : Lent) (rest : Text) (n : ℕ) → Between input e rest n → P e.engine → P (cycle e).engine
  pub fetch
      : (g : Given) (s : State) → Invariant s → Invariant (fetched g s) → s.machine ≡ machine_of forecast_shape → P s → P (fetched g s)

module _ (P : State → Type 0) where
  -- P of the engine of a run that has one.
  abbrev pub EngineOf : Run → Type 0
  EngineOf (not_made r m) = Unit {0}
  EngineOf (line_refused n r m) = Unit {0}
  EngineOf (finished e) = P e.engine
  EngineOf (going e rest n) = P e.engine

  -- The same, between two turns.
  abbrev pub Along : Text → Run → Type 0
  Along input (not_made r m) = Unit {0}
  Along input (line_refused n r m) = Unit {0}
  Along input (finished e) = P e.engine
  Along input (going e rest n) = Between input e rest n × P e.engine

  pub along-engine : (input : Text) (r : Run) → Along input r → EngineOf r
  along-engine input (not_made r m) a = tt
  along-engine input (line_refused n r m) a = tt
  along-engine input (finished e) a = a
  along-engine input (going e rest n) a = a.1

  along-turned : (input : Text) (more : ℕ) (r : Run) → Turned input more r → EngineOf r → Along input r
  along-turned input more r (over q o) x = at q o x
    where
      at : (q : Run) → Outcome input q → EngineOf q → Along input q
      at (not_made r m) o x = tt
      at (line_refused n r m) o x = tt
      at (finished e) o x = x
      at (going e rest n) o x = absurd o
  along-turned input more r (on e rest n b l) x = (b, x)

  module _ (k : Keeps P) where
    -- ── A turn ──────────────────────────────────────────────────────────────────

    module _ (input : Text) (e : Lent) (rest : Text) (n : ℕ) (h : Between input e rest n) (x : P e.engine) where
      after : P (cycle e).engine
      after = k.cycle input e rest n h x

      fetched-keeps
          : (l : Line) (a : ℕ) → refusal (cycle e).engine (fetch_line l a (cycle e)) ≡ None
          → P (play (fetch_line l a (cycle e)) (cycle e)).engine
      unfolding fetch_line play
      fetched-keeps l a p =
          let s = (cycle e).engine in
          let g = line_given l a in
          let c = after-cycle input e rest n h in
          let played = ap (λ (f : Lent). f.engine) (fetch-played g (length (cycle e).cells) s (cycle e).cells p) in
          subst P (sym played)
          (k.fetch g s c.invariant (subst Invariant played (invariant-kept s (fetch g (length (cycle e).cells)) c.invariant)) c.machine after)

      line-keeps : (o : Option Line) (a : ℕ) (r : Text) (m : ℕ) → EngineOf (take_parsed o a r m (cycle e))
      unfolding take_parsed take_fetched
      line-keeps None a r m = tt
      line-keeps (Some l) a r m = go (refusal (cycle e).engine (fetch_line l a (cycle e))) refl
        where
          go
              : (q : Option ℕ) → refusal (cycle e).engine (fetch_line l a (cycle e)) ≡ q
              → EngineOf (take_fetched q (fetch_line l a (cycle e)) r m (cycle e))
          go (Some n) p = tt
          go None p = fetched-keeps l a p

      turn-keeps : EngineOf (turn e rest n)
      unfolding turn cycle_and_line take_line
      turn-keeps = go (is_empty rest && idle e.engine)
        where
          line : (o : Option ℕ) (r : Text) → EngineOf (take_line o r n (cycle e))
          line None r = after
          line (Some a) [] = after
          line (Some a) (y ∷ ys) = line-keeps (parse (first_line (y ∷ ys))) a (other_lines (y ∷ ys)) (suc n)

          go : (b : Bool) → EngineOf (elim b [ true ↦ finished e | false ↦ cycle_and_line e rest n ])
          go true = x
          go false = line (invitation_of (cycle e).engine) rest

    along-turn : (input : Text) (r : Run) → Along input r → Along input (next_turn r)
    unfolding next_turn
    along-turn input (not_made r m) a = a
    along-turn input (line_refused n r m) a = a
    along-turn input (finished e) a = a
    along-turn input (going e rest n) a =
        along-turned input _ (turn e rest n) (turned input e rest n a.0) (turn-keeps input e rest n a.0 a.1)

    -- ── Every run ───────────────────────────────────────────────────────────────

    begun-keeps : (input : Text) (cells : List ℕ) → EngineOf (begun input cells)
    unfolding begun begun_made make
    begun-keeps input cells = go (make_refusal forecast_shape (length cells))
      where
        go : (o : Option ℕ) → EngineOf (begun_made (when_some o (made (new forecast_shape 0)) no_machine) input cells)
        go (Some r) = tt
        go None = at (excess input)
          where
            at
                : (b : Bool)
                → EngineOf
                (elim b [
                  | true ↦ line_refused 0 14 cells
                  | false ↦ going (play (overlap true) (lent_of (new forecast_shape 0) (make_memory forecast_shape cells))) input 0
                ])
            at true = tt
            at false = k.first cells

    pub along : (input : Text) (cells : List ℕ) (j : ℕ) → Along input (forecast_run j (begun input cells))
    unfolding forecast_run
    along input cells zero = along-turned input _ (begun input cells) (begun-turned input cells) (begun-keeps input cells)
    along input cells (suc j) =
        subst (Along input) (sym (one-turn-more j (begun input cells))) (along-turn input (forecast_run j (begun input cells)) (along input cells j))
