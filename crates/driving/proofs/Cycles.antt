-- A cycle up to its invitation: a start, a retire, the advance.
use Prim.Native.Nat.{ℕ}
use mathlib.Core.Path.{◌≡◌, refl, sym, ap, ap₂, ◌∙◌}
use mathlib.Core.Bool.{Bool, true, false, cond, not, ◌||◌}
use Rattle.std.specs.Prelude.{Option, None, Some, is_some, option_map}
use mathlib.Core.List.{List}
use lib.ListN.{length}
use Rattle.laws.specs.Optional.{is_none, when_some}
use Rattle.model.specs.Op.{Op}
use Rattle.model.specs.State.{State}
use Rattle.model.specs.Units.{unit_at}
use Rattle.model.specs.Timeline.{write_all}
use Rattle.model.specs.Write.{offered_op}
use Rattle.model.specs.Calls.{Answer, start, retire, advance, first_of, no_offer, checks, refusal, run, sets, after, memory_after}
use Rattle.model.specs.Forecast.{lent_of, play, retire_offer, cycle}
use Rattle.scoreboard.specs.declared.ScoreboardPipeline.{ScoreboardPipeline}
use Rattle.scoreboard.specs.View.{view_engine}
use Rattle.scoreboard.specs.Calls.{Does}
use Rattle.driving.specs.Runs.{Cycles}

-- A start sets nothing.
started : (s : State) (m : List ℕ) → play start (lent_of s m) ≡ lent_of (after s start) m
unfolding play memory_after refusal checks first_of sets write_all
started s m = go s.front.in_cycle
  where
    go : (b : Bool) → lent_of (after s start) (when_some (cond b (Some 4) None) m (λ (k : ℕ). m)) ≡ lent_of (after s start) m
    go true = refl
    go false = refl

-- Where nothing is on offer, a retire is refused, and leaves the engine as it is.
retired : (s : State) (m : List ℕ) → retire_offer (lent_of s m) ≡ lent_of (after s retire) m
unfolding retire_offer offered_op play after memory_after refusal checks no_offer first_of sets write_all
retired s m = go s.offer.writing (λ (i : ℕ). (unit_at s.units i).op) s.front.in_cycle s.offer.retired (run s retire)
  where
    refused : Option ℕ → Bool → Bool → Option ℕ
    refused o b r = cond (not b) (Some 5) (cond (is_none o || r) (Some 6) None)

    go
        : (o : Option ℕ) (f : ℕ → Op) (b r : Bool) (t : State)
        → cond (is_some (option_map f o))
        (lent_of (when_some (refused o b r) t (λ (k : ℕ). s)) (when_some (refused o b r) m (λ (k : ℕ). m)))
        (lent_of s m)
        ≡ lent_of (when_some (refused o b r) t (λ (k : ℕ). s)) m
    go None f true r t = refl
    go None f false r t = refl
    go (Some i) f true true t = refl
    go (Some i) f true false t = refl
    go (Some i) f false r t = refl

pub cycled
    : {e f g r : ScoreboardPipeline} {a b c : Answer} {m n : List ℕ} → Does e start a f → Does f retire b g → Does g (advance None (length m)) c r
    → n ≡ memory_after (view_engine g) (advance None (length m)) m → Cycles e m r n
unfolding cycle play
cycled {e} {f} {g} {r} {m = m} {n} s t d w =
    record {
      is =
          ap₂ lent_of d.engine w
          ∙ ap (λ x. play (advance None (length m)) x)
          (ap (λ x. lent_of x m) (t.engine ∙ ap (λ x. after x retire) s.engine)
          ∙ sym (ap retire_offer (started (view_engine e) m) ∙ retired (after (view_engine e) start) m));
      valid = d.valid;
    }
