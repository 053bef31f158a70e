-- The calls that `forecast` makes in a cycle are taken, and the lent cells keep their length.
use Prim.Native.Nat.{ℕ}
use mathlib.Core.Path.{◌≡◌, refl, ◌∙◌, ap, ap₂}
use mathlib.Core.Bool.{Bool, true, false, cond, not, ◌&&◌, ◌||◌}
use Rattle.std.specs.Prelude.{Option, None, Some, is_some, option_map}
use mathlib.Core.List.{List}
use lib.ListN.{length}
use Rattle.laws.specs.Optional.{is_none, when_some}
use Rattle.model.specs.State.{Front, State}
use Rattle.model.specs.Timeline.{timeline, write_all}
use Rattle.model.specs.Units.{unit_at}
use Rattle.model.specs.Write.{start_cycle, writing}
use Rattle.model.specs.Scoreboard.{advance as do_advance, advance_writes}
use Rattle.model.specs.Calls.{Call, advance, calls, checks, refusal, retire, run, sets, short_memory, start}
use Rattle.model.specs.Forecast.{Lent, cycle, forecasts, lent_of, play, retire_offer}
use Rattle.refusals.proofs.Demand1.{all-fail}
use Rattle.rows.proofs.Bytes.{write_all-length}
use Rattle.ending.proofs.Cycle.{cycled, settled, settled_same}

-- ── Calls ───────────────────────────────────────────────────────────────────

-- A call that is not refused.
pub play-taken
    : (c : Call) (s : State) (m : List ℕ) → refusal s c ≡ None → play c (lent_of s m) ≡ lent_of (run s c) (write_all (sets s c) m)
unfolding forecasts calls
play-taken c s m p =
    ap (λ (o : Option ℕ). lent_of (when_some o (run s c) (λ (n : ℕ). s)) (when_some o (write_all (sets s c) m) (λ (n : ℕ). m))) p

pub start-played : (s : State) (m : List ℕ) → s.front.in_cycle ≡ false → play start (lent_of s m) ≡ lent_of (start_cycle s) m
unfolding calls timeline
start-played s m e = play-taken start s m (all-fail (checks s start) (e, tt))

pub retire-played
    : (t : State) (m : List ℕ) → t.front.in_cycle ≡ true → t.offer.retired ≡ false
    → retire_offer (lent_of t m) ≡ lent_of (settled t.offer.writing t) m
unfolding forecasts calls writing settled timeline
retire-played t m c f = go t.offer.writing refl
  where
    go
        : (w : Option ℕ) → t.offer.writing ≡ w
        → cond (is_some (option_map (λ (i : ℕ). (unit_at t.units i).op) w)) (play retire (lent_of t m)) (lent_of t m) ≡ lent_of (settled w t) m
    go None e = refl
    go (Some i) e =
        play-taken retire t m
        (all-fail (checks t retire) (ap not c, (ap₂ (λ (w : Option ℕ) (b : Bool). is_none w || b) e f, tt)))

advance-played
    : (t : State) (m : List ℕ) (n : ℕ) → t.front.in_cycle ≡ true → (not (is_none t.offer.writing) && not t.offer.retired) ≡ false
    → short_memory t n ≡ false
    → play (advance None n) (lent_of t m) ≡ lent_of (do_advance None t) (write_all (advance_writes None t) m)
unfolding calls
advance-played t m n c u l = play-taken (advance None n) t m (all-fail (checks t (advance None n)) (ap not c, (u, (l, tt))))

-- ── A cycle ─────────────────────────────────────────────────────────────────

settled-settled
    : (w : Option ℕ) (t : State) → t.offer.writing ≡ w
    → (not (is_none (settled w t).offer.writing) && not (settled w t).offer.retired) ≡ false
unfolding settled writing
settled-settled None t e = ap (λ (w : Option ℕ). not (is_none w) && not t.offer.retired) e
settled-settled (Some i) t e = ap (λ (w : Option ℕ). not (is_none w) && false) e

settled-memory : (w : Option ℕ) (t : State) (n : ℕ) → short_memory (settled w t) n ≡ short_memory t n
unfolding settled writing calls
settled-memory None t n = refl
settled-memory (Some i) t n = refl

started-memory : (s : State) (n : ℕ) → short_memory (start_cycle s) n ≡ short_memory s n
unfolding writing calls
started-memory s n = refl

pub started-open : (s : State) → ((start_cycle s).front.in_cycle ≡ true) × ((start_cycle s).offer.retired ≡ false)
unfolding writing
started-open s = (refl, refl)

pub cycle-played
    : (s : State) (m : List ℕ) → s.front.in_cycle ≡ false → short_memory s (length m) ≡ false
    → ((cycle (lent_of s m)).engine ≡ cycled s) × (length (cycle (lent_of s m)).cells ≡ length m)
unfolding forecasts cycled
cycle-played s m out l =
    (ap (λ (x : Lent). x.engine) all, ap (λ (x : Lent). length x.cells) all ∙ write_all-length _ m)
  where
    t : State
    t = start_cycle s

    u : State
    u = settled t.offer.writing t

    all : cycle (lent_of s m) ≡ lent_of (do_advance None u) (write_all (advance_writes None u) m)
    all =
        ap (λ (x : Lent). play (advance None (length m)) (retire_offer x)) (start-played s m out)
        ∙ ap (play (advance None (length m))) (retire-played t m (started-open s).0 (started-open s).1)
        ∙ advance-played u m (length m)
        (ap (λ (f : Front). f.in_cycle) (settled_same t.offer.writing t).front ∙ (started-open s).0)
        (settled-settled t.offer.writing t refl)
        (settled-memory t.offer.writing t (length m) ∙ started-memory s (length m) ∙ l)
