-- A turn, and as many as the fuel allows.
use Prim.Native.Nat.{ℕ, zero, suc, ◌-◌, ◌≤◌, ◌<◌}
use mathlib.Core.Path.{◌≡◌, refl, sym, subst, ap, ◌∙◌}
use mathlib.Core.Bool.{Bool, true, false, ◌&&◌}
use Rattle.std.specs.Prelude.{Option, None, Some}
use mathlib.Core.List.{List, [], ◌∷◌}
use native.Mathlib.Omega.{arith}
use lib.ListN.{length, drop, length-drop}
use Rattle.laws.specs.Lists.{is_empty}
use Rattle.laws.specs.Texts.{Text}
use Rattle.laws.proofs.Tests.{cond_yes, cond_no, and_yes, and_no, and-no-second}
use Rattle.laws.proofs.Slices.{empty-yes, empty-no}
use Rattle.model.specs.Scoreboard.{idle}
use Rattle.model.specs.Calls.{invitation_of}
use Rattle.model.specs.Forecast.{
  Lent,
  Run,
  finished,
  going,
  first_line,
  other_lines,
  parse,
  lent_of,
  take_parsed,
  take_line,
  cycle_and_line,
  turn,
  forecast_run,
}
use Rattle.board.specs.View.{view_board}
use Rattle.engine.specs.View.{view_engine as engine_view}
use Rattle.scoreboard.specs.declared.ScoreboardPipeline.{ScoreboardPipeline}
use Rattle.scoreboard.specs.View.{view_engine}
use Rattle.scoreboard.specs.Valid.{Valid}
use Rattle.driving.specs.declared.Standing.{Standing}
use Rattle.driving.specs.declared.Standing.TheVariants.{Running, Finished, Refused}
use Rattle.driving.specs.declared.Going.{Going}
use Rattle.driving.specs.Runs.{run_by, view_run, Runs, line_taken, Cycles, Goes}

-- ── A cycle, and a line where an invitation takes it ────────────────────────

line-there : (pc : ℕ) (t : Text) (n : ℕ) (e : Lent) → 0 < length t
    → take_line (Some pc) t n e ≡ take_parsed (parse (first_line t)) pc (other_lines t) (suc n) e
unfolding take_line
line-there pc [] n e h = absurd (let z : ⊥ = omega arith in z)
line-there pc (x ∷ xs) n e h = refl

all-taken : (o : Option ℕ) (t : Text) (n : ℕ) (e : Lent) → length t ≡ 0 → take_line o t n e ≡ going e t n
unfolding take_line
all-taken None t n e h = refl
all-taken (Some pc) [] n e h = refl
all-taken (Some pc) (x ∷ xs) n e h = absurd (let z : ⊥ = omega arith in z)

module _ {e r : ScoreboardPipeline} {m n : List ℕ} (c : Cycles e m r n) (input : Text) (at lines : ℕ) where
  -- By the invitation after the cycle.
  by-invitation
      : (o : Option ℕ) → invitation_of (view_engine r) ≡ o
      → cycle_and_line (lent_of (view_engine e) m) (drop at input) lines ≡ take_line o (drop at input) lines (lent_of (view_engine r) n)
  unfolding cycle_and_line
  by-invitation o h =
      ap (λ (l : Lent). take_line (invitation_of l.engine) (drop at input) lines l) (sym c.is)
      ∙ ap (λ o. take_line o (drop at input) lines (lent_of (view_engine r) n)) h

  pub invited : r.board.front.invited ≡ true → at < length input
      → cycle_and_line (lent_of (view_engine e) m) (drop at input) lines ≡ line_taken input at lines (lent_of (view_engine r) n)
  unfolding invitation_of engine_view view_board
  invited i h =
      by-invitation (Some r.board.fetch_pc) (cond_yes _ _ i)
      ∙ line-there r.board.fetch_pc (drop at input) lines (lent_of (view_engine r) n) (simp length-drop (omega (arith, h)))

  pub uninvited : r.board.front.invited ≡ false
      → cycle_and_line (lent_of (view_engine e) m) (drop at input) lines ≡ going (lent_of (view_engine r) n) (drop at input) lines
  unfolding invitation_of engine_view view_board take_line
  uninvited i = by-invitation None (cond_no _ _ i)

  pub used_up : length input ≤ at
      → cycle_and_line (lent_of (view_engine e) m) (drop at input) lines ≡ going (lent_of (view_engine r) n) (drop at input) lines
  used_up h =
      by-invitation (invitation_of (view_engine r)) refl
      ∙ all-taken (invitation_of (view_engine r)) (drop at input) lines (lent_of (view_engine r) n) (simp length-drop (omega (arith, h)))

-- ── The end ─────────────────────────────────────────────────────────────────

module _ (e : ScoreboardPipeline) (m : List ℕ) (input : Text) (at lines : ℕ) where
  turn_is : {b : Bool} → (is_empty (drop at input) && idle (view_engine e)) ≡ b
      → turn (lent_of (view_engine e) m) (drop at input) lines
      ≡ elim b [ true ↦ finished (lent_of (view_engine e) m) | false ↦ cycle_and_line (lent_of (view_engine e) m) (drop at input) lines ]
  unfolding turn
  turn_is h = ap (λ b. elim b [ true ↦ finished (lent_of (view_engine e) m) | false ↦ cycle_and_line (lent_of (view_engine e) m) (drop at input) lines ]) h

  pub turn-ends : at ≡ length input → idle (view_engine e) ≡ true
      → turn (lent_of (view_engine e) m) (drop at input) lines ≡ finished (lent_of (view_engine e) m)
  turn-ends h i = turn_is (and_yes (empty-yes (drop at input) (simp length-drop (omega (arith, h)))) i)

  pub turn-busy : idle (view_engine e) ≡ false
      → turn (lent_of (view_engine e) m) (drop at input) lines ≡ cycle_and_line (lent_of (view_engine e) m) (drop at input) lines
  turn-busy i = turn_is (and-no-second (is_empty (drop at input)) i)

  pub turn-left : at < length input
      → turn (lent_of (view_engine e) m) (drop at input) lines ≡ cycle_and_line (lent_of (view_engine e) m) (drop at input) lines
  turn-left h = turn_is (and_no (idle (view_engine e)) (empty-no (drop at input) (simp length-drop (omega (arith, h)))))

-- The run that a turn comes to, by what it is equal to.
pub goes-as
    : {input : Text} {a b : Run} {e : ScoreboardPipeline} {g : Going} {m : List ℕ} → a ≡ b → Goes input b e g m → Goes input a e g m
goes-as {input} {e = e} {g} {m} q t = subst (λ x. Goes input x e g m) (sym q) t

-- ── Many turns ──────────────────────────────────────────────────────────────

-- What has ended stays as it is.
pub stays : (fuel : ℕ) (input : Text) (e : ScoreboardPipeline) (g : Going) (m : List ℕ) → (g.stands ≡ Running → ⊥)
    → forecast_run fuel (view_run input e g m) ≡ view_run input e g m
unfolding view_run run_by forecast_run
stays fuel input e g m h = go fuel g.stands h
  where
    go : (fuel : ℕ) (s : Standing) → (s ≡ Running → ⊥) → forecast_run fuel (run_by s input e g m) ≡ run_by s input e g m
    go zero s h = refl
    go (suc k) Running h = absurd (h refl)
    go (suc k) Finished h = refl
    go (suc k) (Refused r) h = refl

one-turn
    : (k : ℕ) (input : Text) (e : ScoreboardPipeline) (g : Going) (m : List ℕ) → g.stands ≡ Running
    → forecast_run (suc k) (view_run input e g m) ≡ forecast_run k (turn (lent_of (view_engine e) m) (drop g.at input) g.lines)
unfolding view_run run_by forecast_run
one-turn k input e g m h = ap (λ s. forecast_run (suc k) (run_by s input e g m)) h

-- It goes on, and with the fuel that is left it comes to the whole run.
pub record Left (input : Text) (whole : Run) (fuel : ℕ) (e : ScoreboardPipeline) (g : Going) (m : List ℕ) : Type 0 where
  pub is : forecast_run fuel (view_run input e g m) ≡ whole
  pub valid : Valid e
  pub runs : Runs input g

module _ {input : Text} {whole : Run} {e : ScoreboardPipeline} {g : Going} {m : List ℕ} where
  -- The fuel is used up.
  pub left-spent : {fuel : ℕ} → Left input whole fuel e g m → fuel ≡ 0 → Goes input whole e g m
  unfolding forecast_run
  left-spent l z =
      record {
        is = sym (ap (λ k. forecast_run k (view_run input e g m)) z) ∙ l.is;
        valid = l.valid;
        at = l.runs.at;
        lines = l.runs.lines;
      }

  module _ {fuel : ℕ} (l : Left input whole fuel e g m) {r : ScoreboardPipeline} {h : Going} {n : List ℕ}
      (t : Goes input (turn (lent_of (view_engine e) m) (drop g.at input) g.lines) r h n) where
    left-is : {k : ℕ} → fuel ≡ suc k → forecast_run k (view_run input r h n) ≡ whole
    left-is {k} f =
        ap (forecast_run k) t.is ∙ sym (one-turn k input e g m l.runs.stands) ∙ sym (ap (λ j. forecast_run j (view_run input e g m)) f) ∙ l.is

    pub left-next : {k : ℕ} → fuel ≡ suc k → h.stands ≡ Running → Left input whole k r h n
    left-next f s = record { is = left-is f; valid = t.valid; runs = record { stands = s; at = t.at; lines = t.lines } }

    pub left-ended : 0 < fuel → (h.stands ≡ Running → ⊥) → Goes input whole r h n
    left-ended f s =
        record { is = sym (stays (fuel - 1) input r h n s) ∙ left-is (omega (arith, f)); valid = t.valid; at = t.at; lines = t.lines }
