-- Demand 1 over cell views and text requests, from demand 1 over the model and their contracts.
use Prim.Native.Nat.{ℕ, ◌≤◌, ◌<◌}
use mathlib.Core.Path.{◌≡◌, refl, sym, ap₂, ◌∙◌}
use mathlib.Core.Bool.{Bool, true, false, cond}
use mathlib.Core.Logic.{⊎_elim}
use Rattle.std.specs.Prelude.{Option, None, Some}
use mathlib.Core.List.{List, [], ◌∷◌}
use lib.ListN.{length}
use Rattle.laws.specs.Optional.{when_some}
use Rattle.laws.specs.Texts.{Text}
use Rattle.laws.proofs.Tests.{lt-or-ge}
use Rattle.model.specs.State.{State}
use Rattle.model.specs.Requests.{text_at, short_for, buffer_with}
use Rattle.model.specs.Calls.{Answer, Call, text, checks, refusal, answer, reply, first_of, buffer_after}
use Rattle.refusals.proofs.Demand1.{demand-1}
use Rattle.traces.specs.Texts.{Written, written, text_answer, text_reply, Wrote}
use Rattle.traces.proofs.Written.{wrote_none, wrote-short, wrote-whole}
use Rattle.scoreboard.specs.View.{view_engine}
use Rattle.demands.specs.Demand1.{ViewRefusals, Demand1Cells, Demand1Texts}

as-answered : (s : State) (m : List ℕ) (c : Call) {x : Answer} → x ≡ answer s m c → ViewRefusals s m c x
as-answered s m c e =
    let t = demand-1.0 s m c in
    record {
      refused_first = λ k. (λ q. (t.refused_first k).0 (sym e ∙ q), λ y. e ∙ (t.refused_first k).1 y);
      taken = λ y. e ∙ (t.taken y).0;
    }

pub demand-1-cells : Demand1Cells
demand-1-cells e row i m r q = as-answered (view_engine e) m _ q

-- ── Text requests ───────────────────────────────────────────────────────────

-- Answer and buffer are those of any writer.
answered-by
    : {o : Option Text} {lent out out' : List ℕ} {r r' : Written} → Wrote o lent out' r' → r ≡ written (length lent) o
    → out ≡ cond (short_for (length lent) o) lent (buffer_with o lent)
    → text_answer r out ≡ text_reply (length lent) o
answered-by w e f = ap₂ text_answer (e ∙ sym w.is) (f ∙ sym w.buffer) ∙ w.answer

answered
    : (o : Option Text) (lent : List ℕ) {out : List ℕ} {r : Written} → r ≡ written (length lent) o
    → out ≡ cond (short_for (length lent) o) lent (buffer_with o lent)
    → text_answer r out ≡ text_reply (length lent) o
answered None lent e f = answered-by (wrote_none lent) e f
answered (Some t) lent e f =
    ⊎_elim (λ (h : length lent < length t). answered-by (wrote-short t lent h) e f)
    (λ (h : length t ≤ length lent). answered-by (wrote-whole t lent h refl refl) e f)
    (lt-or-ge (length lent) (length t))

kept_by : (b : Bool) (x y : List ℕ) → when_some (first_of ((13, b) ∷ [])) y (λ (n : ℕ). x) ≡ cond b x y
unfolding first_of
kept_by true x y = refl
kept_by false x y = refl

pub demand-1-texts : Demand1Texts
unfolding answer refusal checks reply buffer_after text_reply
demand-1-texts e t m b out r q f =
    let s = view_engine e in
    let z : text_answer r out ≡ answer s m (text t (length b)) =
    answered (text_at s t) b q (f ∙ kept_by (short_for (length b) (text_at s t)) b (buffer_with (text_at s t) b)) in
    (as-answered s m (text t (length b)) z, λ k x. f ∙ (demand-1.1 s t b).untouched m k (sym z ∙ x))
