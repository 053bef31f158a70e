-- A line that is taken: read, and fetched at the engine's address.
use Prim.Native.Nat.{ℕ, suc, ◌+◌, ◌≤◌}
use mathlib.Core.Path.{◌≡◌, refl, sym, subst, ap, ap₂, ◌∙◌}
use Rattle.std.specs.Prelude.{Option, None, Some, Result, Ok, Err}
use mathlib.Core.List.{List}
use native.Mathlib.Omega.{arith}
use lib.ListN.{length, drop}
use Rattle.laws.specs.Optional.{when_some}
use Rattle.laws.specs.Texts.{Text}
use Rattle.capability.specs.declared.Refusal.{Refusal}
use Rattle.capability.specs.declared.Refusal.TheVariants.{BadForm}
use Rattle.capability.specs.Refusals.{refusal_number, refusal_of}
use Rattle.model.specs.Op.{Given}
use Rattle.model.specs.State.{State}
use Rattle.model.specs.Calls.{fetch, refused, done, refusal, reply, answer, memory_after}
use Rattle.model.specs.Forecast.{
  Line,
  Run,
  line_refused,
  going,
  first_line,
  other_lines,
  parse,
  line_given,
  lent_of,
  play,
  fetch_line,
  take_fetched,
  take_parsed,
}
use Rattle.op.specs.declared.PipelineOp.{PipelineOp}
use Rattle.op.specs.View.{view_op}
use Rattle.lines.specs.declared.Read.{Read}
use Rattle.lines.specs.Lines.{LineRead, Stands}
use Rattle.lines.proofs.Stands.{fetched-alike}
use Rattle.board.specs.View.{view_board}
use Rattle.engine.specs.View.{view_engine as engine_view, answer_by, done_answer}
use Rattle.engine.proofs.Does.{memory_kept}
use Rattle.scoreboard.specs.declared.ScoreboardPipeline.{ScoreboardPipeline}
use Rattle.scoreboard.specs.View.{view_engine}
use Rattle.scoreboard.specs.Valid.{Valid}
use Rattle.scoreboard.specs.Calls.{Does}
use Rattle.driving.specs.declared.Standing.{Standing}
use Rattle.driving.specs.declared.Standing.TheVariants.{Running, Refused}
use Rattle.driving.specs.declared.Going.{Going}
use Rattle.driving.specs.Runs.{run_by, view_run, Runs, line_taken, Goes}

-- It goes on.
pub goes_on
    : {input : Text} {run : Run} {e : ScoreboardPipeline} {g : Going} {m : List ℕ} → Valid e → Runs input g
    → run ≡ going (lent_of (view_engine e) m) (drop g.at input) g.lines → Goes input run e g m
unfolding view_run run_by
goes_on {input} {e = e} {g} {m} v r q =
    record { is = ap (λ s. run_by s input e g m) r.stands ∙ sym q; valid = v; at = r.at; lines = r.lines }

-- What a fetch answers is what it is refused for.
fetch-told
    : {A : Type 0} (x : Result A Refusal) (s : State) (m : List ℕ) (g : Given) (lent : ℕ) → done_answer x ≡ answer s m (fetch g lent)
    → refusal_of x ≡ refusal s (fetch g lent)
unfolding answer reply answer_by
fetch-told x s m g lent h = go x (refusal s (fetch g lent)) h
  where
    go : {A : Type 0} (x : Result A Refusal) (o : Option ℕ) → answer_by (λ (a : A). done) x ≡ when_some o done refused → refusal_of x ≡ o
    go (Ok a) None h = refl
    go (Ok a) (Some k) h = cc
    go (Err r) None h = cc
    go (Err r) (Some k) h = cc

module _ {input : Text} {from pc : ℕ} {r : Read} (l : LineRead input from pc r) where
  unread : r.op ≡ None → parse (first_line (drop from input)) ≡ None
  unread h = go (parse (first_line (drop from input))) refl
    where
      go : (o : Option Line) → parse (first_line (drop from input)) ≡ o → o ≡ None
      go None q = refl
      go (Some x) q = absurd (let w = (l.is_form x q).1 in cc)

  -- The line has the form.
  read-as : {o : PipelineOp} → r.op ≡ Some o → (x : Line) × (parse (first_line (drop from input)) ≡ Some x) × Stands (line_given x pc) o
  read-as {o} h = go (parse (first_line (drop from input))) refl
    where
      same : {p : PipelineOp} → r.op ≡ Some p → p ≡ o
      same w = cc

      go : (y : Option Line) → parse (first_line (drop from input)) ≡ y
          → (x : Line) × (parse (first_line (drop from input)) ≡ Some x) × Stands (line_given x pc) o
      go None q = absurd (let w = l.no_form q in cc)
      go (Some x) q = let w = l.is_form x q in (x, q, subst (Stands (line_given x pc)) (same w.1) w.2)

module _ (input : Text) (at lines : ℕ) (e : ScoreboardPipeline) (m : List ℕ) {r : Read} (read : LineRead input at e.board.fetch_pc r)
    (h : lines ≤ at) where
  l : LineRead input at (view_engine e).front.fetch_pc r
  unfolding engine_view view_board
  l = read

  one_more : lines + 1 ≡ suc lines
  one_more = omega arith

  -- By what the line says.
  abbrev taking : Option Line → Run
  taking o = take_parsed o (view_engine e).front.fetch_pc (other_lines (drop at input)) (suc lines) (lent_of (view_engine e) m)

  -- By what its fetch is refused for.
  abbrev fetching : Given → Option ℕ → Run
  fetching g o = take_fetched o (fetch g (length m)) (other_lines (drop at input)) (suc lines) (lent_of (view_engine e) m)

  pub no_form : Valid e → r.op ≡ None
      → Goes input (line_taken input at lines (lent_of (view_engine e) m)) e (record { at = r.next; lines = lines + 1; stands = Refused BadForm }) m
  unfolding take_parsed view_run run_by
  no_form v f =
      record {
        is = ap (λ n. line_refused n 14 m) one_more ∙ sym (ap taking (unread l f));
        valid = v;
        at = l.most;
        lines = omega (arith, l.on, h);
      }

  module _ {A : Type 0} {x : Result A Refusal} {k : ScoreboardPipeline} {n : List ℕ} {o : PipelineOp} (f : r.op ≡ Some o)
      (d : Does e (fetch (view_op o) (length m)) (done_answer x) k) (w : n ≡ memory_after (view_engine e) (fetch (view_op o) (length m)) m) where
    pub refused_line : {z : Refusal} → x ≡ Err z
        → Goes input (line_taken input at lines (lent_of (view_engine e) m)) k (record { at = r.next; lines = lines + 1; stands = Refused z }) n
    unfolding take_parsed take_fetched fetch_line view_run run_by
    refused_line {z} q =
        let t : refusal (view_engine e) (fetch (view_op o) (length m)) ≡ Some (refusal_number z) =
        sym (fetch-told x (view_engine e) m (view_op o) (length m) (d.answer m)) ∙ ap refusal_of q in
        let y = read-as l f in
        let alike = fetched-alike (view_engine e) (length m) (line_given y.0 (view_engine e).front.fetch_pc) o y.2 in
        record {
          is =
              ap₂ (λ i c. line_refused i (refusal_number z) c) one_more (w ∙ sym (memory_kept (view_engine e) (fetch (view_op o) (length m)) m t))
              ∙ sym (ap taking y.1 ∙ ap (fetching (line_given y.0 (view_engine e).front.fetch_pc)) (sym alike.refused ∙ t));
          valid = d.valid;
          at = l.most;
          lines = omega (arith, l.on, h);
        }

    pub fetched_line : {a : A} {s : Standing} → s ≡ Running → x ≡ Ok a
        → Goes input (line_taken input at lines (lent_of (view_engine e) m)) k (record { at = r.next; lines = lines + 1; stands = s }) n
    unfolding take_parsed take_fetched fetch_line play
    fetched_line b q =
        let t : refusal (view_engine e) (fetch (view_op o) (length m)) ≡ None =
        sym (fetch-told x (view_engine e) m (view_op o) (length m) (d.answer m)) ∙ ap refusal_of q in
        let y = read-as l f in
        let alike = fetched-alike (view_engine e) (length m) (line_given y.0 (view_engine e).front.fetch_pc) o y.2 in
        let free = sym alike.refused ∙ t in
        goes_on d.valid (record { stands = b; at = l.most; lines = omega (arith, l.on, h) })
        (ap taking y.1
        ∙ ap (fetching (line_given y.0 (view_engine e).front.fetch_pc)) free
        ∙ ap (λ z. going z (other_lines (drop at input)) (suc lines))
        (sym (ap₂ lent_of d.engine w ∙ ap (λ y. play (fetch y (length m)) (lent_of (view_engine e) m)) (alike.taken free)))
        ∙ sym (ap₂ (λ y i. going (lent_of (view_engine k) n) y i) l.others one_more))
