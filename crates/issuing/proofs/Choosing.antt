-- What is chosen for the front is what the model chooses.
use Prim.Native.Nat.{ℕ}
use mathlib.Core.Path.{◌≡◌, refl, sym, ap, ap₂, ◌∙◌}
use mathlib.Core.Bool.{true, false}
use mathlib.Core.List.{List, [], ◌∷◌, map}
use native.Mathlib.Omega.{arith}
use lib.ListN.{length}
use Rattle.laws.specs.Lists.{rest, find_at}
use Rattle.model.specs.Config.{spec_index}
use Rattle.model.specs.Op.{Op, mnemonic}
use Rattle.model.specs.Registers.{Operands, resolve}
use Rattle.model.specs.State.{State}
use Rattle.model.specs.Issue.{block_issue, is_free, free_unit, taken, learn, place, issue_to, issue_looked, issue_choose, issue_front, issue}
use Rattle.config.specs.declared.Machine.{Machine}
use Rattle.config.specs.View.{view_machine}
use Rattle.registers.specs.Look.{Numbers, with_names}
use Rattle.flight.specs.declared.Queued.{Queued}
use Rattle.flight.specs.View.{view_queued, view_queue, op_with, entries, QueueOk}
use Rattle.registers.specs.View.{read, written, view_operands}
use Rattle.flight.proofs.Entries.{view-entries, queue-length}
use Rattle.timeline.specs.declared.WaitForm.{WaitForm}
use Rattle.timeline.specs.declared.WaitForm.TheVariants.{BehindBranch, BehindSystem}
use Rattle.timeline.specs.Waits.{detail_of}
use Rattle.stalls.specs.View.{form_kind, form_from, form_to, number_word, word_at, view_trace}
use Rattle.bank.specs.View.{view_units}
use Rattle.board.specs.declared.Board.{Board}
use Rattle.board.specs.View.{Frame, log_frame, view_board}
use Rattle.issuing.specs.Steps.{Fronts, StillWritten, Full, Free, trace_by, blocked_by}

-- ── After the look ──────────────────────────────────────────────────────────

-- The choice, in a state where the front has been looked at.
abbrev pub going : Op → Numbers → State → State
going o k s =
    issue_to o (rest s.queue) k.read k.written (taken s.producer k.written)
    (free_unit s.machine.specs s.units o.core.decoded.class) s

pub looked-goes : (o : Op) (k : Numbers) {x : Operands} (s : State) {t : State} {ns : List (List ℕ)} → x ≡ with_names k ns → t ≡ learn x.names s
    → going o k t ≡ issue_looked o (rest s.queue) x s
unfolding issue_looked learn
looked-goes o k {x} s e f =
    ap (going o k) f
    ∙ ap₂
    (λ r w.
    issue_to o (rest s.queue) r w (taken (learn x.names s).producer w) (free_unit s.machine.specs s.units o.core.decoded.class)
    (learn x.names s))
    (sym (ap (λ y. y.read) e))
    (sym (ap (λ y. y.written) e))

-- The wait that a form lists for q.
abbrev pub blocks : Frame → Board → Queued → WaitForm → ℕ → State
blocks x b q f n = blocked_by f (view_trace (log_frame x b) b.log.traces.target (trace_by f q n)) (view_board x b)

module _ (x : Frame) (b : Board) (q : Queued) where
  pub still-goes : {f : WaitForm} {n : ℕ} → StillWritten b q f n → blocks x b q f n ≡ going (view_queued x.legend q) (view_operands q.operands) (view_board x b)
  unfolding view_board view_queued op_with issue_to block_issue mnemonic view_trace form_kind form_from form_to number_word word_at detail_of
  still-goes {f} {n} e =
      ap (λ w. blocks x b q w n) e.form
      ∙ sym
      (ap
      (λ t.
      issue_to (view_queued x.legend q) (rest (view_queue x.legend b.queue)) (read q.operands) (written q.operands) t
      (free_unit x.machine.specs (view_units x.legend b.units) q.class) (view_board x b))
      e.taken)

  module _ {m : Machine} (h : x.machine ≡ view_machine m) where
    pub full-goes : {f : WaitForm} {n : ℕ} → Full b q m f n
        → blocks x b q f n ≡ going (view_queued x.legend q) (view_operands q.operands) (view_board x b)
    unfolding view_board view_queued op_with issue_to free_unit block_issue mnemonic view_trace form_kind form_from form_to number_word word_at detail_of
    full-goes {f} {n} e =
        let k : n ≡ spec_index x.machine.specs q.class = e.kind ∙ sym (ap (λ y. spec_index y.specs q.class) h) in
        ap₂ (λ w i. blocks x b q w i) e.form k
        ∙ sym
        (ap₂
        (λ t u.
        issue_to (view_queued x.legend q) (rest (view_queue x.legend b.queue)) (read q.operands) (written q.operands) t u
        (view_board x b))
        e.taken
        (ap (λ i. find_at (is_free i) 0 (view_units x.legend b.units)) (sym k) ∙ e.full x.legend))

    pub free-goes : {i : ℕ} → Free b q m i
        → place (view_queued x.legend q) (rest (view_queue x.legend b.queue)) (read q.operands) (written q.operands) i (view_board x b)
        ≡ going (view_queued x.legend q) (view_operands q.operands) (view_board x b)
    unfolding view_board view_queued op_with issue_to free_unit
    free-goes e =
        sym
        (ap₂
        (λ t u.
        issue_to (view_queued x.legend q) (rest (view_queue x.legend b.queue)) (read q.operands) (written q.operands) t u
        (view_board x b))
        e.taken
        (ap (λ y. find_at (is_free (spec_index y.specs q.class)) 0 (view_units x.legend b.units)) h ∙ e.free x.legend))

-- ── Before it ───────────────────────────────────────────────────────────────

pub issue-none : (x : Frame) (b : Board) → QueueOk b.queue → b.queue.len ≡ 0 → view_board x b ≡ issue (view_board x b)
unfolding view_board issue issue_front
issue-none x b ok e = sym (ap (λ l. issue_front l (view_board x b)) (empty (view_queue x.legend b.queue) (queue-length ok x.legend ∙ e)))
  where
    empty : (l : List Op) → length l ≡ 0 → l ≡ []
    empty [] h = refl
    empty (o ∷ l) h = absurd (let z : ⊥ = omega arith in z)

module _ (x : Frame) (b : Board) (q : Queued) (f : Fronts q b) where
  o : Op
  o = view_queued x.legend q

  behind : List Op
  behind = map (view_queued x.legend) (rest (entries b.queue))

  queue-is : view_queue x.legend b.queue ≡ o ∷ behind
  unfolding o behind
  queue-is = view-entries x.legend b.queue ∙ ap (map (view_queued x.legend)) f

  issues : issue (view_board x b) ≡ issue_choose b.marks.branch b.marks.system o behind (view_board x b)
  unfolding view_board issue issue_front
  issues = ap (λ l. issue_front l (view_board x b)) queue-is

  pub issue-branch : b.marks.branch ≡ true → blocks x b q BehindBranch 0 ≡ issue (view_board x b)
  unfolding o view_board view_queued op_with issue_choose block_issue mnemonic view_trace form_kind form_from form_to number_word word_at detail_of
  issue-branch e = sym (issues ∙ ap (λ t. issue_choose t b.marks.system o behind (view_board x b)) e)

  pub issue-system : b.marks.branch ≡ false → b.marks.system ≡ true → blocks x b q BehindSystem 0 ≡ issue (view_board x b)
  unfolding o view_board view_queued op_with issue_choose block_issue mnemonic view_trace form_kind form_from form_to number_word word_at detail_of
  issue-system e h = sym (issues ∙ ap₂ (λ t u. issue_choose t u o behind (view_board x b)) e h)

  pub issue-looks : b.marks.branch ≡ false → b.marks.system ≡ false
      → issue_looked (view_queued x.legend q) (rest (view_board x b).queue) (resolve (view_board x b).names (view_queued x.legend q).info) (view_board x b)
      ≡ issue (view_board x b)
  unfolding o view_board issue_choose rest
  issue-looks e h =
      ap (λ l. issue_looked o l (resolve (view_board x b).names o.info) (view_board x b)) (ap rest queue-is)
      ∙ sym (issues ∙ ap₂ (λ t u. issue_choose t u o behind (view_board x b)) e h)
