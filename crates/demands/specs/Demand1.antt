-- Demand 1 over the code. `Does e c a r` is the contract of a call c on engine e with answer a that leaves engine r; the lent memory, m before, is n after.
use Rattle.std.specs.Prelude.{ℕ, ◌≡◌, ◌↔◌, List, length, Option, Some, option_map, Result, Ok}
use Rattle.laws.specs.Lists.{All}
use Rattle.model.specs.Config.{PipelineShape}
use Rattle.model.specs.State.{State, new}
use Rattle.model.specs.Timeline.{write_all}
use Rattle.model.specs.Requests.{Request, text_at}
use Rattle.model.specs.Calls.{
  Answer,
  refused,
  done,
  offered,
  resolved,
  invitation,
  Call,
  cell,
  text,
  checks,
  make_checks,
  answer,
  reply,
  run,
  sets,
  memory_made,
  memory_after,
  make_memory,
  buffer_after,
}
use Rattle.refusals.specs.Refusals.{fails, First}
use Rattle.capability.specs.declared.Refusal.{Refusal}
use Rattle.capability.specs.Refusals.{refusal_of}
use Rattle.timeline.specs.declared.cells.PipelineTimelineCell.{PipelineTimelineCell}
use Rattle.timeline.specs.Cells.{cell_answer}
use Rattle.traces.specs.Texts.{Written, written, text_answer}
use Rattle.engine.specs.declared.OfferView.{OfferView}
use Rattle.scoreboard.specs.declared.ScoreboardPipeline.{ScoreboardPipeline}
use Rattle.scoreboard.specs.View.{view_engine}
use Rattle.engine.specs.View.{view_offer, answer_by}
use Rattle.scoreboard.specs.Calls.{Makes, Does}

-- Its result x means an answer by f.
pub record Refusals {A : Type 0} (f : A → Answer) (e : ScoreboardPipeline) (c : Call) (x : Result A Refusal) (r : ScoreboardPipeline) (m n : List ℕ)
    : Type 0 where
  -- Refused with k: exactly where k's test is the first of the call's table that holds.
  pub refused_first : (k : ℕ) → (refusal_of x ≡ Some k) ↔ First k (checks (view_engine e) c)
  -- The very engine, and the lent memory as it was.
  pub untouched : (k : ℕ) → refusal_of x ≡ Some k → (r ≡ e) × (n ≡ m)
  -- Where no test holds the call is taken: it answers, leaves and sets what the model's does.
  pub taken
      : All fails (checks (view_engine e) c)
      → (answer_by f x ≡ reply (view_engine e) m c) × (view_engine r ≡ run (view_engine e) c)
      × (n ≡ write_all (sets (view_engine e) c) m)
  pub never_refused : (k : ℕ) → All fails (checks (view_engine e) c) → refusal_of x ≡ Some k → ⊥

abbrev pub RefusesBy : {A : Type 0} → (A → Answer) → Type 0
RefusesBy {A} f =
    (e : ScoreboardPipeline) (c : Call) (x : Result A Refusal) (r : ScoreboardPipeline) (m n : List ℕ)
    → Does e c (answer_by f x) r → n ≡ memory_after (view_engine e) c m → Refusals f e c x r m n

-- Whatever the call hands back.
pub record Demand1 : Type 0 where
  pub of_done : RefusesBy {A = Unit {0}} (λ a. done)
  pub of_offer : RefusesBy {A = Option OfferView} (λ o. offered (option_map view_offer o))
  pub of_target : RefusesBy {A = Option ℕ} resolved
  pub of_invitation : RefusesBy {A = Option ℕ} invitation
  -- A call that hands back nothing is as one that hands back Ok.
  pub of_nothing
      : (e : ScoreboardPipeline) (c : Call) (r : ScoreboardPipeline) (m n : List ℕ)
      → Does e c done r → n ≡ memory_after (view_engine e) c m → Refusals {A = Unit {0}} (λ a. done) e c (Ok tt) r m n

pub record MakeRefusals (d : PipelineShape) (entry : ℕ) (x : Result ScoreboardPipeline Refusal) (m n : List ℕ) : Type 0 where
  pub refused_first : (k : ℕ) → (refusal_of x ≡ Some k) ↔ First k (make_checks d (length m))
  pub untouched : (k : ℕ) → refusal_of x ≡ Some k → n ≡ m
  pub taken
      : All fails (make_checks d (length m))
      → ((e : ScoreboardPipeline) × ((x ≡ Ok e) × (view_engine e ≡ new d entry))) × (n ≡ memory_made d m)

abbrev pub Demand1Making : Type 0
Demand1Making =
    (d : PipelineShape) (entry : ℕ) (x : Result ScoreboardPipeline Refusal) (m n : List ℕ)
    → Makes d entry (length m) x → n ≡ make_memory d m → MakeRefusals d entry x m n

-- ── Cell views and text requests: they hand back no engine ──────────────────

-- Call c on an engine that means s, with cell memory m; x is what the code's answer means.
pub record ViewRefusals (s : State) (m : List ℕ) (c : Call) (x : Answer) : Type 0 where
  pub refused_first : (k : ℕ) → (x ≡ refused k) ↔ First k (checks s c)
  pub taken : All fails (checks s c) → x ≡ reply s m c

-- The memory of a cell view is lent to be read.
abbrev pub Demand1Cells : Type 0
Demand1Cells =
    (e : ScoreboardPipeline) (row i : ℕ) (m : List ℕ) (r : Result (Option PipelineTimelineCell) Refusal) → cell_answer r ≡ answer (view_engine e) m (cell row i (length m))
    → ViewRefusals (view_engine e) m (cell row i (length m)) (cell_answer r)

-- The buffer of a text request, b before, is out after.
abbrev pub Demand1Texts : Type 0
Demand1Texts =
    (e : ScoreboardPipeline) (t : Request) (m b out : List ℕ) (r : Written) → r ≡ written (length b) (text_at (view_engine e) t)
    → out ≡ buffer_after (view_engine e) t b
    → ViewRefusals (view_engine e) m (text t (length b)) (text_answer r out) × ((k : ℕ) → text_answer r out ≡ refused k → out ≡ b)
