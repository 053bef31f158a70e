-- A cell by what a view shows, and cells one behind the other.
use Prim.Native.Nat.{ℕ, ◌+◌, ◌*◌, ◌≤◌}
use mathlib.Core.Path.{◌≡◌, refl, sym, ap, ap₂, ◌∙◌}
use mathlib.Core.Bool.{Bool, true, false, cond}
use Rattle.std.specs.Prelude.{Option, None, Some, Result, Ok, Err, option_map}
use mathlib.Core.List.{List, [], ◌++◌, append-nil}
use native.Mathlib.Numerals.{add-one}
use denote.Enum.Bare.{sameb}
use lib.Dec.{eqb, ltb}
use lib.ListN.{length}
use borrow.Author.Tests.{le-ltb}
use Rattle.std.specs.Result.{result_unwrap_or}
use Rattle.laws.specs.Optional.{value_or, when_some}
use Rattle.laws.specs.Texts.{Text, bytes}
use Rattle.laws.proofs.Tests.{and-no-second}
use Rattle.capability.specs.declared.PipelineTimelineState.{PipelineTimelineState}
use Rattle.capability.specs.declared.PipelineTimelineState.TheVariants as cell
use Rattle.capability.specs.contracts.PipelineTimelineState.{the_type}
use Rattle.capability.specs.Numbers.{state_number}
use Rattle.model.specs.Config.{UnitSpec}
use Rattle.model.specs.Timeline.{Row, cell_at}
use Rattle.model.specs.Views.{cell_view}
use Rattle.model.specs.Requests.{label_text}
use Rattle.model.specs.Calls.{Answer, refused, shown_cell, first_of}
use Rattle.model.specs.State.{State, state, marks, offer_of, front_of, log_of, no_stats}
use Rattle.model.specs.Forecast.{Lent, lent_of, is_stalled, cell_text, cells_text}
use Rattle.config.specs.declared.Machine.{Machine}
use Rattle.config.specs.View.{view_machine}
use Rattle.config.specs.Kept.{MachineOk}
use Rattle.timeline.specs.declared.cells.PipelineTimelineCell.{PipelineTimelineCell}
use Rattle.capability.specs.declared.Refusal.{Refusal}
use Rattle.timeline.specs.Cells.{view_cell, cell_reply, cell_answer}
use Rattle.traces.specs.Texts.{Laid}
use Rattle.traces.proofs.Written.{laid_next}
use Rattle.pages.specs.Shown.{shown_text}
use Rattle.pages.proofs.Laid.{laid_as, laid-size, laid-most}
use Rattle.pages.proofs.Lengths.{ShortLabels, short-labels, cells-most}

-- ── One cell ────────────────────────────────────────────────────────────────

shown-byte : (ks : List UnitSpec) (b : ℕ) → shown_text ks (cell_view b) ≡ cell_text ks b
unfolding shown_text cell_text is_stalled cell_view
shown-byte ks b = refl

-- A state compared with Stalled, as the code and as the model compares it.
same-number : (s : PipelineTimelineState) → sameb the_type s cell.Stalled ≡ eqb (state_number s) (state_number cell.Stalled)
unfolding state_number
same-number cell.Empty = refl
same-number cell.Active = refl
same-number cell.Speculative = refl
same-number cell.Stalled = refl
same-number cell.Bubble = refl
same-number cell.Flushed = refl

module _ (ks : List UnitSpec) (c : PipelineTimelineCell) {b : Bool} (e : b ≡ sameb the_type c.state cell.Stalled) where
  abbrev name : Text
  name = value_or [] (label_text ks c.label)

  starred : bytes " " ++ (name ++ cond b (bytes "*") []) ≡ shown_text ks (view_cell c)
  unfolding shown_text view_cell
  starred = ap (λ q. bytes " " ++ (name ++ cond q (bytes "*") [])) (e ∙ same-number c.state)

  pub stalled-parts : b ≡ true → bytes " " ++ (name ++ bytes "*") ≡ shown_text ks (view_cell c)
  stalled-parts q = ap (λ q. bytes " " ++ (name ++ cond q (bytes "*") [])) (sym q) ∙ starred

  pub plain-parts : b ≡ false → bytes " " ++ name ≡ shown_text ks (view_cell c)
  plain-parts q =
      ap (λ t. bytes " " ++ t) (sym (append-nil name)) ∙ ap (λ q. bytes " " ++ (name ++ cond q (bytes "*") [])) (sym q) ∙ starred

-- by whether it is refused
abbrev reply-by : Answer → Bool → Answer
reply-by a b = when_some (cond b (Some 13) None) a refused

-- What is put of a cell, where there is one.
abbrev pub shown_or_none : List UnitSpec → Option PipelineTimelineCell → Text
shown_or_none ks o = when_some o [] (λ (c : PipelineTimelineCell). shown_text ks (view_cell c))

-- What the code found in a memory that is long enough.
module _ (ks : List UnitSpec) (h : ℕ) (r : Row) (m : List ℕ) (i : ℕ) (room : h * 200 ≤ length m) where
  long-reply : cell_reply h r m i ≡ shown_cell (option_map cell_view (cell_at h r m i))
  unfolding cell_reply first_of
  long-reply = ap (reply-by (shown_cell (option_map cell_view (cell_at h r m i)))) (and-no-second (ltb i r.count) (le-ltb (length m) (h * 200) room))

  found-by : (f : Result (Option PipelineTimelineCell) Refusal) (o : Option ℕ) → cell_answer f ≡ shown_cell (option_map cell_view o)
      → shown_or_none ks (result_unwrap_or f None) ≡ when_some o [] (cell_text ks)
  unfolding cell_answer
  found-by (Ok (Some c)) None e = cc
  found-by (Ok (Some c)) (Some b) e = let q : view_cell c ≡ cell_view b = cc in ap (shown_text ks) q ∙ shown-byte ks b
  found-by (Ok None) None e = refl
  found-by (Ok None) (Some b) e = cc
  found-by (Err k) o e = cc

  pub found-cell : (f : Result (Option PipelineTimelineCell) Refusal) {g : Option PipelineTimelineCell} → cell_answer f ≡ cell_reply h r m i → g ≡ result_unwrap_or f None
      → shown_or_none ks g ≡ when_some (cell_at h r m i) [] (cell_text ks)
  found-cell f a e = ap (shown_or_none ks) e ∙ found-by f (cell_at h r m i) (a ∙ long-reply)

-- ── For every engine of a machine ───────────────────────────────────────────

-- A text that hangs on the engine's machine alone is laid.
abbrev pub LaidOf : Machine → ℕ → (State → Text) → List ℕ → List ℕ → ℕ → Type 0
LaidOf k p t m out n = (s : State) → s.machine ≡ view_machine k → Laid p (t s) m out n

-- There is such an engine.
abbrev some-engine : Machine → State
some-engine k =
    state (view_machine k) [] [] [] [] (marks false false) (offer_of None false) (front_of false false false false false 0 0 0)
    (log_of no_stats [] [] None)

pub engine-labels : {k : Machine} → MachineOk k → (s : State) → s.machine ≡ view_machine k → ShortLabels s.machine.specs
engine-labels ok s e = rw e (short-labels ok)

module _ (k : Machine) {p n : ℕ} {t : State → Text} {m out : List ℕ} (l : LaidOf k p t m out n) where
  one : Laid p (t (some-engine k)) m out n
  one = l (some-engine k) refl

  pub of_size : length out ≡ length m
  of_size = laid-size one

  pub of-most : (j : ℕ) → ((s : State) → s.machine ≡ view_machine k → length (t s) ≤ j) → n ≤ p + j
  of-most j h = laid-most one j (h (some-engine k) refl)

-- ── The cells of a row ──────────────────────────────────────────────────────

-- one more
cells-next : (e : Lent) (r : Row) (i : ℕ)
    → cells_text e r (i + 1) ≡ cells_text e r i ++ when_some (cell_at e.engine.machine.history r e.cells i) [] (cell_text e.engine.machine.specs)
unfolding cells_text
cells-next e r i = ap (cells_text e r) (add-one i)

module _ {k : Machine} (ok : MachineOk k) (r : Row) (cells : List ℕ) (i : ℕ) {p n : ℕ} {m out : List ℕ} (l : LaidOf k p (λ s. cells_text (lent_of s cells) r i) m out n) where
  pub cells-within : n ≤ p + i * 10
  cells-within = of-most k l (i * 10) (λ s e. cells-most (lent_of s cells) (engine-labels ok s e) r i)

  pub cells-more : {h n' : ℕ} {out' : List ℕ} → h ≡ k.history
      → Laid n (when_some (cell_at h r cells i) [] (cell_text (view_machine k).specs)) out out' n'
      → LaidOf k p (λ s. cells_text (lent_of s cells) r (i + 1)) m out' n'
  unfolding view_machine
  cells-more {h} q c s e =
      let last = ap₂ (λ j ks. when_some (cell_at j r cells i) [] (cell_text ks)) (q ∙ sym (ap (λ x. x.history) e)) (sym (ap (λ x. x.specs) e)) in
      laid_as (sym (cells-next (lent_of s cells) r i)) (laid_next (l s e) (laid_as last c))
