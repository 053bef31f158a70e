-- The views of an engine: those of its parts, and the cell that a row's view leads to.
use Prim.Native.Nat.{ℕ, ◌*◌}
use mathlib.Core.Path.{◌≡◌, refl, sym, ap, ap₂, ◌∙◌}
use mathlib.Core.Bool.{Bool, true, false, ◌&&◌, ◌||◌}
use Rattle.std.specs.Prelude.{Option, None, Some, option_map, slice_get}
use mathlib.Core.List.{List, [], ◌∷◌, ◌++◌, map}
use lib.Dec.{ltb}
use lib.ListN.{length}
use Rattle.laws.specs.Optional.{when_some}
use Rattle.laws.specs.Lists.{lists}
use Rattle.std.specs.List.{list_any}
use Rattle.capability.specs.declared.PipelineEdge.{PipelineEdge}
use Rattle.capability.specs.declared.PipelineEdgeKind.TheVariants.{Feedback}
use Rattle.capability.specs.Numbers.{edge_number}
use Rattle.capability.specs.Cases.{sequential_edge}
use Rattle.model.specs.Timeline.{Row, cell_place, cell_at}
use Rattle.model.specs.State.{State}
use Rattle.model.specs.Views.{
  oldest_in,
  stage_ops,
  stage_op,
  stage_view,
  edges,
  entry_stages,
  stage_order,
  working,
  unit_view_of,
  unit_view,
  cell_view,
  cell_byte,
  cell_there,
  views,
}
use Rattle.model.specs.Calls.{cell, Answer, refused, shown_cell, first_of, short_memory, checks, refusal, reply, answer}
use Rattle.timeline.specs.declared.PipelineTimelineRow.{PipelineTimelineRow}
use Rattle.timeline.specs.View.{shown, ShowsRow, view_rows}
use Rattle.timeline.specs.Cells.{bare, cell_reply}
use Rattle.occupants.specs.View.{of_parts}
use Rattle.views.specs.View.{view_edge}
use Rattle.config.specs.declared.Machine.{Machine}
use Rattle.config.specs.View.{view_machine}
use Rattle.config.specs.Kept.{MachineOk}
use Rattle.config.proofs.Machines.{specs-length}
use Rattle.flight.specs.declared.Queue.{Queue}
use Rattle.flight.specs.View.{Legend, view_queue, QueueOk}
use Rattle.flight.proofs.Entries.{queue-length}
use Rattle.timeline.specs.declared.Window.{Window}
use Rattle.timeline.specs.declared.Tracks.{Tracks}
use Rattle.timeline.specs.declared.RowTexts.{RowTexts}
use Rattle.timeline.proofs.Steps.{rows-count}
use Rattle.stalls.specs.declared.TraceList.{TraceList}
use Rattle.stalls.specs.View.{Frame as LogFrame, view_traces, TraceListOk}
use Rattle.stalls.proofs.Logged.{traces-length}
use Rattle.bank.specs.declared.Units.{Units}
use Rattle.bank.specs.View.{view_units, UnitsOk}
use Rattle.bank.proofs.Steps.{units-length}

-- ── A stage and a kind: nothing else of the engine is read ──────────────────

pub stage_same : (s : State) (i : ℕ) → stage_view (of_parts s.machine s.units s.queue) i ≡ stage_view s i
unfolding stage_view stage_op stage_ops oldest_in
stage_same s i = refl

pub unit_same : (s : State) (i : ℕ) → unit_view (of_parts s.machine s.units []) i ≡ unit_view s i
unfolding unit_view unit_view_of working
unit_same s i = refl

-- ── How many there are ──────────────────────────────────────────────────────

pub queue_counted : {q : Queue} → QueueOk q → (g : Legend) → q.len ≡ length (view_queue g q)
queue_counted ok g = sym (queue-length ok g)

pub units_counted : {us : Units} → UnitsOk us → (g : Legend) → us.len ≡ length (view_units g us)
units_counted ok g = sym (units-length ok g)

pub traces_counted : {t : TraceList} → TraceListOk t → (f : LogFrame) → t.len ≡ length (view_traces f t)
traces_counted ok f = sym (traces-length ok f)

pub rows_counted : (w : Window) (ts : Tracks) (xs : RowTexts) → w.held ≡ length (view_rows w ts xs)
rows_counted w ts xs = sym (rows-count w ts xs)

pub kinds_counted : {m : Machine} → MachineOk m → m.specs_len ≡ length (view_machine m).specs
kinds_counted ok = sym (specs-length ok)

-- ── Stages and edges: the same whatever the engine ──────────────────────────

module _ {a b c d : PipelineEdge} where
  pub edges_shown : a ≡ sequential_edge 0 1 → b ≡ sequential_edge 1 2 → c ≡ sequential_edge 2 3 → d ≡ sequential_edge 3 4
      → map view_edge (a ∷ b ∷ c ∷ d ∷ record { from = 4; to = 0; kind = Feedback } ∷ []) ≡ edges
  unfolding view_edge edges
  edges_shown p q r s =
      let last : PipelineEdge = record { from = 4; to = 0; kind = Feedback } in
      ap₂ (λ x y. map view_edge (x ∷ y ∷ c ∷ d ∷ last ∷ [])) p q
      ∙ ap₂ (λ x y. map view_edge (sequential_edge 0 1 ∷ sequential_edge 1 2 ∷ x ∷ y ∷ last ∷ [])) r s

pub entries_shown : 0 ∷ [] ≡ entry_stages
unfolding views lists edge_number
entries_shown = refl

pub order_shown : 0 ∷ 1 ∷ 2 ∷ 3 ∷ 4 ∷ [] ≡ stage_order
unfolding views lists edge_number
order_shown = refl

-- ── What is in flight: in units, then in the queue ──────────────────────────

module _ {A : Type 0} (p : A → Bool) where
  pub any_append : (s t : List A) → list_any p (s ++ t) ≡ (list_any p s || list_any p t)
  any_append [] t = refl
  any_append (x ∷ s) t = ap (λ b. p x || b) (any_append s t) ∙ or_assoc (p x) (list_any p s) (list_any p t)
    where
      or_assoc : (a b c : Bool) → (a || (b || c)) ≡ ((a || b) || c)
      or_assoc true b c = refl
      or_assoc false b c = refl

-- ── A cell ──────────────────────────────────────────────────────────────────

module _ (h : ℕ) (m : List ℕ) (c : ℕ) where
  -- What the model answers, by the row.
  abbrev cell_of-row : Option Row → Answer
  cell_of-row o =
      when_some (first_of ((13, when_some o false (λ (w : Row). ltb c w.count) && ltb (length m) (h * 200)) ∷ []))
      (shown_cell (option_map cell_view (when_some o None (λ (w : Row). cell_at h w m c))))
      refused

  -- What the code answers, by the row's view.
  abbrev cell_of-view : Option PipelineTimelineRow → Answer
  cell_of-view (Some v) = cell_reply h (bare v) m c
  cell_of-view None = shown_cell None

  cell-so : (o : Option Row) → cell_of-view (option_map shown o) ≡ cell_of-row o
  unfolding shown cell_reply cell_at cell_place first_of
  cell-so None = refl
  cell-so (Some w) = refl

-- u is the row's view.
module _ (s : State) (m : List ℕ) (r c : ℕ) {h : ℕ} {u : Option PipelineTimelineRow} (q : h ≡ s.machine.history) (e : ShowsRow (slice_get s.log.rows r) u) where
  cell-answered : cell_of-view h m c u ≡ answer s m (cell r c (length m))
  unfolding answer refusal checks reply cell_there short_memory cell_byte
  cell-answered =
      let k = s.machine.history in
      ap (λ x. cell_of-view x m c u) q ∙ ap (cell_of-view k m c) e.is ∙ cell-so k m c (slice_get s.log.rows r)

  pub cell-shown : {v : PipelineTimelineRow} {a : Answer} → u ≡ Some v → a ≡ cell_reply h (bare v) m c → a ≡ answer s m (cell r c (length m))
  cell-shown t d = d ∙ ap (cell_of-view h m c) (sym t) ∙ cell-answered

  pub cell-missing : u ≡ None → shown_cell None ≡ answer s m (cell r c (length m))
  cell-missing t = ap (cell_of-view h m c) (sym t) ∙ cell-answered
