-- A stage, a kind and a wait of the cycle, each by its place.
use Rattle.occupants.specs.declared.PipelineSlotView.{PipelineSlotView}
use Prim.Native.Nat.{ℕ, ◌≤◌, ◌<◌}
use mathlib.Core.Path.{◌≡◌, sym, ap, ap₂, ◌∙◌}
use Rattle.std.specs.Prelude.{Option, None, Some, option_map, slice_get}
use native.Mathlib.Omega.{arith}
use lib.ListN.{get_or}
use denote.Ref.{Bor}
use Rattle.laws.specs.Lists.{count}
use Rattle.laws.proofs.Tests.{omap-some, omap-none}
use Rattle.laws.proofs.Slices.{seen-nth, nth_end}
use Rattle.laws.proofs.Maps.{nth-map}
use Rattle.capability.specs.declared.PipelineHazardKind.{PipelineHazardKind}
use Rattle.capability.specs.declared.PipelineInstructionClass.{PipelineInstructionClass}
use Rattle.capability.specs.declared.PipelineStageRole.{PipelineStageRole}
use Rattle.capability.specs.declared.PipelineTraceKind.TheVariants.{Hazard}
use Rattle.model.specs.Config.{latency}
use Rattle.model.specs.Units.{unit_op}
use Rattle.model.specs.State.{State}
use Rattle.model.specs.Views.{
  SlotView,
  slot_view,
  StageView,
  stage_roles,
  stage_op,
  stage_view,
  UnitView,
  in_kind,
  working,
  shown_class,
  unit_view_of,
  unit_view,
  trace_view,
}
use Rattle.config.specs.declared.Machine.{Machine}
use Rattle.config.specs.declared.Spec.{Spec}
use Rattle.config.specs.View.{view_spec, view_machine}
use Rattle.config.specs.Kept.{MachineOk}
use Rattle.config.proofs.Machines.{spare, specs-length, specs-next}
use Rattle.stalls.specs.declared.Trace.{Trace}
use Rattle.stalls.specs.declared.TraceList.{TraceList}
use Rattle.stalls.specs.View.{Frame, form_kind, form_from, form_to, view_trace as wait-of, listed, view_traces}
use Rattle.occupants.specs.View.{view_slot}
use Rattle.inspect.specs.View.{view_stage, view_kind, view_trace, inspected}

-- ── A stage ─────────────────────────────────────────────────────────────────

abbrev staged : Option SlotView → PipelineStageRole → StageView
staged v r = record { role = r; slot = v }

-- m is the role at place i.
module _ (s : State) (i : ℕ) {m : Option PipelineStageRole} (e : m ≡ slice_get stage_roles i) where
  pub stage-there : {r : PipelineStageRole} (v : Option PipelineSlotView) → m ≡ Some r → option_map view_slot v ≡ option_map slot_view (stage_op s i)
      → option_map view_stage (Some (record { role = r; slot = v })) ≡ stage_view s i
  unfolding inspected stage_view
  stage-there {r} v t h =
      ap (λ x. Some (staged x r)) h ∙ sym (omap-some (staged (option_map slot_view (stage_op s i))) (sym e ∙ t))

  pub stage-past : m ≡ None → option_map view_stage None ≡ stage_view s i
  unfolding inspected stage_view
  stage-past t = sym (omap-none (staged (option_map slot_view (stage_op s i))) (sym e ∙ t))

-- ── A kind ──────────────────────────────────────────────────────────────────

module _ {m : Machine} (ok : MachineOk m) {i : ℕ} where
  pub kinds-nth : i < m.specs_len → slice_get (view_machine m).specs i ≡ Some (view_spec (get_or m.specs i spare))
  kinds-nth h = seen-nth (specs-next ok h)

  pub kinds-past : m.specs_len ≤ i → slice_get (view_machine m).specs i ≡ None
  kinds-past h = nth_end (view_machine m).specs (omega (arith, specs-length ok))

abbrev kind-shown : ℕ → ℕ → Option SlotView → PipelineInstructionClass → ℕ → UnitView
kind-shown c n f k l = record { capacity = c; active = n; first = f; latency_class = k; latency = l }

module _ (s : State) (i : ℕ) where
  pub kind-past : slice_get s.machine.specs i ≡ None → option_map view_kind None ≡ unit_view s i
  unfolding inspected unit_view
  kind-past e = sym (omap-none (unit_view_of s i) e)

  pub kind-there : (k : Spec) (f : Option PipelineSlotView) {n l : ℕ} {c : PipelineInstructionClass} → slice_get s.machine.specs i ≡ Some (view_spec k)
      → n ≡ count (in_kind i) s.units
      → option_map view_slot f ≡ option_map slot_view (option_map unit_op (working s i))
      → c ≡ shown_class (working s i) (view_spec k)
      → l ≡ latency s.machine.times c
      → option_map view_kind (Some (record { capacity = k.capacity; active = n; first = f; latency_class = c; latency = l })) ≡ unit_view s i
  unfolding inspected unit_view unit_view_of view_spec
  kind-there k f {n} {l} {c} e active first class time =
      let times = s.machine.times in
      ap (λ t. Some (kind-shown k.capacity n (option_map view_slot f) c t)) time
      ∙ ap (λ x. Some (kind-shown k.capacity n (option_map view_slot f) x (latency times x))) class
      ∙ ap₂ (λ a o. Some (kind-shown k.capacity a o (shown_class (working s i) (view_spec k)) (latency times (shown_class (working s i) (view_spec k)))))
      active first
      ∙ sym (omap-some (unit_view_of s i) e)

-- ── A wait ──────────────────────────────────────────────────────────────────

module _ (f : Frame) (l : TraceList) (i : ℕ) (m : Option (Bor Trace)) (e : option_map (λ x. x.now) m ≡ slice_get (listed l) i) where
  waits-nth : {o : Option (Bor Trace)} → m ≡ o → slice_get (view_traces f l) i ≡ option_map (wait-of f l.target) (option_map (λ x. x.now) o)
  unfolding view_traces
  waits-nth h = nth-map (wait-of f l.target) (listed l) i ∙ ap (option_map (wait-of f l.target)) (sym e ∙ ap (option_map (λ x. x.now)) h)

  pub wait-past : m ≡ None → option_map view_trace None ≡ option_map trace_view (slice_get (view_traces f l) i)
  wait-past h = sym (ap (option_map trace_view) (waits-nth h))

  pub wait-there : (t : Bor Trace) {k : PipelineHazardKind} {a b : ℕ} → m ≡ Some t → k ≡ form_kind t.now.form → a ≡ form_from t.now.form → b ≡ form_to t.now.form
      → option_map view_trace (Some (record { kind = Hazard k; from_stage = a; to_stage = b })) ≡ option_map trace_view (slice_get (view_traces f l) i)
  unfolding inspected trace_view wait-of
  wait-there t {k} {a} {b} h p q r =
      ap (λ x. Some (record { kind = Hazard x; from_stage = a; to_stage = b })) p
      ∙ ap₂ (λ x y. Some (record { kind = Hazard (form_kind t.now.form); from_stage = x; to_stage = y })) q r
      ∙ sym (ap (option_map trace_view) (waits-nth h))
