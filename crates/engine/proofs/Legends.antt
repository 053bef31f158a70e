-- Two legends that agree where units, queue and waits look: these mean the same.
use Rattle.capability.specs.declared.PipelineHazardKind.{PipelineHazardKind}
use Rattle.std.specs.Prelude.{Option}
use Prim.Native.Nat.{ℕ}
use mathlib.Core.Path.{◌≡◌, sym, ap, ap₂, ◌∙◌}
use mathlib.Core.Bool.{Bool}
use mathlib.Core.List.{List}
use Rattle.laws.specs.Lists.{All}
use Rattle.laws.specs.Texts.{Text}
use Rattle.laws.proofs.Slices.{take-map}
use Rattle.model.specs.Op.{Op, op_of, core_of, decoded, info_of}
use Rattle.model.specs.Units.{with_op}
use Rattle.registers.specs.declared.Operands.{Operands}
use Rattle.flight.specs.declared.Queued.{Queued}
use Rattle.flight.specs.declared.Queue.{Queue}
use Rattle.flight.specs.View.{Carried, Legend, carried_at, named, op_with, view_queued, view_queue, entries}
use Rattle.registers.specs.View.{read, written}
use Rattle.flight.proofs.Entries.{view-entries}
use Rattle.capability.specs.declared.PipelineInstructionClass.{PipelineInstructionClass}
use Rattle.stalls.specs.declared.Trace.{Trace}
use Rattle.stalls.specs.declared.TraceList.{TraceList}
use Rattle.stalls.specs.View.{Frame as LogFrame, number_word, word_at, view_trace, listed, view_traces}
use Rattle.stalls.proofs.Logged.{map-all}
use Rattle.units.specs.declared.Unit.{Unit as Slot}
use Rattle.units.specs.View.{view_unit}
use Rattle.bank.specs.declared.Units.{Units}
use Rattle.bank.specs.View.{view_units, slots}

-- At a place, and for the registers of an operation.
pub record Agree (g h : Legend) (place : ℕ) (x : Operands) : Type 0 where
  pub carried : carried_at h place ≡ carried_at g place
  pub read : named h (read x) ≡ named g (read x)
  pub written : named h (written x) ≡ named g (written x)

module _ (g h : Legend) where
  op-agrees
      : {place : ℕ} {x : Operands} (seq : ℕ) (c : PipelineInstructionClass) (b : Bool) (z : Option PipelineHazardKind) (n : ℕ) → Agree g h place x
      → op_with (carried_at h place) h seq c b x z n ≡ op_with (carried_at g place) g seq c b x z n
  unfolding op_with
  op-agrees {place} {x} seq c b z n a =
      ap (λ (k : Carried). op_with k h seq c b x z n) a.carried
      ∙ ap₂ (λ (r w : List Text). with_names (carried_at g place) r w) a.read a.written
    where
      with_names : Carried → List Text → List Text → Op
      with_names k r w =
          op_of (core_of (decoded k.address k.size c b k.atomic) seq seq z n k.predicted_next)
          (info_of k.disassembly k.fault k.destination r w k.payload)

  abbrev pub UnitAgrees : Slot → Type 0
  UnitAgrees u = Agree g h u.place u.operands

  abbrev pub EntryAgrees : Queued → Type 0
  EntryAgrees q = Agree g h q.place q.operands

  unit-agrees : (u : Slot) → UnitAgrees u → view_unit h u ≡ view_unit g u
  unfolding view_unit
  unit-agrees u a =
      ap (λ (o : Op). with_op o (view_unit g u)) (op-agrees u.seq u.class u.redirects u.progress.hazard u.progress.cycles_left a)

  entry-agrees : (q : Queued) → EntryAgrees q → view_queued h q ≡ view_queued g q
  unfolding view_queued
  entry-agrees q a = op-agrees q.seq q.class q.branch q.hazard q.latency a

  pub units-agree : (us : Units) → All UnitAgrees (slots us) → view_units h us ≡ view_units g us
  unfolding view_units slots
  units-agree us a =
      take-map (view_unit h) us.len us.items ∙ map-all UnitAgrees (view_unit h) (view_unit g) unit-agrees (slots us) a
      ∙ sym (take-map (view_unit g) us.len us.items)

  pub queue-agrees : (q : Queue) → All EntryAgrees (entries q) → view_queue h q ≡ view_queue g q
  queue-agrees q a = view-entries h q ∙ map-all EntryAgrees (view_queued h) (view_queued g) entry-agrees (entries q) a ∙ sym (view-entries g q)

-- For a wait: the words of its operations, and of its number.
pub record WaitAgrees (f k : LogFrame) (t : Trace) : Type 0 where
  pub mine : word_at k.legend t.mine ≡ word_at f.legend t.mine
  pub other : word_at k.legend t.other ≡ word_at f.legend t.other
  pub number : number_word t.form k.kinds k.names t.number ≡ number_word t.form f.kinds f.names t.number

module _ (f k : LogFrame) where
  wait-agrees : (target : ℕ) (t : Trace) → WaitAgrees f k t → view_trace k target t ≡ view_trace f target t
  unfolding view_trace
  wait-agrees target t a = rw (a.mine, a.other, a.number)

  pub waits-agree : (l : TraceList) → All (WaitAgrees f k) (listed l) → view_traces k l ≡ view_traces f l
  unfolding view_traces
  waits-agree l a = map-all (WaitAgrees f k) (view_trace k l.target) (view_trace f l.target) (wait-agrees l.target) (listed l) a
