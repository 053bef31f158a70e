-- Classes by the cases that they are not, and how large a cell's byte is.
use Prim.Native.Nat.{ℕ, ◌≤◌, ◌<◌}
use mathlib.Core.Path.{◌≡◌, refl, ap₂}
use lib.Dec.{eqb}
use denote.Enum.Bare.{sameb}
use denote.Enum.Declared.{tag_of}
use Rattle.capability.specs.contracts.Phase.{the_type}
use mathlib.Core.Bool.{false}
use Rattle.std.specs.Prelude.{Option, None, Some}
use native.Mathlib.Omega.{arith}
use Rattle.capability.specs.declared.PipelineInstructionClass.{PipelineInstructionClass}
use Rattle.capability.specs.declared.PipelineInstructionClass.TheVariants.{Alu, Multiply, Divide, Load, Store, Branch, Jump, System, FloatingPoint, Unknown}
use Rattle.capability.specs.declared.PipelineHazardKind.{PipelineHazardKind}
use Rattle.capability.specs.declared.Phase.{Phase}
use Rattle.capability.specs.declared.Phase.TheVariants.{Wait, Read, Execute, Write}
use Rattle.capability.specs.Numbers.{class_number, phase_number}
use Rattle.model.specs.Config.{same_class, is_memory, is_system}
use Rattle.model.specs.Issue.{stalled_or, phase_label}

pub not_memory : (k : PipelineInstructionClass) → (k ≡ Load → ⊥) → (k ≡ Store → ⊥) → is_memory k ≡ false
unfolding is_memory same_class class_number
not_memory Alu a b = refl
not_memory Multiply a b = refl
not_memory Divide a b = refl
not_memory Load a b = absurd (a refl)
not_memory Store a b = absurd (b refl)
not_memory Branch a b = refl
not_memory Jump a b = refl
not_memory System a b = refl
not_memory FloatingPoint a b = refl
not_memory Unknown a b = refl

pub not_system : (k : PipelineInstructionClass) → (k ≡ System → ⊥) → is_system k ≡ false
unfolding is_system same_class class_number
not_system Alu a = refl
not_system Multiply a = refl
not_system Divide a = refl
not_system Load a = refl
not_system Store a = refl
not_system Branch a = refl
not_system Jump a = refl
not_system System a = absurd (a refl)
not_system FloatingPoint a = refl
not_system Unknown a = refl

pub label_most : (p : Phase) {k : ℕ} → k < 16 → phase_label p k < 24
unfolding phase_label
label_most Wait h = omega arith
label_most Read h = omega arith
label_most Execute h = omega arith
label_most Write h = omega arith

pub stalled_most : (h : Option PipelineHazardKind) → stalled_or h ≤ 32
unfolding stalled_or
stalled_most None = omega arith
stalled_most (Some h) = omega arith

pub same_phase : (p w : Phase) → sameb the_type p w ≡ eqb (phase_number p) (phase_number w)
unfolding phase_number
same_phase p w = ap₂ eqb (tagged p) (tagged w)
  where
    tagged : (q : Phase) → tag_of the_type q ≡ phase_number q
    tagged Wait = refl
    tagged Read = refl
    tagged Execute = refl
    tagged Write = refl
