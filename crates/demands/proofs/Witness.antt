-- An engine, written out: the one that a machine declaring nothing is made into. So there are engines of which `Valid` holds.
use Prim.Native.Nat.{ℕ, zero, suc}
use mathlib.Core.Path.{◌≡◌, refl, sym, subst}
use mathlib.Core.Bool.{true, false, false≢true}
use mathlib.Core.Logic.{inr}
use Rattle.std.specs.Prelude.{Option, None}
use mathlib.Core.List.{[], ◌∷◌}
use native.Mathlib.Omega.{arith}
use Rattle.std.proofs.Common.{rules}
use lib.ListN.{get_or, replicate}
use Rattle.laws.proofs.Slices.{All-replicate}
use Rattle.capability.specs.declared.PipelineInstructionClass.{PipelineInstructionClass}
use Rattle.capability.specs.declared.PipelineInstructionClass.TheVariants.{Alu, Multiply, Divide, Load, Store, Branch, Jump, System, FloatingPoint, Unknown}
use Rattle.capability.specs.Numbers.{class_number}
use Rattle.capability.specs.declared.Phase.TheVariants.{Wait}
use Rattle.model.specs.Everything.{everything}
use Rattle.model.specs.State.{new}
use Rattle.model.specs.Calls.{make_refusal}
use Rattle.invariant.specs.Invariant.{Invariant}
use Rattle.invariant.proofs.Invariant.{invariant-made}
use Rattle.op.specs.declared.chars.Chars.{Chars}
use Rattle.op.specs.View.{views as op-views}
use Rattle.config.specs.declared.Spec.{Spec}
use Rattle.config.specs.declared.Machine.{Machine}
use Rattle.config.specs.View.{views as config-views, flag}
use Rattle.config.specs.Kept.{SpecOk, MachineOk}
use Rattle.config.specs.Checks.{nothing_declared}
use Rattle.registers.specs.View.{views as registers-views, NameOk, OperandsOk}
use Rattle.registers.specs.declared.Operands.{Operands}
use Rattle.flight.specs.View.{flights, QueuedOk}
use Rattle.flight.specs.Pool.{no_decoded, no_texts, TextsOk}
use Rattle.timeline.specs.View.{no_text, first_track, no_rows, view_rows, from, TrackOk, RowTextOk}
use Rattle.timeline.specs.declared.WaitForm.TheVariants.{Drains}
use Rattle.units.specs.declared.Unit.{Unit as Slot}
use Rattle.units.specs.View.{view_unit, UnitOk}
use Rattle.stalls.specs.View.{logs, listed}
use Rattle.bank.specs.View.{banks, slots}
use Rattle.board.specs.declared.Board.{Board}
use Rattle.board.specs.View.{boards, BoardOk}
use Rattle.board.specs.Promises.{no_front, placing}
use Rattle.engine.proofs.Dropping.{empty-looks}
use Rattle.scoreboard.proofs.Fresh.{empty-apart}
use Rattle.scoreboard.specs.declared.ScoreboardPipeline.{ScoreboardPipeline}
use Rattle.engine.specs.View.{shown}
use Rattle.scoreboard.specs.View.{view_engine}
use Rattle.scoreboard.specs.Valid.{Parts, Valid}

-- ── Its parts ───────────────────────────────────────────────────────────────

abbrev no_name : Chars 16
no_name = record { bytes = replicate 16 0; len = 0 }

abbrev no_operands : Operands
no_operands = record { sources = replicate 8 0; destinations = replicate 4 0; sources_len = 0; destinations_len = 0 }

abbrev idle-slot : Slot
idle-slot =
    record {
      seq = 0;
      operands = no_operands;
      pending = record { items = replicate 8 (record { register = 0; unit = 0 }); len = 0 };
      spec = 0;
      instance = 0;
      place = 80;
      class = Unknown;
      redirects = false;
      busy = false;
      progress = record { phase = Wait; hazard = None; cycles_left = 0 };
    }

abbrev ex : Spec
ex =
    record {
      name = record { bytes = 69 ∷ 88 ∷ replicate 6 0; len = 2 };
      every = true;
      classes = replicate 10 true;
      latency_class = Alu;
      capacity = 1;
    }

abbrev plain-machine : Machine
plain-machine =
    record {
      specs = replicate 16 ex;
      specs_len = 1;
      timing = record { alu = 0; mul = 0; div = 0; load = 0; store = 0; system = 0; fp = 0 };
      depth = 1;
      history = 1;
      instruction_bytes = None;
    }

abbrev idle-board : Board
idle-board =
    record {
      units = record { items = replicate 64 idle-slot; len = 1 };
      fetch_pc = 0;
      queue =
          record {
            items =
                replicate 16
                (record {
                  seq = 0;
                  operands = no_operands;
                  class = Unknown;
                  branch = false;
                  hazard = None;
                  latency = 0;
                  place = 80;
                });
            len = 0;
          };
      offer = record { writing = None; retired = false };
      claims = record { unit = replicate 256 None; len = 0 };
      front = no_front;
      log =
          record {
            traces = record { items = replicate 130 (record { form = Drains; mine = 80; other = 80; number = 0 }); len = 0; target = 0 };
            stats =
                record {
                  cycles = 0;
                  committed = 0;
                  stalls = 0;
                  raw_stalls = 0;
                  load_use_stalls = 0;
                  branch_stalls = 0;
                  functional_unit_stalls = 0;
                  memory_stalls = 0;
                  waw_stalls = 0;
                  war_stalls = 0;
                  flushes = 0;
                  branches = 0;
                };
          };
      marks = record { branch = false; system = false };
      gone = 80;
      status = None;
    }

abbrev pub plain-engine : ScoreboardPipeline
plain-engine =
    record {
      board = idle-board;
      window = no_rows 1;
      tracks = record { items = replicate 256 (first_track 0) };
      decoded = record { items = replicate 80 no_decoded };
      machine = plain-machine;
      table = record { names = replicate 256 no_name; hints = replicate 1024 0; known = 0; held = 0 };
      texts = record { items = replicate 80 no_texts };
      rows = record { items = replicate 256 no_text };
    }

-- ── What it means ───────────────────────────────────────────────────────────

pub plain-is : view_engine plain-engine ≡ new nothing_declared 0
unfolding shown boards banks flights logs registers-views op-views config-views everything view_unit view_rows from
plain-is = refl

-- ── Its parts are well formed ───────────────────────────────────────────────

no_operands-ok : OperandsOk no_operands
no_operands-ok = record { sources = omega arith; sources_size = refl; destinations = omega arith; destinations_size = refl }

idle-ok : UnitOk idle-slot
idle-ok = record { operands = no_operands-ok; pending = record { count = omega arith; size = refl }; spec = omega arith; place = omega arith }

board-ok : BoardOk idle-board
unfolding slots listed registers-views
board-ok =
    record {
      units = record { few = omega arith; size = refl; each = All-replicate UnitOk 64 idle-slot idle-ok };
      queue = record { few = omega arith; size = refl; each = All-replicate QueuedOk 16 _ (record { operands = no_operands-ok; place = omega arith }) };
      claims = record { count = omega arith; size = refl; free = All-replicate (λ (o : Option ℕ). o ≡ None) 256 None refl };
      log = record { few = omega arith; size = refl };
      offer = tt;
      status = tt;
      gone = omega arith;
      knows = (record { sources = tt; destinations = tt; pending = tt }, tt);
      known = tt;
    }

all-taken : (c : PipelineInstructionClass) → flag (replicate 10 true) c ≡ true
unfolding flag class_number
all-taken Alu = refl
all-taken Multiply = refl
all-taken Divide = refl
all-taken Load = refl
all-taken Store = refl
all-taken Branch = refl
all-taken Jump = refl
all-taken System = refl
all-taken FloatingPoint = refl
all-taken Unknown = refl

ex-ok : SpecOk ex
unfolding config-views everything op-views
ex-ok =
    record {
      bytes = refl;
      flags = refl;
      takes = all-taken;
      kind = record { named = refl; most = omega arith };
      least = omega arith;
    }

machine-ok : MachineOk plain-machine
unfolding config-views everything op-views
machine-ok =
    record {
      specs = record { size = refl; each = All-replicate SpecOk 16 ex ex-ok };
      some = omega arith;
      few = omega arith;
      units = omega arith;
      timed = refl;
      depth_least = omega arith;
      depth_most = omega arith;
      history_least = omega arith;
      history_most = omega arith;
    }

no_place : (i : ℕ) → ◌≡◌ {A = ℕ} (get_or (80 ∷ []) i 80) 80
no_place zero = refl
no_place (suc i) = refl

plain-parts : Parts plain-engine
unfolding placing banks registers-views op-views flights logs
plain-parts =
    record {
      board = board-ok;
      window = record { few = omega arith; past = omega arith; least = omega arith; most = omega arith };
      tracks = record { size = refl; each = All-replicate TrackOk 256 (first_track 0) (record { some_cell = omega arith; few = omega arith; place = omega arith }) };
      rows = record { size = refl; each = All-replicate RowTextOk 256 no_text (search rules) };
      machine = machine-ok;
      table =
          record {
            known = omega arith;
            held = omega arith;
            size = refl;
            each = All-replicate NameOk 256 no_name (omega arith);
            hints = refl;
            distinct = tt;
          };
      decoded = record { size = refl };
      texts =
          record {
            size = refl;
            each = All-replicate TextsOk 80 no_texts (record { text = omega arith; fault = tt; destination = tt });
          };
      history = refl;
      known = refl;
      looks = empty-looks _ idle-board refl refl;
      apart = empty-apart idle-board 1 refl refl refl;
      vacant = λ g i h. inr (no_place i);
      begun = λ h o. absurd (false≢true h);
      named = λ h. tt;
    }

pub nothing-made : make_refusal nothing_declared 51200 ≡ None
unfolding everything
nothing-made = refl

pub plain-valid : Valid plain-engine
plain-valid =
    record { parts = plain-parts; invariant = subst Invariant (sym plain-is) (invariant-made nothing_declared 0 51200 nothing-made) }
