-- What a queued operation means to the model. It keeps numbers: a legend says what they stand for.
use Rattle.std.specs.Prelude.{ℕ, ◌≤◌, ◌≡◌, Bool, false, cond, List, [], map, ltb, length, take, Option, None, option_map}
use Rattle.laws.specs.Lists.{All}
use Rattle.laws.specs.Texts.{Text}
use Rattle.capability.specs.declared.PipelineInstructionClass.{PipelineInstructionClass}
use Rattle.capability.specs.declared.PipelineHazardKind.{PipelineHazardKind}
use Rattle.model.specs.Op.{decoded, info_of, core_of, Op, op_of}
use Rattle.model.specs.Registers.{name_of}
use Rattle.op.specs.Chars.{view_text}
use Rattle.registers.specs.declared.Operands.{Operands}
use Rattle.registers.specs.View.{read, written, OperandsOk}
use Rattle.flight.specs.declared.Queued.{Queued}
use Rattle.flight.specs.declared.Queue.{Queue}
use Rattle.flight.specs.declared.pool.Decoded.{Decoded}
use Rattle.flight.specs.declared.pool.Texts.{Texts}

-- ── What numbers stand for ──────────────────────────────────────────────────

-- What an operation carries from its fetch on, beside the numbers that a cycle reads.
pub record Carried : Type 0 where
  pub address : ℕ
  pub size : ℕ
  pub predicted_next : ℕ
  pub payload : ℕ
  pub atomic : Bool
  pub disassembly : Text
  pub fault : Option Text
  pub destination : Option Text

abbrev pub carried_of : ℕ → ℕ → ℕ → ℕ → Bool → Text → Option Text → Option Text → Carried
carried_of a n p y t d f r =
    record {
      address = a;
      size = n;
      predicted_next = p;
      payload = y;
      atomic = t;
      disassembly = d;
      fault = f;
      destination = r;
    }

abbrev pub nothing_carried : Carried
nothing_carried = carried_of 0 0 0 0 false [] None None

-- By a place of the pool, and by a register's number.
pub record Legend : Type 0 where
  pub carried : ℕ → Carried
  pub names : List Text

-- Place 80 is that of no operation.
unfoldable pub carried_at : Legend → ℕ → Carried
carried_at g place = cond (ltb place 80) (g.carried place) nothing_carried

-- What the two parts of the pool hold at a place.
abbrev pub view_carried : Decoded → Texts → Carried
view_carried d t =
    carried_of d.address d.length d.predicted_next d.payload d.atomic (view_text t.disassembly) (option_map view_text t.fault)
    (option_map view_text t.destination)

-- ── An operation ────────────────────────────────────────────────────────────

abbrev pub named : Legend → List ℕ → List Text
named g rs = map (name_of g.names) rs

-- The model's operation, by what it carries and what the engine keeps of it.
unfoldable pub op_with : Carried → Legend → ℕ → PipelineInstructionClass → Bool → Operands → Option PipelineHazardKind → ℕ → Op
op_with c g seq class branch x h cycles =
    op_of
    (core_of (decoded c.address c.size class branch c.atomic) seq seq h cycles c.predicted_next)
    (info_of c.disassembly c.fault c.destination (named g (read x)) (named g (written x)) c.payload)

unfoldable pub view_queued : Legend → Queued → Op
view_queued g q =
    op_with (carried_at g q.place) g q.seq q.class q.branch q.operands q.hazard q.latency

unfoldable pub view_queue : Legend → Queue → List Op
view_queue g q = take q.len (map (view_queued g) q.items)

-- The entries in order, as they stand.
unfoldable pub entries : Queue → List Queued
entries q = take q.len q.items

-- ── When they are well formed ───────────────────────────────────────────────

pub record QueuedOk (q : Queued) : Type 0 where
  pub operands : OperandsOk q.operands
  pub place : q.place ≤ 80

pub record QueueOk (q : Queue) : Type 0 where
  pub few : q.len ≤ 16
  pub size : length q.items ≡ 16
  pub each : All QueuedOk q.items

-- All of these unfold where a line says `unfolding flights`.
unfoldable pub flights : Unit {0}
unfolding carried_at op_with view_queued view_queue entries
flights = tt
