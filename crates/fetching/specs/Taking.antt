-- What a fetch by parts says: it is the fetch of every engine with these parts, once its place in the pool and its row are set.
use Rattle.std.specs.Prelude.{ℕ, ◌*◌, ◌%◌, ◌<◌, ◌≡◌, false, ltb, List, [], ◌∷◌, ◌++◌, length, set, Some, Result, Ok, Err}
use Rattle.laws.specs.Numbers.{max64}
use Rattle.capability.specs.declared.Refusal.{Refusal}
use Rattle.capability.specs.Refusals.{refusal_number, refusal_of}
use Rattle.model.specs.Op.{Info}
use Rattle.model.specs.Registers.{intern_all}
use Rattle.model.specs.Calls.{first_of, fetch, done, refused, bad_info, memory_after}
use Rattle.op.specs.declared.PipelineOp.{PipelineOp}
use Rattle.op.specs.View.{view_op}
use Rattle.config.specs.declared.Machine.{Machine}
use Rattle.registers.specs.declared.RegisterTable.{RegisterTable}
use Rattle.registers.specs.declared.Operands.{Operands}
use Rattle.registers.specs.View.{view_held}
use Rattle.registers.specs.Promises.{ResolvedTo}
use Rattle.flight.specs.declared.pool.Decoded.{Decoded}
use Rattle.flight.specs.declared.pool.Texts.{Texts}
use Rattle.flight.specs.Pool.{decoded_of, texts_of}
use Rattle.timeline.specs.declared.Tracks.{Tracks}
use Rattle.timeline.specs.declared.RowText.{RowText}
use Rattle.timeline.specs.declared.Window.{Window}
use Rattle.timeline.specs.View.{opened}
use Rattle.board.specs.declared.Board.{Board}
use Rattle.engine.specs.Engine.{Engine}
use Rattle.engine.specs.View.{view_engine}
use Rattle.engine.specs.Valid.{Valid}
use Rattle.engine.specs.Calls.{Does}
use Rattle.fetching.specs.Fetching.{row_text}

-- The numbers of an operation's registers, or a refusal: the names would be over 256, or memory is short. u is the table after; refused, it is t.
pub record NamesTo (t : RegisterTable) (i : Info) (lent history : ℕ) (r : Result Operands Refusal) (u : RegisterTable) : Type 0 where
  pub refused
      : refusal_of r
      ≡ first_of
      ((10, ltb 256 (length (intern_all (view_held t) (i.sources ++ i.writes)).names)) ∷ (13, ltb lent (history * 200)) ∷ [])
  pub left : (n : Refusal) → r ≡ Err n → u ≡ t
  pub named : (x : Operands) → r ≡ Ok x → ResolvedTo t i u (Some x)

-- The engine with these parts, else as it is.
abbrev pub engine_by : Board → Window → Tracks → Machine → RegisterTable → Engine → Engine
engine_by b w ts m t e =
    record { board = b; window = w; tracks = ts; decoded = e.decoded; machine = m; table = t; texts = e.texts; rows = e.rows }

-- They are those of a valid engine.
pub record Admissible (b : Board) (w : Window) (ts : Tracks) (m : Machine) (t : RegisterTable) : Type 0 where
  pub engine : Engine
  pub valid : Valid (engine_by b w ts m t engine)

-- The engine with the parts that a fetch leaves, the window after it, the operation and its text at its place, and the row in a slot.
abbrev pub admitted_engine
    : Board → Window → Tracks → Machine → RegisterTable → ℕ → Decoded → Texts → ℕ → RowText → Engine → Engine
admitted_engine b w ts m t place d text slot x e =
    record {
      board = b;
      window = w;
      tracks = ts;
      decoded = record { items = set e.decoded.items place d };
      machine = m;
      table = t;
      texts = record { items = set e.texts.items place text };
      rows = record { items = set e.rows.items slot x };
    }

-- Not refused: there is a place for the operation, a row for it, and a number after its own; and it is the fetch of every engine with these parts.
pub record Admitted (b : Board) (w : Window) (ts : Tracks) (m : Machine) (t : RegisterTable) (o : PipelineOp) (lent place : ℕ) (b' : Board) (ts' : Tracks)
    (t' : RegisterTable) : Type 0 where
  pub there : place < 80
  pub units : b'.units ≡ b.units
  pub good : bad_info (view_op o).info ≡ false
  pub next : w.next < max64
  pub admits
      : (e : Engine) → Valid (engine_by b w ts m t e)
      → Does (engine_by b w ts m t e) (fetch (view_op o) lent) done
      (admitted_engine b' (opened w) ts' m t' place (decoded_of o b'.fetch_pc) (texts_of o) (w.next % w.history) (row_text o) e)

-- It is the fetch of every engine with these parts.
pub record Admits (b : Board) (w : Window) (ts : Tracks) (m : Machine) (t : RegisterTable) (o : PipelineOp) (lent : ℕ) (r : Result ℕ Refusal) (b' : Board)
    (ts' : Tracks) (t' : RegisterTable) : Type 0 where
  pub admitted : (place : ℕ) → r ≡ Ok place → Admitted b w ts m t o lent place b' ts' t'
  pub refuses
      : (n : Refusal) → r ≡ Err n → (e : Engine) → Valid (engine_by b w ts m t e)
      → Does (engine_by b w ts m t e) (fetch (view_op o) lent) (refused (refusal_number n)) (engine_by b' w ts' m t' e)

abbrev pub AdmitWrites : Board → Window → Tracks → Machine → RegisterTable → PipelineOp → List ℕ → List ℕ → Type 0
AdmitWrites b w ts m t o before after =
    (e : Engine) → Valid (engine_by b w ts m t e)
    → after ≡ memory_after (view_engine (engine_by b w ts m t e)) (fetch (view_op o) (length before)) before
