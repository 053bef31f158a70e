-- timeline.rs, `Timeline`: a row for each fetch, a cell for each cycle that it was visible. The cells stand in lent memory:
-- row id r uses slot r mod history, 200 bytes; its cell c, counted from 0 at opening, the slot's byte c mod 200.
use Rattle.std.specs.Prelude.{ℕ, zero, suc, ◌+◌, ◌-◌, ◌*◌, ◌%◌, Bool, cond, List, [], ◌∷◌, ◌++◌, eqb, ltb, length, drop, replicate, Option, None, slice_get}
use Rattle.laws.specs.Numbers.{saturating_add}
use Rattle.laws.specs.Texts.{Text}
use Rattle.capability.specs.declared.PipelineInstructionClass.{PipelineInstructionClass}

-- Row. Ours are the last two: at which byte of the slot the oldest cell stands, and how many cells there are.
pub record Row : Type 0 where
  pub id : ℕ
  pub address : ℕ
  pub disassembly : Text
  pub class : PipelineInstructionClass
  pub first_cycle : ℕ
  pub atomic : Bool
  pub oldest_at : ℕ
  pub count : ℕ

abbrev pub row_of : ℕ → ℕ → Text → PipelineInstructionClass → ℕ → Bool → ℕ → ℕ → Row
row_of i a t c f m o n =
    record { id = i; address = a; disassembly = t; class = c; first_cycle = f; atomic = m; oldest_at = o; count = n }

-- Timeline::open: beyond the history the oldest row goes.
unfoldable pub open_row : ℕ → Row → List Row → List Row
open_row history r rows = drop (length (rows ++ (r ∷ [])) - history) (rows ++ (r ∷ []))

-- One more cell; beyond MAX_CELLS, 200, the oldest goes and the first cycle rises.
unfoldable pub add_cell : Row → Row
add_cell r =
    row_of r.id r.address r.disassembly r.class
    (cond (ltb 200 (suc r.count)) (saturating_add r.first_cycle 1) r.first_cycle) r.atomic
    (cond (ltb 200 (suc r.count)) (suc r.oldest_at % 200) r.oldest_at) (cond (ltb 200 (suc r.count)) r.count (suc r.count))

-- Timeline::push: to the first row of that id; a cell for a row no longer held is dropped.
unfoldable pub push : ℕ → List Row → List Row
push i [] = []
push i (r ∷ rs) = cond (eqb r.id i) (add_cell r ∷ rs) (r ∷ push i rs)

-- The cells of a list of (row id, byte), in order.
unfoldable pub push_all : List (ℕ × ℕ) → List Row → List Row
push_all [] rows = rows
push_all (p ∷ ps) rows = push_all ps (push p.0 rows)

-- ── The lent cell memory: which bytes are set, in order ─────────────────────

-- Where the slot of a row id begins.
unfoldable pub slot : ℕ → ℕ → ℕ
slot history i = i % history * 200

-- Where a row's cell c stands, counted from its oldest.
unfoldable pub cell_place : ℕ → Row → ℕ → ℕ
cell_place history r c = slot history r.id + (r.oldest_at + c) % 200

unfoldable pub next_place : ℕ → Row → ℕ
next_place history r = cell_place history r r.count

-- Timeline::cell, as the byte in the lent memory.
unfoldable pub cell_at : ℕ → Row → List ℕ → ℕ → Option ℕ
cell_at history r m c = cond (ltb c r.count) (slice_get m (cell_place history r c)) None

-- A write: a place, and the bytes set from there on.
abbrev pub Write : Type 0
Write = ℕ × List ℕ

unfoldable pub push_writes : ℕ → ℕ → ℕ → List Row → List Write
push_writes history i c [] = []
push_writes history i c (r ∷ rs) = cond (eqb r.id i) ((next_place history r, c ∷ []) ∷ []) (push_writes history i c rs)

unfoldable pub push_all_writes : ℕ → List (ℕ × ℕ) → List Row → List Write
push_all_writes history [] rows = []
push_all_writes history (p ∷ ps) rows =
    push_writes history p.0 p.1 rows ++ push_all_writes history ps (push p.0 rows)

-- Opening a row sets its own 200 bytes to 255, and then the first cell, IF.
unfoldable pub open_writes : ℕ → ℕ → List Write
open_writes history i = (slot history i, replicate 200 255) ∷ (slot history i, 0 ∷ []) ∷ []

-- Making and a clearing reset set the bytes of every row to 255.
unfoldable pub clear_writes : ℕ → List Write
clear_writes history = (0, replicate (history * 200) 255) ∷ []

-- The bytes laid over the front of m.
unfoldable pub overlay : List ℕ → List ℕ → List ℕ
overlay [] m = m
overlay (b ∷ bs) [] = []
overlay (b ∷ bs) (x ∷ m) = b ∷ overlay bs m

unfoldable pub splice : ℕ → List ℕ → List ℕ → List ℕ
splice zero bs m = overlay bs m
splice (suc n) bs [] = []
splice (suc n) bs (x ∷ m) = x ∷ splice n bs m

unfoldable pub write_all : List Write → List ℕ → List ℕ
write_all [] m = m
write_all (w ∷ ws) m = write_all ws (splice w.0 w.1 m)

-- All of these unfold where a line says `unfolding timeline`.
unfoldable pub timeline : Unit {0}
unfolding open_row add_cell push push_all slot cell_place next_place cell_at push_writes push_all_writes open_writes clear_writes overlay
    splice write_all
timeline = tt
