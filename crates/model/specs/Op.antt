-- op.rs: one operation. Decisions read `core`; `info` is only moved, looked at, and shown.
use Rattle.std.specs.Prelude.{ℕ, ◌+◌, ◌%◌, max, Bool, false, cond, List, [], ◌∷◌, eqb, Option, None}
use Rattle.laws.specs.Optional.{value_or}
use Rattle.laws.specs.Texts.{Text, bytes, before}
use Rattle.capability.specs.declared.PipelineInstructionClass.{PipelineInstructionClass}
use Rattle.capability.specs.declared.PipelineInstructionClass.TheVariants.{Unknown}
use Rattle.capability.specs.declared.PipelineHazardKind.{PipelineHazardKind}

-- What the caller decoded, in numbers.
pub record Decoded : Type 0 where
  pub address : ℕ
  pub size : ℕ
  pub class : PipelineInstructionClass
  pub branch : Bool
  pub atomic : Bool

abbrev pub decoded : ℕ → ℕ → PipelineInstructionClass → Bool → Bool → Decoded
decoded a n c b t = record { address = a; size = n; class = c; branch = b; atomic = t }

-- Its texts, its register names and its payload. The fault note and the payload are never read.
pub record Info : Type 0 where
  pub disassembly : Text
  pub fault : Option Text
  pub destination : Option Text
  pub sources : List Text
  pub writes : List Text
  pub payload : ℕ

abbrev pub info_of : Text → Option Text → Option Text → List Text → List Text → ℕ → Info
info_of t n d s w p = record { disassembly = t; fault = n; destination = d; sources = s; writes = w; payload = p }

-- What a fetch is given.
pub record Given : Type 0 where
  pub decoded : Decoded
  pub info : Info

abbrev pub given : Decoded → Info → Given
given d i = record { decoded = d; info = i }

-- The numbers of an operation in flight: what was decoded, and the engine's bookkeeping.
pub record Core : Type 0 where
  pub decoded : Decoded
  pub row : ℕ
  pub seq : ℕ
  pub hazard : Option PipelineHazardKind
  pub cycles_left : ℕ
  pub predicted_next : ℕ

abbrev pub core_of : Decoded → ℕ → ℕ → Option PipelineHazardKind → ℕ → ℕ → Core
core_of d r s h c p = record { decoded = d; row = r; seq = s; hazard = h; cycles_left = c; predicted_next = p }

-- PipelineOp
pub record Op : Type 0 where
  pub core : Core
  pub info : Info

abbrev pub op_of : Core → Info → Op
op_of c i = record { core = c; info = i }

abbrev pub with_hazard : Option PipelineHazardKind → Op → Op
with_hazard h o =
    op_of (core_of o.core.decoded o.core.row o.core.seq h o.core.cycles_left o.core.predicted_next) o.info

abbrev pub with_cycles : ℕ → Op → Op
with_cycles c o =
    op_of (core_of o.core.decoded o.core.row o.core.seq o.core.hazard c o.core.predicted_next) o.info

abbrev pub no_info : Info
no_info = info_of [] None None [] [] 0

-- What stands in a unit that holds none.
abbrev pub no_op : Op
no_op = op_of (core_of (decoded 0 0 Unknown false false) 0 0 None 0 0) no_info

-- PipelineOp::sequential_address: a length of 0 counts as 1; the sum wraps at 2^64.
unfoldable pub sequential_address : Option ℕ → Decoded → ℕ
sequential_address stride d = (d.address + max 1 (value_or d.size stride)) % 18446744073709551616

-- mnemonic: split_whitespace().next().unwrap_or("?"). Of the bytes that a text may hold only the space is white.
unfoldable pub skip_spaces : Text → Text
skip_spaces [] = []
skip_spaces (x ∷ xs) = cond (eqb x 32) (skip_spaces xs) (x ∷ xs)

abbrev pub to_space : Text → Text
to_space t = before 32 t

unfoldable pub or_question : Text → Text
or_question [] = bytes "?"
or_question (x ∷ xs) = x ∷ xs

unfoldable pub first_word : Text → Text
first_word t = or_question (to_space (skip_spaces t))

unfoldable pub mnemonic : Op → Text
mnemonic o = first_word o.info.disassembly

-- All of these unfold where a line says `unfolding operation`.
unfoldable pub operation : Unit {0}
unfolding sequential_address skip_spaces or_question first_word mnemonic
operation = tt
