-- What an operation's arrays hold of a line.
use Rattle.std.specs.Prelude.{ℕ, min, Bool, true, false, cond, List, [], ◌∷◌, length, Option, None, Some}
use Rattle.laws.specs.Lists.{is_empty}
use Rattle.laws.specs.Texts.{Text}
use Rattle.capability.specs.declared.PipelineInstructionClass.{PipelineInstructionClass}
use Rattle.model.specs.Op.{Given, given, decoded, info_of}
use Rattle.model.specs.Forecast.{Line, branches}
use Rattle.op.specs.Chars.{shown}
use Rattle.op.specs.Build.{with_write, with_source}

-- A text in an array of `most` bytes. A longer one stays too long.
unfoldable pub kept : ℕ → Text → Text
kept most t = shown most (min (length t) 255) t

-- One more name that is written, or read.
unfoldable pub with_name : Bool → Text → Given → Given
with_name true n g = with_write (kept 16 n) g
with_name false n g = with_source (kept 16 n) g

unfoldable pub with_names : Bool → List Text → Given → Given
with_names w [] g = g
with_names w (n ∷ ns) g = with_names w ns (with_name w n g)

-- An operation without operands.
unfoldable pub plain : PipelineInstructionClass → ℕ → Text → ℕ → Given
plain c n t a = given (decoded a n c (branches c) false) (info_of (kept 64 t) None None [] [] 0)

unfoldable pub held : ℕ → Line → Given
held a l = with_names true l.writes (with_names false l.reads (plain l.class l.size l.text a))

-- ── Word by word: none where the line is not of the form ────────────────────────

unfoldable pub read_start : Option PipelineInstructionClass → Option ℕ → Text → ℕ → Option Given
read_start None n t a = None
read_start (Some c) None t a = None
read_start (Some c) (Some n) t a = Some (plain c n t a)

unfoldable pub read_name : Bool → Text → Option Given → Option Given
read_name w n None = None
read_name w n (Some g) = cond (is_empty n) None (Some (with_name w n g))

unfoldable pub read_names : Bool → List Text → Option Given → Option Given
read_names w [] o = o
read_names w (n ∷ ns) o = read_names w ns (read_name w n o)

unfoldable pub read_list : Bool → Option (List Text) → Option Given → Option Given
read_list w ns None = None
read_list w None (Some g) = None
read_list w (Some ns) (Some g) = Some (with_names w ns g)
