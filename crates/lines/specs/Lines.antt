-- A line that was read, and what its operation stands for.
use Rattle.std.specs.Prelude.{ℕ, ◌≤◌, ◌<◌, ◌≡◌, false, length, drop, None, Some}
use Rattle.laws.specs.Texts.{Text}
use Rattle.model.specs.Op.{Given}
use Rattle.model.specs.State.{State}
use Rattle.model.specs.Calls.{fetch, bad_info, too_many, refusal}
use Rattle.model.specs.Forecast.{Line, first_line, other_lines, parse, line_given}
use Rattle.op.specs.declared.PipelineOp.{PipelineOp}
use Rattle.op.specs.View.{view_op}
use Rattle.lines.specs.declared.Read.{Read}

-- An operation in arrays, for one whose texts and names may be longer: refused alike for its texts (2) and for its operands (9), and the same
-- where it is refused for neither.
pub record Stands (g : Given) (o : PipelineOp) : Type 0 where
  pub bad : bad_info (view_op o).info ≡ bad_info g.info
  pub many : too_many (view_op o).info ≡ too_many g.info
  pub same : bad_info g.info ≡ false → too_many g.info ≡ false → view_op o ≡ g

-- A fetch refuses the one as it refuses the other, and takes the same.
pub record FetchedAlike (s : State) (lent : ℕ) (g : Given) (o : PipelineOp) : Type 0 where
  pub refused : refusal s (fetch (view_op o) lent) ≡ refusal s (fetch g lent)
  pub taken : refusal s (fetch g lent) ≡ None → view_op o ≡ g

-- The line of the input that starts at `from`, read for an address.
pub record LineRead (input : Text) (from address : ℕ) (r : Read) : Type 0 where
  pub no_form : parse (first_line (drop from input)) ≡ None → r.op ≡ None
  pub is_form : (l : Line) → parse (first_line (drop from input)) ≡ Some l → (o : PipelineOp) × (r.op ≡ Some o) × Stands (line_given l address) o
  pub others : drop r.next input ≡ other_lines (drop from input)
  pub on : from < r.next
  pub most : r.next ≤ length input
