-- A line of the input, and where the next one starts.
use Prim.Native.Nat.{ℕ, ◌+◌, ◌≤◌, ◌<◌}
use mathlib.Core.Path.{◌≡◌, refl, sym, ap, ◌∙◌}
use Rattle.std.specs.Prelude.{Option, None, Some, option_map}
use native.Mathlib.Omega.{arith}
use lib.ListN.{length, take, drop, drop_of_length-le, length-drop}
use lib.Seq.{drop-drop, drop-length}
use Rattle.laws.specs.Texts.{Text, before, beyond}
use Rattle.model.specs.Forecast.{Line, first_line, other_lines, parse, line_given}
use Rattle.op.specs.View.{view_op}
use Rattle.op.specs.declared.PipelineOp.{PipelineOp}
use Rattle.lines.specs.Cut.{Cut}
use Rattle.lines.specs.Held.{held}
use Rattle.lines.specs.Lines.{Stands, LineRead}
use Rattle.lines.proofs.Cut.{left, left-drop, left-length}
use Rattle.lines.proofs.Stands.{held-stands}

module _ (input : Text) (from a : ℕ) {end : ℕ} (r : Option PipelineOp) (k : Cut 10 (left input from) end)
    (e : option_map view_op r ≡ option_map (held a) (parse (take end (left input from)))) (here : from < length input) where
  line : take end (left input from) ≡ first_line (drop from input)
  unfolding first_line
  line = k.front ∙ ap (before 10) (left-drop input from)

  beyond-line : drop (end + 1) (drop from input) ≡ other_lines (drop from input)
  unfolding other_lines
  beyond-line = ap (drop (end + 1)) (sym (left-drop input from)) ∙ k.back ∙ ap (beyond 10) (left-drop input from)

  unformed : parse (first_line (drop from input)) ≡ None → r ≡ None
  unformed p = none r (e ∙ ap (λ t. option_map (held a) (parse t)) line ∙ ap (option_map (held a)) p)
    where
      none : (o : Option PipelineOp) → option_map view_op o ≡ None → o ≡ None
      none None q = refl
      none (Some o) q = cc

  formed : (l : Line) → parse (first_line (drop from input)) ≡ Some l → (o : PipelineOp) × (r ≡ Some o) × Stands (line_given l a) o
  formed l p = some r (e ∙ ap (λ t. option_map (held a) (parse t)) line ∙ ap (option_map (held a)) p)
    where
      some : (o : Option PipelineOp) → option_map view_op o ≡ Some (held a l) → (x : PipelineOp) × (o ≡ Some x) × Stands (line_given l a) x
      some None q = absurd (let z : ◌≡◌ {A = ℕ} 0 1 = cc in omega arith)
      some (Some o) q = (o, refl, held-stands l a o (cc))

  pub line-next : end < length (left input from) → LineRead input from a (record { op = r; next = from + end + 1 })
  line-next h =
      let j : from + (end + 1) ≡ from + end + 1 = omega arith in
      record {
        no_form = unformed;
        is_form = formed;
        others = ap (λ i. drop i input) (sym j) ∙ sym (drop-drop (end + 1) from input) ∙ beyond-line;
        on = omega arith;
        most = omega (arith, left-length input from);
      }

  pub line-last : length (left input from) ≤ end → LineRead input from a (record { op = r; next = length input })
  line-last h =
      let m : length (drop from input) ≤ end + 1 = omega (arith, left-length input from, length-drop from input) in
      record {
        no_form = unformed;
        is_form = formed;
        others = drop-length input ∙ sym (drop_of_length-le (drop from input) m) ∙ beyond-line;
        on = here;
        most = omega arith;
      }
