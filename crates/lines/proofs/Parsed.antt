-- What is read word by word is what the line says.
use Prim.Native.Nat.{ℕ, ◌≤◌, ◌<◌}
use mathlib.Core.Path.{◌≡◌, refl, sym, ap, ap₂, ◌∙◌}
use mathlib.Core.Bool.{true, false}
use Rattle.std.specs.Prelude.{Option, None, Some, option_map}
use mathlib.Core.List.{List}
use lib.Dec.{eqb}
use lib.ListN.{length, take}
use Rattle.std.specs.List.{list_any}
use Rattle.laws.specs.Texts.{Text, before, beyond}
use Rattle.laws.proofs.Tests.{cond_yes, cond_no}
use Rattle.capability.specs.declared.PipelineInstructionClass.{PipelineInstructionClass}
use Rattle.model.specs.Op.{Given}
use Rattle.model.specs.Forecast.{past, word, class_in, size_in, list_in, line_by, parse}
use Rattle.lines.specs.Cut.{Cut}
use Rattle.lines.specs.Held.{held, read_start, read_list}
use Rattle.lines.proofs.Cut.{cut-there, cut-nowhere}

-- In the order of the words the first that fails decides, and so it does for a line.
in_order : (k : Option PipelineInstructionClass) (n : Option ℕ) (r w : Option (List Text)) (t : Text) (a : ℕ)
    → read_list true w (read_list false r (read_start k n t a)) ≡ option_map (held a) (line_by k n r w t)
unfolding read_list read_start line_by held
in_order None n r w t a = refl
in_order (Some k) None r w t a = refl
in_order (Some k) (Some n) None w t a = refl
in_order (Some k) (Some n) (Some r) None t a = refl
in_order (Some k) (Some n) (Some r) (Some w) t a = refl

module _ (line : Text) {one two three : Text} {end : ℕ} (p : one ≡ beyond 32 line) (q : two ≡ beyond 32 one) (r : three ≡ beyond 32 two)
    (k : Cut 32 three end) (a : ℕ) where
  second : two ≡ past 2 line
  unfolding past
  second = q ∙ ap (beyond 32) p

  third : three ≡ past 3 line
  unfolding past
  third = r ∙ ap (beyond 32) second

  pub unparsed : length three ≤ end → option_map (held a) (parse line) ≡ None
  unfolding parse
  unparsed h = ap (option_map (held a)) (cond_no _ _ (ap (list_any (eqb 32)) (sym third) ∙ cut-nowhere k h))

  pub parsed : end < length three → {class size text reads : Text} {u v w : Option Given}
      → class ≡ before 32 line → size ≡ before 32 one → text ≡ beyond 32 three → reads ≡ before 32 two
      → u ≡ read_start (class_in class) (size_in size) text a → v ≡ read_list false (list_in reads) u → w ≡ read_list true (list_in (take end three)) v
      → w ≡ option_map (held a) (parse line)
  unfolding parse word past
  parsed h {class} {size} {text} {reads} c n t s e f g =
      let e' : read_start (class_in class) (size_in size) text a ≡ read_start (class_in (word 0 line)) (size_in (word 1 line)) (past 4 line) a =
      ap (λ x. read_start (class_in x) (size_in size) text a) c
      ∙ ap₂ (λ x y. read_start (class_in (word 0 line)) (size_in x) y a) (n ∙ ap (before 32) p) (t ∙ ap (beyond 32) third) in
      g ∙ ap₂ (λ x y. read_list true (list_in x) y) (k.front ∙ ap (before 32) third)
      (f ∙ ap₂ (λ x y. read_list false (list_in x) y) (s ∙ ap (before 32) second) (e ∙ e'))
      ∙ in_order (class_in (word 0 line)) (size_in (word 1 line)) (list_in (word 2 line)) (list_in (word 3 line)) (past 4 line) a
      ∙ sym (ap (option_map (held a)) (cond_yes _ _ (ap (list_any (eqb 32)) (sym third) ∙ cut-there k h)))
