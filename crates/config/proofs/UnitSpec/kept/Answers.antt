-- With no flag set every flag is kept set, and `every` tells.
use Rattle.std.proofs.Common.{rules, arith, ◌≡◌, sym, ap, ◌∙◌, max, length}
use Rattle.op.specs.declared.chars.Chars.{Chars}
use Rattle.config.specs.View.{view_unit_spec}
use Rattle.config.proofs.Classes.{none_listed}
use Rattle.config.proofs.Specs.{kept-every, kept-flagged}
use Rattle.config.proofs.UnitSpec.kept.Goals.{then-every, else-every}
use Rattle.config.proofs.UnitSpec.kept.Goals as goal

pub overflow_cast-result : goal.overflow_cast-result
unfolding view_unit_spec
overflow_cast-result c = let h = c.requires.most in search rules

pub returns : goal.returns
returns c =
    let u = c.args.self.now in
    let flags : length u.classes ≡ 10 = search rules in
    let bytes : length u.name.bytes ≡ 8 = ap (λ (k : Chars 8). length k.bytes) (sym c.whole.ensures.is) ∙ c.whole.ensures.size in
    let n : c.max.result ≡ max 1 u.capacity = omega arith in
    elim c.if-every.branch [
      | then-every w ↦ rw (w.result-is, w.if-every.true, c.whole.ensures.is) (kept-every u c.requires bytes n (sym (none_listed u.classes flags) ∙ sym c.lists_none-every.ensures ∙ w.if-every.true))
      | else-every w ↦ rw (w.result-is, w.if-every.false, c.whole.ensures.is) (kept-flagged u c.requires bytes n flags (sym (none_listed u.classes flags) ∙ sym c.lists_none-every.ensures ∙ w.if-every.false))
    ]
