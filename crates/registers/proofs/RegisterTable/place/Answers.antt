use Rattle.std.proofs.Common.{sym, ◌∙◌}
use Rattle.op.specs.Chars.{view_text}
use Rattle.registers.proofs.NameTable.{hint_right}
use Rattle.registers.proofs.RegisterTable.place.Goals as goal

pub returns-then-eq-clause-is : goal.returns-then-eq-clause-is
returns-then-eq-clause-is c =
    sym (hint_right c.requires (view_text c.args.name) c.if-hint-self.true (sym c.eq.ensures ∙ c.if-eq.true))
