use Rattle.std.proofs.Common.{sym, ◌∙◌, arith}
use Rattle.registers.proofs.NameTable.{interned-held, interned-full, interned-new}
use Rattle.registers.proofs.RegisterTable.intern.Goals as goal

pub returns-in-Some : goal.returns-in-Some
returns-in-Some c = interned-held c.requires.table_ok _ (sym c.get.ensures ∙ c.in-Some.is)

pub returns-then-self-ge256 : goal.returns-then-self-ge256
returns-then-self-ge256 c = interned-full c.requires.table_ok _ (sym c.get.ensures ∙ c.in_default.is) c.if-self-ge256.true

pub returns : goal.returns
returns c = interned-new c.requires.table_ok _ (sym c.get.ensures ∙ c.in_default.is) (omega arith) (omega arith) (omega arith) c.requires.name_ok c.if-self-ge256.false
