use Rattle.laws.specs.Texts.{bytes}
use Rattle.op.specs.Chars.{shown}
use Rattle.registers.proofs.NameTable.{named, unnamed}
use Rattle.registers.proofs.RegisterTable.name.Goals as goal

pub returns-then-register-self : goal.returns-then-register-self
returns-then-register-self c = named c.requires c.if-register-self.true

pub returns-else-register-self : goal.returns-else-register-self
unfolding shown bytes
returns-else-register-self c = unnamed c.requires c.if-register-self.false c.from_slice.ensures
