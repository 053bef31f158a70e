use Rattle.std.proofs.Common.{ℕ, refl, ◌∙◌, arith, length-set}
use Rattle.std.proofs.lemmas.List.{length-replicate}
use Rattle.registers.proofs.Hints.{grown_none, grown_more}
use Rattle.registers.proofs.NameTable.{spare, held-length}
use Rattle.registers.proofs.Numbering.{short-at, numbering-first, numbering-next, numbered-none, numbered-all}
use Rattle.registers.proofs.RegisterTable.intern_all.Goals as goal

pub intern-requires-clause-name_ok : goal.intern-requires-clause-name_ok
intern-requires-clause-name_ok g c = short-at c.args.names.now c.loop-i.i spare c.requires.short c.loop-i-test.true

pub loop-i-init : goal.loop-i-init
loop-i-init g c = (
  c.requires.table_ok,
  refl,
  grown_none (held-length c.requires.table_ok),
  length-replicate {A = ℕ} g.row.N 0,
  numbering-first,
)

pub returns-in_err-numbers : goal.returns-in_err-numbers
returns-in_err-numbers g c = let v = c.loop-i.invariant in
    numbered-none v.1 v.2 v.4 g.row.N c.requires.table_ok v.0 spare c.loop-i-test.true c.intern.ensures c.in_err-numbers.was c.from_residual.ensures

pub loop-i-preserved : goal.loop-i-preserved
loop-i-preserved g c = let v = c.loop-i.invariant in let e = c.intern.ensures in (
  e.ok,
  e.known ∙ v.1,
  grown_more (held-length c.requires.table_ok) (held-length v.0) v.2 e.grown,
  simp length-set v.3,
  numbering-next v.4 spare c.loop-i-test.true (omega arith) (e.is _ c.in_ok-numbers.was),
)

pub returns : goal.returns
returns g c = let v = c.loop-i.invariant in numbered-all v.1 v.2 v.4 g.row.N v.0 v.3 (omega arith)
