-- What was counted and the calls that are left make up the whole.
use mathlib.Core.Path.{sym, ◌∙◌}
use native.Mathlib.Omega.{arith}
use borrow.Author.Tests.{not-true, not-false}
use Rattle.decoding.specs.Bytes.{byte_at}
use Rattle.decoding.specs.Machine.{making_lent}
use Rattle.decoding.specs.Calls.{size_at}
use Rattle.decoding.proofs.Script.{formed-is}
use Rattle.calls.proofs.Room.{size-most}
use Rattle.calls.proofs.Scans.{decode-none, machine-there, scanned-first, scanned-bad, scanned-next, scanned-last}
use Rattle.std.proofs.Common.{ap, not}
use Rattle.calls.proofs.scan_calls.Goals as goal

pub number_at-lent-requires : goal.number_at-lent-requires
number_at-lent-requires c = omega (arith, machine-there _ c.requires.list_value)

pub loop-at-init : goal.loop-at-init
unfolding making_lent
loop-at-init c = scanned-first _ (machine-there _ c.requires.list_value) c.number_at-lent.ensures

pub returns-then-not-formed : goal.returns-then-not-formed
returns-then-not-formed c =
    let bad = sym c.formed.ensures ∙ not-true _ (ap not c.if-not-formed.true) in
    decode-none _ (scanned-bad c.loop-at.invariant c.loop-at-test.true bad)

pub overflow_add-bytes : goal.overflow_add-bytes
overflow_add-bytes c =
    let good = sym c.formed.ensures ∙ not-false _ (ap not c.if-not-formed.false) in
    omega (arith, c.answer_size.ensures, size-most _ _ good, c.loop-at.invariant.small)

pub overflow_add-at : goal.overflow_add-at
unfolding size_at byte_at
overflow_add-at c =
    let good = sym c.formed.ensures ∙ not-false _ (ap not c.if-not-formed.false) in
    omega (arith, c.size_of-at.ensures, (formed-is _ _ good).inside)

pub loop-at-smaller : goal.loop-at-smaller
unfolding size_at byte_at
loop-at-smaller c =
    let good = sym c.formed.ensures ∙ not-false _ (ap not c.if-not-formed.false) in
    let f = formed-is _ _ good in
    omega (arith, c.size_of-at.ensures, f.some, f.inside)

pub loop-at-preserved : goal.loop-at-preserved
unfolding size_at byte_at
loop-at-preserved c =
    let good = sym c.formed.ensures ∙ not-false _ (ap not c.if-not-formed.false) in
    scanned-next c.loop-at.invariant c.loop-at-test.true good c.answer_size.ensures c.lent_at.ensures (omega arith) c.size_of-at.ensures

pub returns : goal.returns
returns c = scanned-last c.loop-at.invariant c.requires.list_len_bound c.requires.list_value c.loop-at-test.false
