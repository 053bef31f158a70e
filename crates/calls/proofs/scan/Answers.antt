-- A list that is too long, or starts with no machine, is not of its form.
use Rattle.std.proofs.Common.{sym, ◌∙◌, ap, not}
use borrow.Author.Tests.{not-true}
use Rattle.calls.proofs.Scans.{decode-none, too_long, no_machine}
use Rattle.calls.proofs.scan.Goals as goal
use Rattle.calls.proofs.scan.Goals.{
  then-list-gt16777216-via-then-list-gt16777216 as long,
  then-list-gt16777216-via-else-list-gt16777216+then-not-machine_formed as bad,
}

pub returns-then-list-gt16777216 : goal.returns-then-list-gt16777216
returns-then-list-gt16777216 c =
    elim c.then-list-gt16777216.branch [
      | long w ↦ decode-none _ (too_long _ w.if-list-gt16777216.true)
      | bad w ↦ decode-none _ (no_machine _ (sym w.machine_formed.ensures ∙ not-true _ (ap not w.if-not-machine_formed.true)))
    ]
