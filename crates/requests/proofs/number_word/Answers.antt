-- A kind's name for AllBusy, else a register's.
use mathlib.Core.Path.{sym, ap, ◌∙◌}
use Rattle.config.specs.View.{view_machine}
use Rattle.registers.specs.View.{view_held}
use Rattle.stalls.specs.View.{number_word}
use Rattle.requests.proofs.Waits.{word-register}
use borrow.Author.Rules.{rules}
use Rattle.requests.proofs.number_word.Goals as goal

pub returns-in-AllBusy : goal.returns-in-AllBusy
unfolding number_word
returns-in-AllBusy c = let a = c.args in
    let e = c.as_name.ensures in
    record {
      is = e.is ∙ c.spec_name.ensures.is ∙ sym (ap (λ f. number_word f (view_machine a.machine.now).specs (view_held a.table.now) a.number) c.in-AllBusy.is);
      ok = e.ok;
    }

pub returns : goal.returns
returns c = let a = c.args in
    let e = c.name.ensures in
    record { is = e.is ∙ word-register (view_machine a.machine.now).specs (view_held a.table.now) a.number a.form (search rules); ok = e.ok }
