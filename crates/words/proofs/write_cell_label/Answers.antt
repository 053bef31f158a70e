-- Each arm writes the text of the label that it was told.
use mathlib.Core.Path.{sym, ap}
use native.Mathlib.Omega.{arith}
use Rattle.laws.specs.Texts.{bytes, utf8}
use Rattle.model.specs.Requests.{cell_labels, label_text}
use Rattle.config.specs.View.{view_machine}
use Rattle.words.proofs.Shown.{wrote-is, wrote_nothing}
use Rattle.words.proofs.Labels.{label_kind, label_none}
use Rattle.words.proofs.write_cell_label.Goals as goal

pub returns-in-0 : goal.returns-in-0
unfolding label_text cell_labels bytes utf8
returns-in-0 c = wrote-is (sym (ap (label_text (view_machine c.args.machine.now).specs) c.in-0.is)) c.write_text.ensures

pub returns-in-1 : goal.returns-in-1
unfolding label_text cell_labels bytes utf8
returns-in-1 c = wrote-is (sym (ap (label_text (view_machine c.args.machine.now).specs) c.in-1.is)) c.write_text-in-1.ensures

pub returns-in-2 : goal.returns-in-2
unfolding label_text cell_labels bytes utf8
returns-in-2 c = wrote-is (sym (ap (label_text (view_machine c.args.machine.now).specs) c.in-2.is)) c.write_text-in-2.ensures

pub returns-in-3 : goal.returns-in-3
unfolding label_text cell_labels bytes utf8
returns-in-3 c = wrote-is (sym (ap (label_text (view_machine c.args.machine.now).specs) c.in-3.is)) c.write_text-in-3.ensures

pub returns-in-4 : goal.returns-in-4
unfolding label_text cell_labels bytes utf8
returns-in-4 c = wrote-is (sym (ap (label_text (view_machine c.args.machine.now).specs) c.in-4.is)) c.write_text-in-4.ensures

pub returns-in-5-to-7 : goal.returns-in-5-to-7
returns-in-5-to-7 c = wrote_nothing _ (label_none (view_machine c.args.machine.now).specs (omega arith) (omega arith))

pub returns-in_default : goal.returns-in_default
returns-in_default c = wrote-is (label_kind (view_machine c.args.machine.now).specs (omega arith)) c.write_spec_name.ensures
