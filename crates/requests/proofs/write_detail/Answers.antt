-- The text of a listed wait, from the texts behind its numbers.
use Rattle.std.proofs.Common.{◌≡◌, ◌∙◌, sym, arith, option_map}
use Rattle.std.proofs.lemmas.Grind.{common_steps}
use Rattle.std.proofs.lemmas.Option.{gets}
use Rattle.std.specs.Prelude.{slice_get}
use Rattle.registers.specs.View.{view_held}
use Rattle.stalls.specs.View.{listed}
use Rattle.words.proofs.Shown.{wrote-is, wrote_nothing, shown_whole, name_fits}
use Rattle.requests.proofs.Waits.{wait-text, wait-past}
use Rattle.requests.proofs.write_detail.Goals as goal

pub returns-in_default : goal.returns-in_default
returns-in_default c = let a = c.args in
    λ ds n k.
    let m : option_map (λ x. x.now) c.get.result ≡ slice_get (listed a.list.now) a.index = grind (arith, common_steps, gets) in
    wrote_nothing _ (wait-past ds a.texts.now a.table.now a.machine.now n a.list.now a.index m c.in_default.is)

pub returns : goal.returns
returns c = let a = c.args in
    λ ds n k.
    let m : option_map (λ x. x.now) c.get.result ≡ slice_get (listed a.list.now) a.index = grind (arith, common_steps, gets) in
    wrote-is
    (wait-text ds a.texts.now a.table.now a.machine.now n a.list.now a.index m c.in-Some.t c.in-Some.is k
    (sym (shown_whole c.text_at-mine.result c.text_at-mine.ensures.fits) ∙ c.text_at-mine.ensures.is ds (view_held a.table.now))
    (sym (shown_whole c.number_word-word.result (name_fits c.number_word-word.result c.number_word-word.ensures.ok)) ∙ c.number_word-word.ensures.is)
    (sym (shown_whole c.text_at-other.result c.text_at-other.ensures.fits) ∙ c.text_at-other.ensures.is ds (view_held a.table.now)))
    c.write_wait.ensures
