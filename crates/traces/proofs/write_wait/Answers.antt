-- The words are the first words, with "?" lent.
use Rattle.traces.proofs.Waits.{question, wrote-words}
use Rattle.traces.proofs.write_wait.Goals as goal

pub returns : goal.returns
returns c = let a = c.args in
    wrote-words a.form a.mine.now a.register.now a.other.now a.target (question a.mine.now c.mnemonic-m.ensures)
    (question a.other.now c.mnemonic-o.ensures) c.write_words.ensures
