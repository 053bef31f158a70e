-- The words of a wait's text, and its form.
use Prim.Native.Nat.{ℕ}
use mathlib.Core.Path.{◌≡◌, ap₂, ◌∙◌}
use Rattle.std.specs.Prelude.{Some}
use mathlib.Core.List.{List, [], ◌∷◌}
use Rattle.laws.specs.Texts.{Text, utf8, bytes}
use Rattle.op.specs.FirstWord.{word_or}
use Rattle.op.proofs.FirstWord.{first-words}
use Rattle.model.specs.Op.{first_word}
use Rattle.model.specs.Traces.{render}
use Rattle.timeline.specs.declared.WaitForm.{WaitForm}
use Rattle.traces.specs.Texts.{Written, Wrote}
use Rattle.timeline.specs.Waits.{detail_of}
use Rattle.traces.proofs.Written.{wrote_as}

-- The first word, with "?" lent.
pub question : {m : Text} (mine : Text) → m ≡ word_or (63 ∷ []) mine → m ≡ first_word mine
unfolding bytes utf8
question mine e = e ∙ first-words.lent mine

-- m and o are the words that were found.
pub wrote-words : (form : WaitForm) (mine r other : Text) (t : ℕ) {m o : Text} {lent out : List ℕ} {w : Written} → m ≡ first_word mine
    → o ≡ first_word other → Wrote (Some (render (detail_of form m r o t))) lent out w
    → Wrote (Some (render (detail_of form (first_word mine) r (first_word other) t))) lent out w
wrote-words form mine r other t p q = wrote_as (ap₂ (λ x y. render (detail_of form x r y t)) p q)
