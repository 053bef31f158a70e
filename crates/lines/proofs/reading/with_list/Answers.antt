-- No names, or those between the commas.
use Rattle.std.proofs.Common.{◌≡◌, List, ℕ, [], ◌∷◌, sym, refl, ap, ◌∙◌}
use lib.Dec.{eqb}
use lib.Pointwise.{pointwise}
use Rattle.laws.specs.Texts.{same}
use Rattle.lines.proofs.Names.{dash-list, names-list}
use Rattle.lines.proofs.reading.with_list.Goals as goal

a_dash : (t : List ℕ) → same t (45 ∷ []) ≡ pointwise eqb t (45 ∷ [])
unfolding same
a_dash [] = refl
a_dash (x ∷ []) = refl
a_dash (x ∷ y ∷ t) = refl

pub returns-then-eq : goal.returns-then-eq
returns-then-eq c =
    dash-list _ _ _ (a_dash _ ∙ ap (pointwise eqb c.args.list.now) (sym c.as_slice.ensures) ∙ sym c.eq.ensures ∙ c.if-eq.true)

pub returns : goal.returns
returns c =
    c.with_names.ensures
    ∙ names-list _ _ _ (a_dash _ ∙ ap (pointwise eqb c.args.list.now) (sym c.as_slice.ensures) ∙ sym c.eq.ensures ∙ c.if-eq.false)
