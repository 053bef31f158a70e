-- The first word of a text is what it is called: by its place, and as the first piece of splitting at white space.
use Rattle.std.proofs.Common.{◌≡◌, ℕ, not, eqb, List, [], ◌∷◌, ◌++◌, sym, refl, ap, ◌∙◌, subst, ⊎_elim, append-nil, arith, eqb-true}
use borrow.Author.Tests.{eqb-false}
use Rattle.laws.specs.Lists.{All, head, keep, is_empty}
use Rattle.laws.specs.Optional.{value_or}
use Rattle.laws.specs.Texts.{Text, before, bytes, onto_first, pieces}
use Rattle.laws.proofs.Tests.{cond-eq, cond-ne, true-or-false}
use Rattle.model.specs.Op.{skip_spaces, to_space, or_question, first_word}
use Rattle.op.specs.FirstWord.{or_text, word_or, space, AtSpace, IsFirstWord, split_whitespace, FirstWords}
use Rattle.op.proofs.Scans.{skip-space, skip-word, to_end, to-more}

-- With "?" lent it is the model's first word.
word_or-question : (t : Text) → word_or (bytes "?") t ≡ first_word t
unfolding word_or first_word or_text or_question
word_or-question t = same_text (to_space (skip_spaces t))
  where
    same_text : (w : Text) → or_text (bytes "?") w ≡ or_question w
    same_text [] = refl
    same_text (x ∷ xs) = refl

-- ── By its place ──────────────────────────────────────────────────────────────

-- A byte is a space, or is none.
by-space : {P : Type 0} (b : ℕ) → (space b → P) → ((space b → ⊥) → P) → P
by-space b white black = ⊎_elim (λ e. white (eqb-true b 32 e)) (λ e. black (eqb-false b 32 e)) (true-or-false (eqb b 32))

-- w stands at the front of t, up to a space or the end.
record Front (t w : Text) : Type 0 where
  rest : Text
  parts : t ≡ w ++ rest
  inside : All (λ (b : ℕ). space b → ⊥) w
  after : AtSpace rest

front : (t : Text) → Front t (to_space t)
unfolding before
front [] = record { rest = []; parts = refl; inside = tt; after = tt }
front (b ∷ bs) = by-space b ends goes (front bs)
  where
    ends : space b → Front bs (to_space bs) → Front (b ∷ bs) (to_space (b ∷ bs))
    ends h f = subst (Front (b ∷ bs)) (sym (to_end h bs)) (record { rest = b ∷ bs; parts = refl; inside = tt; after = h })

    goes : (space b → ⊥) → Front bs (to_space bs) → Front (b ∷ bs) (to_space (b ∷ bs))
    goes h f =
        subst (Front (b ∷ bs)) (sym (to-more h bs))
        (record { rest = f.rest; parts = ap (λ t. b ∷ t) f.parts; inside = (h, f.inside); after = f.after })

is-first-word : (t : Text) → IsFirstWord t (to_space (skip_spaces t))
unfolding skip_spaces before
is-first-word [] = record { spaces = []; rest = []; parts = refl; before = tt; inside = tt; after = tt; empty = λ e. refl }
is-first-word (b ∷ bs) = by-space b passes starts (is-first-word bs)
  where
    passes : space b → IsFirstWord bs (to_space (skip_spaces bs)) → IsFirstWord (b ∷ bs) (to_space (skip_spaces (b ∷ bs)))
    passes h f =
        subst (λ u. IsFirstWord (b ∷ bs) (to_space u)) (sym (skip-space h bs))
        (record {
          spaces = b ∷ f.spaces;
          rest = f.rest;
          parts = ap (λ t. b ∷ t) f.parts;
          before = (h, f.before);
          inside = f.inside;
          after = f.after;
          empty = λ e. ap (λ t. b ∷ t) (f.empty e);
        })

    starts : (space b → ⊥) → IsFirstWord bs (to_space (skip_spaces bs)) → IsFirstWord (b ∷ bs) (to_space (skip_spaces (b ∷ bs)))
    starts h f =
        let g = front (b ∷ bs) in
        subst (λ u. IsFirstWord (b ∷ bs) (to_space u)) (sym (skip-word h bs))
        (record {
          spaces = [];
          rest = g.rest;
          parts = g.parts;
          before = tt;
          inside = g.inside;
          after = g.after;
          empty = λ e. absurd (let z : ◌≡◌ {A = ℕ} 0 1 = cc (to-more h bs) in omega arith);
        })

-- There is no other.
skip_all : (s t : Text) → All space s → skip_spaces (s ++ t) ≡ skip_spaces t
skip_all [] t a = refl
skip_all (b ∷ s) t a = skip-space a.0 (s ++ t) ∙ skip_all s t a.1

to-all : (w t : Text) → All (λ (b : ℕ). space b → ⊥) w → AtSpace t → to_space (w ++ t) ≡ w
unfolding before
to-all [] [] a h = refl
to-all [] (b ∷ t) a h = to_end h t
to-all (b ∷ w) t a h = to-more a.0 (w ++ t) ∙ ap (λ u. b ∷ u) (to-all w t a.1 h)

only-first-word : (t w : Text) → IsFirstWord t w → w ≡ to_space (skip_spaces t)
unfolding skip_spaces before
only-first-word t [] f =
    let e : t ≡ f.spaces ++ [] = f.empty refl ∙ sym (append-nil f.spaces) in
    sym (ap (λ u. to_space (skip_spaces u)) e ∙ ap to_space (skip_all f.spaces [] f.before))
only-first-word t (x ∷ w) f =
    sym
    (ap (λ u. to_space (skip_spaces u)) f.parts ∙ ap to_space (skip_all f.spaces _ f.before ∙ skip-word f.inside.0 (w ++ f.rest))
    ∙ to-all (x ∷ w) f.rest f.inside f.after)

-- ── By splitting ──────────────────────────────────────────────────────────────

-- The first piece, empty or not, ends at the first space.
pieces-first : (t : Text) → (ps : List Text) × (pieces 32 t ≡ to_space t ∷ ps)
unfolding pieces onto_first before
pieces-first [] = ([], refl)
pieces-first (b ∷ bs) = by-space b ends goes (pieces-first bs)
  where
    ends : space b → ((ps : List Text) × (pieces 32 bs ≡ to_space bs ∷ ps)) → (ps : List Text) × (pieces 32 (b ∷ bs) ≡ to_space (b ∷ bs) ∷ ps)
    ends h f = (pieces 32 bs, cond-eq _ _ h ∙ ap (λ u. u ∷ pieces 32 bs) (sym (to_end h bs)))

    goes : (space b → ⊥) → ((ps : List Text) × (pieces 32 bs ≡ to_space bs ∷ ps)) → (ps : List Text) × (pieces 32 (b ∷ bs) ≡ to_space (b ∷ bs) ∷ ps)
    goes h f = (f.0, cond-ne _ _ h ∙ ap (onto_first b) f.1 ∙ ap (λ u. u ∷ f.0) (sym (to-more h bs)))

-- The first that is not empty comes after the leading spaces.
first-kept : (t : Text) → or_question (to_space (skip_spaces t)) ≡ value_or (bytes "?") (head (split_whitespace t))
unfolding split_whitespace pieces keep is_empty head or_question skip_spaces before
first-kept [] = refl
first-kept (b ∷ bs) = by-space b passes starts (first-kept bs)
  where
    passes : space b → or_question (to_space (skip_spaces bs)) ≡ value_or (bytes "?") (head (split_whitespace bs))
        → or_question (to_space (skip_spaces (b ∷ bs))) ≡ value_or (bytes "?") (head (split_whitespace (b ∷ bs)))
    passes h f =
        ap (λ u. or_question (to_space u)) (skip-space h bs) ∙ f
        ∙ ap (λ l. value_or (bytes "?") (head (keep (λ (p : Text). not (is_empty p)) l))) (sym (cond-eq ([] ∷ pieces 32 bs) (onto_first b (pieces 32 bs)) h))

    starts : (space b → ⊥) → or_question (to_space (skip_spaces bs)) ≡ value_or (bytes "?") (head (split_whitespace bs))
        → or_question (to_space (skip_spaces (b ∷ bs))) ≡ value_or (bytes "?") (head (split_whitespace (b ∷ bs)))
    starts h f =
        let w = to-more h bs in
        let g = pieces-first (b ∷ bs) in
        ap (λ u. or_question (to_space u)) (skip-word h bs) ∙ ap or_question w
        ∙ ap (λ l. value_or (bytes "?") (head (keep (λ (p : Text). not (is_empty p)) l))) (sym (g.1 ∙ ap (λ u. u ∷ g.0) w))

first_piece : (t : Text) → first_word t ≡ value_or (bytes "?") (head (split_whitespace t))
unfolding first_word
first_piece t = first-kept t

pub first-words : FirstWords
first-words = record { placed = is-first-word; only = only-first-word; split = first_piece; lent = word_or-question }
