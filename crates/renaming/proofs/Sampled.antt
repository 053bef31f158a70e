-- Demand 3 says something: two runs that it calls equal, and two that it tells apart.
use Prim.Native.Nat.{ℕ}
use mathlib.Core.Path.{◌≡◌, refl, sym, ◌∙◌, ap, subst}
use mathlib.Core.Bool.{true, false}
use Rattle.std.specs.Prelude.{Option, None, Some, slice_get}
use mathlib.Core.List.{List, [], ◌∷◌, ◌++◌}
use lib.ListN.{length, replicate}
use Rattle.laws.specs.Lists.{All, All2, none2, more2, lists}
use Rattle.laws.specs.Texts.{Text, same, bytes, texts}
use Rattle.laws.proofs.Choices.{false-T}
use Rattle.laws.proofs.Same.{same-of-eq}
use Rattle.capability.specs.declared.PipelineInstructionClass.{PipelineInstructionClass}
use Rattle.capability.specs.declared.PipelineInstructionClass.TheVariants.{Alu, Multiply}
use Rattle.model.specs.Op.{Info, decoded, given}
use Rattle.model.specs.State.{new}
use Rattle.model.specs.Calls.{Call, advance, fetch, halt, make_memory, make_refusal, overlap, resolve, retire, start}
use Rattle.model.specs.Everything.{everything}
use Rattle.renaming.specs.Recording.{Alike, Entry, bare_answer, fetches, recording, refusals, retries, same_call, text_requests, the_engine}
use Rattle.renaming.specs.Renaming.{CarriesAt, CarriesLooked, OneToOne, Renaming, looked_numbers, operations}
use Rattle.renaming.specs.Sample.{digest, lent, looks_of, sample, sample_calls, sample_info, sample_infos}
use Rattle.renaming.proofs.Names.{Paired, paired-one}
use Rattle.renaming.proofs.Demand3.{demand-3}

abbrev pub first : List Call
first = sample_calls (bytes "x") (bytes "y") (bytes "a") 1

-- x and y exchanged, another text, another payload, another room of text buffers.
abbrev pub renamed : List Call
renamed = sample_calls (bytes "y") (bytes "x") [] 2

-- One name for both.
abbrev pub joined : List Call
joined = sample_calls (bytes "x") (bytes "x") (bytes "a") 1

abbrev recorded : List Call → List Entry
recorded cs = recording the_engine [] (new sample 0) (make_memory sample lent) cs

-- ── Computed ────────────────────────────────────────────────────────────────

renamed-same : same (digest (recorded first)) (digest (recorded renamed)) ≡ true
unfolding everything recording bare_answer
renamed-same = refl

joined-differs : same (digest (recorded first)) (digest (recorded joined)) ≡ false
unfolding everything recording bare_answer
joined-differs = refl

-- Numbers from 0 in order of first look, reads before writes.
looks-first : looks_of (recorded first) ≡ (0, 0 ∷ []) ∷ (1, 0 ∷ 1 ∷ 2 ∷ []) ∷ (2, 1 ∷ []) ∷ []
unfolding everything recording bare_answer
looks-first = refl

-- ── The premises hold ───────────────────────────────────────────────────────

pub made : make_refusal sample (length lent) ≡ None
unfolding everything
made = refl

infixr 10 ◌&◌
◌&◌ : {c d : Call} {cs ds : List Call} → Alike c d → All2 Alike cs ds → All2 Alike (c ∷ cs) (d ∷ ds)
a & as' = more2 a as'

-- Two lists of the sample are alike, whatever the names, the texts and the payloads.
pub alike : (x y t x' y' t' : Text) (p p' : ℕ) → All2 Alike (sample_calls x y t p) (sample_calls x' y' t' p')
alike x y t x' y' t' p p' =
    same_call (overlap true) tt & begin & next & op 0 Multiply [] [] (y ∷ []) (y' ∷ []) refl refl & begin & op 4 Alu [] [] [] [] refl refl & next
    & op 4 Alu (y ∷ x ∷ []) (y' ∷ x' ∷ []) z z refl refl & begin & next & op 8 Alu [] [] (x ∷ []) (x' ∷ []) refl refl & text_requests _ _ _
    & begin & next & same_call _ tt & begin & next & same_call _ tt & same_call _ tt & text_requests _ _ _ & begin & next & begin & next & begin
    & retries t t' & text_requests _ _ _ & next & begin & same_call retire tt & same_call (resolve 4) tt & next & begin & next
    & same_call _ tt & same_call halt tt & none2
  where
    begin : Alike start start
    begin = same_call start tt

    next : Alike (advance None 800) (advance None 800)
    next = same_call (advance None 800) tt

    z : List Text
    z = bytes "z" ∷ []

    op
        : (a : ℕ) (c : PipelineInstructionClass) (rs rs' ws ws' : List Text) → length rs ≡ length rs' → length ws ≡ length ws'
        → Alike (fetch (given (decoded a 4 c false false) (sample_info x y t p rs ws)) 800)
        (fetch (given (decoded a 4 c false false) (sample_info x' y' t' p' rs' ws')) 800)
    op a c rs rs' ws ws' e f = fetches (decoded a 4 c false false) (sample_info x y t p rs ws) (sample_info x' y' t' p' rs' ws') 800 e f

-- In all three only the sixth call is refused.
abbrev one-refused : List (Option ℕ)
one-refused = replicate 5 None ++ (Some 4 ∷ replicate 30 None)

refused_first : refusals the_engine (new sample 0) first ≡ one-refused
unfolding everything refusals
refused_first = refl

refused-renamed : refusals the_engine (new sample 0) renamed ≡ one-refused
unfolding everything refusals
refused-renamed = refl

refused-joined : refusals the_engine (new sample 0) joined ≡ one-refused
unfolding everything refusals
refused-joined = refl

-- ── By demand 3 ─────────────────────────────────────────────────────────────

-- No renaming makes one name of two.
pub joined-not-carried : (r : Renaming) × OneToOne r × CarriesLooked the_engine r (new sample 0) first joined → ⊥
joined-not-carried x =
    false-T (same (digest (recorded first)) (digest (recorded joined))) joined-differs
    (same-of-eq (digest (recorded first)) (digest (recorded joined))
    (ap digest
    ((demand-3 sample 0 lent first joined made (alike (bytes "x") (bytes "y") (bytes "a") (bytes "x") (bytes "x") (bytes "a") 1 1)
    (refused_first ∙ sym refused-joined)).1 x)))

-- x to y, y to x, z to z.
abbrev exchange : Renaming
exchange = Paired (bytes "x" ∷ bytes "y" ∷ bytes "z" ∷ []) (bytes "y" ∷ bytes "x" ∷ bytes "z" ∷ [])

exchange-one : OneToOne exchange
unfolding texts
exchange-one =
    paired-one (bytes "x" ∷ bytes "y" ∷ bytes "z" ∷ []) (bytes "y" ∷ bytes "x" ∷ bytes "z" ∷ [])
    ((refl, (refl, tt)), ((refl, tt), (tt, tt))) ((refl, (refl, tt)), ((refl, tt), (tt, tt)))

looked-first : looked_numbers the_engine (new sample 0) first ≡ 0 ∷ 1 ∷ 2 ∷ []
unfolding everything looked_numbers
looked-first = refl

given-first : operations the_engine (new sample 0) first ≡ sample_infos (bytes "x") (bytes "y") (bytes "a") 1
unfolding everything operations
given-first = refl

given-renamed : operations the_engine (new sample 0) renamed ≡ sample_infos (bytes "y") (bytes "x") [] 2
unfolding everything operations
given-renamed = refl

exchange-carries : CarriesLooked the_engine exchange (new sample 0) first renamed
unfolding lists
exchange-carries =
    subst (λ (ns : List ℕ). All (at (operations the_engine (new sample 0) first) (operations the_engine (new sample 0) renamed)) ns) (sym looked-first)
    (subst (λ (is : List Info). All (at is (operations the_engine (new sample 0) renamed)) (0 ∷ 1 ∷ 2 ∷ [])) (sym given-first)
    (subst (λ (js : List Info). All (at (sample_infos (bytes "x") (bytes "y") (bytes "a") 1) js) (0 ∷ 1 ∷ 2 ∷ [])) (sym given-renamed)
    ((none2, more2 y-x none2), ((more2 y-x (more2 x-y none2), more2 z-z none2), ((none2, more2 x-y none2), tt)))))
  where
    at : List Info → List Info → ℕ → Type 0
    at is js n = CarriesAt exchange (slice_get is n) (slice_get js n)

    x-y : exchange (bytes "x") (bytes "y")
    x-y = (0, refl, refl)

    y-x : exchange (bytes "y") (bytes "x")
    y-x = (1, refl, refl)

    z-z : exchange (bytes "z") (bytes "z")
    z-z = (2, refl, refl)

pub renamed-equal : recorded first ≡ recorded renamed
renamed-equal =
    (demand-3 sample 0 lent first renamed made (alike (bytes "x") (bytes "y") (bytes "a") (bytes "y") (bytes "x") [] 1 2)
    (refused_first ∙ sym refused-renamed)).1 (exchange, exchange-one, exchange-carries)
