-- What demand 3 shuts out by itself, and what only the engine of demands 1 and 2 shuts out.
-- Shut out: a decision that reads a payload or a name before a look ("carried, so equal" fails: payload-read, name-read); one number for
-- all registers ("equal, so carried" fails: all-0-fails).
-- Not shut out: the idle engine. It looks at nothing, so its recordings are always equal and every renaming carries what it looked at: both
-- halves hold (idle-passes). Held against the looks of the engine of demands 1 and 2 it passes one half, "carried, so equal" (idle-equal), and
-- fails the other (idle-fails-half). So Demand3 names `the_engine`.
-- Not shut out either, tried as edits of the model: writes numbered before reads, and claims forgotten. They treat both runs alike. The
-- computed case (Sampled) tells them from the model, and so does demand 2.
use Prim.Native.Nat.{ℕ}
use mathlib.Core.Path.{◌≡◌, refl, sym, ap, subst}
use mathlib.Core.Bool.{Bool, false, true≢false}
use Rattle.std.specs.Prelude.{None, slice_get}
use mathlib.Core.List.{List, [], ◌∷◌}
use lib.ListN.{length}
use Rattle.laws.specs.Lists.{All, All2, lists, none2, more2}
use Rattle.laws.specs.Optional.{when_some}
use Rattle.laws.proofs.Choices.{false-T}
use Rattle.laws.proofs.Same.{same-of-eq}
use Rattle.capability.specs.declared.PipelineInstructionClass.TheVariants.{Alu}
use Rattle.laws.specs.Texts.{Text, bytes, same, texts}
use Rattle.model.specs.Op.{decoded, info_of}
use Rattle.model.specs.State.{State, new}
use Rattle.model.specs.Calls.{Call, advance, make_memory, start}
use Rattle.model.specs.Everything.{everything}
use Rattle.renaming.specs.Recording.{Alike, Entry, bare_answer, fetches, record_call, recording, refusals, same_call, the_engine}
use Rattle.renaming.specs.Renaming.{CarriesAt, CarriesLooked, OneToOne, Renaming, RenamingRule, looked_numbers, operations}
use Rattle.renaming.specs.WrongEngines.{all_0, fetch_one, idle, payload_is_1, reading, small, unlooked, writes_x}
use Rattle.renaming.specs.Sample.{lent, sample}
use Rattle.renaming.proofs.Sampled.{alike, first, joined, joined-not-carried}

-- Every name for itself.
abbrev itself : Renaming
itself a b = a ≡ b

itself-one : OneToOne itself
itself-one = record { onto_one = λ a b c p q. cc; from_one = λ a b c p q. cc }

-- ── Idle ────────────────────────────────────────────────────────────────────

pub idle-equal
    : (s : State) (m : List ℕ) (cs ds : List Call) → All2 Alike cs ds → recording idle [] s m cs ≡ recording idle [] s m ds
unfolding recording bare_answer
idle-equal s m cs ds none2 = refl
idle-equal s m cs ds (more2 {a = c} {as' = cs'} {bs = ds'} a as') =
    ap (λ (l : List Entry). record_call idle [] s m c ∷ l) (idle-equal s m cs' ds' as')

idle-none : (s : State) (cs : List Call) → looked_numbers idle s cs ≡ []
unfolding looked_numbers
idle-none s [] = refl
idle-none s (c ∷ cs) = idle-none s cs

-- It meets the rule.
pub idle-passes : (s : State) (m : List ℕ) (cs ds : List Call) → RenamingRule idle s m cs ds
idle-passes s m cs ds alike refused = (
  λ e. (
    itself,
    itself-one,
    subst (All (λ (n : ℕ). CarriesAt itself (slice_get (operations idle s cs) n) (slice_get (operations idle s ds) n))) (sym (idle-none s cs)) tt,
  ),
  λ x. idle-equal s m cs ds alike,
)

-- Against the looks of the engine that demands 1 and 2 define: recordings that are equal, and no renaming that carries.
pub idle-fails-half
    : (recording idle [] (new sample 0) (make_memory sample lent) first ≡ recording idle [] (new sample 0) (make_memory sample lent) joined
    → (r : Renaming) × OneToOne r × CarriesLooked the_engine r (new sample 0) first joined)
    → ⊥
idle-fails-half f = joined-not-carried (f (idle-equal (new sample 0) (make_memory sample lent) first joined (alike (bytes "x") (bytes "y") (bytes "a") (bytes "x") (bytes "x") (bytes "a") 1 1)))

-- ── A decision that reads a payload or a name ───────────────────────────────

-- Two fetches that no look follows: any renaming carries, and one of them turns overlap on.
reads-alike : (vs ws : List Text) (p q : ℕ) → length vs ≡ length ws → All2 Alike (unlooked vs p) (unlooked ws q)
reads-alike vs ws p q e =
    more2 (same_call start tt)
    (more2 (same_call (advance None 200) tt)
    (more2 (fetches (decoded 0 4 Alu false false) (info_of [] None None [] vs p) (info_of [] None None [] ws q) 200 refl e) none2))

-- Whether overlap is on after the third call.
abbrev on-at-last : List Entry → Bool
on-at-last es = when_some (slice_get es 2) false (λ (x : Entry). x.left.front.enabled)

payload-read : RenamingRule (reading payload_is_1) (new small 0) [] (unlooked [] 1) (unlooked [] 0) → ⊥
unfolding everything recording refusals operations looked_numbers bare_answer
payload-read rule = true≢false (ap on-at-last ((rule (reads-alike [] [] 1 0 refl) refl).1 (itself, itself-one, tt)))

name-read : RenamingRule (reading writes_x) (new small 0) [] (unlooked (bytes "x" ∷ []) 0) (unlooked (bytes "y" ∷ []) 0) → ⊥
unfolding everything recording refusals operations looked_numbers bare_answer
name-read rule = true≢false (ap on-at-last ((rule (reads-alike (bytes "x" ∷ []) (bytes "y" ∷ []) 0 0 refl) refl).1 (itself, itself-one, tt)))

-- ── One number for every register ───────────────────────────────────────────

first_two : {r : Renaming} {a b c d : Text} → All2 r (a ∷ b ∷ []) (c ∷ d ∷ []) → r a c × r b d
first_two (more2 p (more2 q qs)) = (p, q)

-- x and x, and x and y: equal recordings.
all-0-fails
    : RenamingRule all_0 (new small 0) [] (fetch_one (bytes "x" ∷ bytes "x" ∷ []) 0 ∷ []) (fetch_one (bytes "x" ∷ bytes "y" ∷ []) 0 ∷ []) → ⊥
unfolding recording refusals operations looked_numbers bare_answer lists texts
all-0-fails rule =
    let x =
    (rule
    (more2
    (fetches (decoded 0 4 Alu false false) (info_of [] None None [] (bytes "x" ∷ bytes "x" ∷ []) 0)
    (info_of [] None None [] (bytes "x" ∷ bytes "y" ∷ []) 0) 200 refl refl)
    none2)
    refl
    ).0 refl in
    let p = first_two x.2.0.1 in
    false-T (same (bytes "x") (bytes "y")) refl (same-of-eq (bytes "x") (bytes "y") (x.1.onto_one (bytes "x") (bytes "x") (bytes "y") p.0 p.1))
