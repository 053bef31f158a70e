-- Demand 3: when the bare recordings of two runs are equal.
use Rattle.std.specs.Prelude.{ℕ, ◌≡◌, ◌↔◌, List, [], ◌∷◌, ◌++◌, map, length, Option, None, Some, slice_get}
use Rattle.laws.specs.Lists.{All, All2}
use Rattle.laws.specs.Optional.{when_some}
use Rattle.laws.specs.Texts.{Text}
use Rattle.model.specs.Config.{PipelineShape}
use Rattle.model.specs.Op.{Info}
use Rattle.model.specs.State.{State, new}
use Rattle.model.specs.Calls.{Call, make_refusal, make_memory}
use Rattle.runs.specs.Runs.{given_to, look_number}
use Rattle.renaming.specs.Recording.{Engine, the_engine, bare_recording, refusals, Alike}

-- Which name of the first run stands for which of the second. "A renaming need only cover names looked at": a relation.
abbrev pub Renaming : Type 1
Renaming = Text → Text → Type 0

pub record OneToOne (r : Renaming) : Type 0 where
  pub onto_one : (a b c : Text) → r a b → r a c → b ≡ c
  pub from_one : (a b c : Text) → r a c → r b c → a ≡ b

-- It carries the read and write lists of i into those of j, name by name.
abbrev pub Carries : Renaming → Info → Info → Type 0
Carries r i j = All2 r i.sources j.sources × All2 r i.writes j.writes

-- Both are there, and it carries the first into the second.
abbrev pub CarriesAt : Renaming → Option Info → Option Info → Type 0
CarriesAt r None None = ⊥
CarriesAt r None (Some j) = ⊥
CarriesAt r (Some i) None = ⊥
CarriesAt r (Some i) (Some j) = Carries r i j

module _ (e : Engine) where
  abbrev pub accepted : State → Call → List Info
  accepted s c = when_some (e.refusal s c) (given_to c) (λ (n : ℕ). [])

  -- What each accepted fetch was given, in order. "An operation's number counts the fetches accepted before it": its place.
  unfoldable pub operations : State → List Call → List Info
  operations s [] = []
  operations s (c ∷ cs) = accepted s c ++ operations (e.after s c) cs

  -- The numbers of the operations looked at.
  unfoldable pub looked_numbers : State → List Call → List ℕ
  looked_numbers s [] = []
  looked_numbers s (c ∷ cs) = map look_number (e.looks s c) ++ looked_numbers (e.after s c) cs

  -- It carries every operation looked at in the first run into the one with the same number in the second.
  abbrev pub CarriesLooked : Renaming → State → List Call → List Call → Type 0
  CarriesLooked r s cs ds = All (λ (n : ℕ). CarriesAt r (slice_get (operations s cs) n) (slice_get (operations s ds) n)) (looked_numbers s cs)

  abbrev pub RenamingRule : State → List ℕ → List Call → List Call → Type 1
  RenamingRule s m cs ds =
      All2 Alike cs ds → refusals e s cs ≡ refusals e s ds
      → (bare_recording e s m cs ≡ bare_recording e s m ds) ↔ ((r : Renaming) × OneToOne r × CarriesLooked r s cs ds)

-- The demand, clause by clause; 01 is document 01, "Registers".
-- "For every list of these calls (.., refused ones included, but no reset), run twice": cs and ds; All2 Alike, a call for each call.
-- "The runs may differ only in register names, texts and payloads given to fetch and in text buffers lent": Alike. (It allows another reason
--   and fault note as well, which is more than is asked.) 01: "Operations fetched alike have read and write lists of equal length": fetches.
-- "provided a call refused in one is refused in the other with the same number": refusals.
-- "from the engine and cell memory that one making gave": new d entry and make_memory d lent, where making has no number for d and lent. The
--   proof does without that premise: `renaming-rule` in proofs/Demand3 has every declared machine and every cell memory.
-- "Each call gets the engine and cell memory the last one left, and nobody else writes either meanwhile": recording and refusals.
-- "the two bare recordings are equal": Entry by Entry; what is left out and what stays is said at bare and bare_answer.
-- "exactly when": ↔.
-- "a one-to-one renaming of registers": OneToOne. 01: "A renaming need only cover names looked at": Renaming.
-- "carries the read and write lists of every operation looked at in the first run into those of the operation with the same number in the
--   second": CarriesLooked. 01: "An operation's number counts the fetches accepted before it": operations.
-- "plus the numbers each look gave", 01: "A look gives each read's number, then each write's, repeats too": gave of an Entry, looks of the
--   model.
-- "The recordings are those of the engine that 1 and 2 define": the_engine.
abbrev pub Demand3 : Type 1
Demand3 =
    (d : PipelineShape) (entry : ℕ) (lent : List ℕ) (cs ds : List Call) → make_refusal d (length lent) ≡ None
    → RenamingRule the_engine (new d entry) (make_memory d lent) cs ds
