-- registers.rs: the names met so far, numbered from 0 in order of first look, and who owes each register a value.
use Rattle.std.specs.Prelude.{ℕ, suc, cond, List, [], ◌∷◌, eqb, Option, None, Some, slice_get}
use Rattle.laws.specs.Optional.{value_or, when_some}
use Rattle.laws.specs.Lists.{modify}
use Rattle.laws.specs.Texts.{Text, bytes, same}
use Rattle.model.specs.Op.{Info}

-- RegisterTable::intern: the number of a name, and the names after; a new name goes to the end.
pub record Interned : Type 0 where
  pub number : ℕ
  pub names : List Text

abbrev pub interned : ℕ → List Text → Interned
interned n ns = record { number = n; names = ns }

-- One place further on, behind the name x.
abbrev pub behind : Text → Interned → Interned
behind x r = interned (suc r.number) (x ∷ r.names)

unfoldable pub intern : List Text → Text → Interned
intern [] a = interned 0 (a ∷ [])
intern (x ∷ xs) a = cond (same x a) (interned 0 (x ∷ xs)) (behind x (intern xs a))

-- The numbers of a list of names, in order, and the names after.
pub record Numbered : Type 0 where
  pub numbers : List ℕ
  pub names : List Text

abbrev pub numbered : List ℕ → List Text → Numbered
numbered ks ns = record { numbers = ks; names = ns }

abbrev pub number_first : ℕ → Numbered → Numbered
number_first k r = numbered (k ∷ r.numbers) r.names

unfoldable pub intern_all : List Text → List Text → Numbered
intern_all ns [] = numbered [] ns
intern_all ns (a ∷ bs) = number_first (intern ns a).number (intern_all (intern ns a).names bs)

-- RegisterTable::resolve: reads before writes.
pub record Operands : Type 0 where
  pub read : List ℕ
  pub written : List ℕ
  pub names : List Text

abbrev pub operands : List ℕ → List ℕ → List Text → Operands
operands r w ns = record { read = r; written = w; names = ns }

unfoldable pub resolve_names : List Text → List Text → List Text → Operands
resolve_names ns rs ws =
    operands (intern_all ns rs).numbers (intern_all (intern_all ns rs).names ws).numbers
    (intern_all (intern_all ns rs).names ws).names

unfoldable pub resolve : List Text → Info → Operands
resolve ns i = resolve_names ns i.sources i.writes

-- RegisterTable::get: the number of a name, if it has one.
unfoldable pub get : List Text → Text → Option ℕ
get [] a = None
get (x ∷ xs) a = cond (same x a) (Some 0) (when_some (get xs a) None (λ (n : ℕ). Some (suc n)))

-- RegisterTable::name: "?" where there is none.
unfoldable pub name_of : List Text → ℕ → Text
name_of ns r = value_or (bytes "?") (slice_get ns r)

-- ── Claims: for each register the unit that will write it, if one is in flight ─

-- A new name has none.
unfoldable pub pad : List (Option ℕ) → List Text → List (Option ℕ)
pad ps [] = ps
pad [] (n ∷ ns) = None ∷ pad [] ns
pad (p ∷ ps) (n ∷ ns) = p ∷ pad ps ns

-- RegisterTable::producer
unfoldable pub producer_of : List (Option ℕ) → ℕ → Option ℕ
producer_of ps r = value_or None (slice_get ps r)

-- RegisterTable::claim
unfoldable pub claim : ℕ → List (Option ℕ) → ℕ → List (Option ℕ)
claim unit ps r = modify r (λ (old : Option ℕ). Some unit) ps

unfoldable pub claim_all : ℕ → List (Option ℕ) → List ℕ → List (Option ℕ)
claim_all unit ps [] = ps
claim_all unit ps (r ∷ rs) = claim_all unit (claim unit ps r) rs

-- RegisterTable::release: only if that unit still holds it.
unfoldable pub release_held : ℕ → Option ℕ → Option ℕ
release_held unit old = when_some old None (λ (u : ℕ). cond (eqb u unit) None (Some u))

unfoldable pub release : ℕ → List (Option ℕ) → ℕ → List (Option ℕ)
release unit ps r = modify r (release_held unit) ps

unfoldable pub release_all : ℕ → List (Option ℕ) → List ℕ → List (Option ℕ)
release_all unit ps [] = ps
release_all unit ps (r ∷ rs) = release_all unit (release unit ps r) rs

-- RegisterTable::outstanding: (register, unit) by rising number, counted from i.
unfoldable pub outstanding : ℕ → List (Option ℕ) → List (ℕ × ℕ)
outstanding i [] = []
outstanding i (None ∷ ps) = outstanding (suc i) ps
outstanding i (Some u ∷ ps) = (i, u) ∷ outstanding (suc i) ps

-- All of these unfold where a line says `unfolding registers`.
unfoldable pub registers : Unit {0}
unfolding intern intern_all resolve_names resolve get name_of pad producer_of claim claim_all release_held release release_all outstanding
registers = tt
