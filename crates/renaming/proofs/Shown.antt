-- From engines that agree with names hidden to engines that agree with the names of looked-at operations shown as numbers, and back.
use Prim.Native.Nat.{ℕ}
use mathlib.Core.Path.{◌≡◌, refl, sym, ◌∙◌, ap, ap₂, subst}
use mathlib.Core.Bool.{Bool, true, false, cond, ◌||◌}
use Rattle.std.specs.Prelude.{Option, None, Some, slice_get}
use mathlib.Core.List.{List, [], ◌∷◌, map}
use lib.Dec.{T, eqb, eqb→eq}
use Rattle.laws.specs.Lists.{All, All2, elem, more2, none2}
use Rattle.std.specs.List.{list_any}
use Rattle.laws.specs.Texts.{Text}
use Rattle.model.specs.Op.{Info, Op, info_of, op_of}
use Rattle.model.specs.Registers.{get}
use Rattle.model.specs.State.{State, state}
use Rattle.model.specs.Units.{FunctionalUnit, unit_of}
use Rattle.renaming.proofs.Names.{get-renamed}
use Rattle.runs.proofs.Tracks.{Held, Known, KnownUnit, Tracked, in_table, unused}
use Rattle.renaming.proofs.Respect.{Like}
use Rattle.renaming.proofs.Queries.{hide}
use Rattle.renaming.specs.Recording.{Shows, as_number, bare, bare_op, bare_unit, blank, by_number}
use Rattle.renaming.specs.Renaming.{Carries, CarriesAt, OneToOne}

-- ── Lists ───────────────────────────────────────────────────────────────────

abbrev IsNil : {A : Type 0} → List A → Type 0
IsNil [] = Unit {0}
IsNil (x ∷ xs) = ⊥

pub nil-cons : {A B : Type 0} (x : A) (xs : List A) → [] ≡ x ∷ xs → B
nil-cons x xs p = absurd (subst IsNil p tt)

pub cons_head : {A : Type 0} (x y : A) (xs ys : List A) → x ∷ xs ≡ y ∷ ys → x ≡ y
cons_head x y xs ys p = cc

pub cons_tail : {A : Type 0} (x y : A) (xs ys : List A) → x ∷ xs ≡ y ∷ ys → xs ≡ ys
cons_tail x y xs ys p = cc

-- What follows element by element follows list by list.
pub lift
    : {A B : Type 0} (d e d' e' : A → B) (P Q : A → Type 0) → ((x y : A) → P x → Q y → d x ≡ e y → d' x ≡ e' y) → (xs ys : List A)
    → All P xs → All Q ys → map d xs ≡ map e ys → map d' xs ≡ map e' ys
lift d e d' e' P Q r [] [] p q h = refl
lift d e d' e' P Q r [] (y ∷ ys) p q h = nil-cons (e y) (map e ys) h
lift d e d' e' P Q r (x ∷ xs) [] p q h = nil-cons (d x) (map d xs) (sym h)
lift {B} d e d' e' P Q r (x ∷ xs) (y ∷ ys) p q h =
    ap₂ {B = List B} ◌∷◌ (r x y p.0 q.0 (cons_head (d x) (e y) (map d xs) (map e ys) h))
    (lift d e d' e' P Q r xs ys p.1 q.1 (cons_tail (d x) (e y) (map d xs) (map e ys) h))

nil-blank : (xs : List Text) → [] ≡ map blank xs → [] ≡ xs
nil-blank [] p = refl
nil-blank (x ∷ xs) p = nil-cons (blank x) (map blank xs) p

or-T : {X : Type 0} (a b : Bool) → (T a → X) → (T b → X) → T (a || b) → X
or-T true b f g t = f tt
or-T false b f g t = g t

pub all-elem : (P : ℕ → Type 0) (n : ℕ) (l : List ℕ) → All P l → T (elem n l) → P n
all-elem P n [] p t = absurd t
all-elem P n (m ∷ l) p t =
    or-T (eqb n m) (elem n l) (λ u. subst P (sym (eqb→eq n m u)) p.0) (λ u. all-elem P n l p.1 u) t

-- ── Names as numbers ────────────────────────────────────────────────────────

abbrev shows-by : Bool → List Text → Text → Text
shows-by b ns a = cond b (as_number (get ns a)) []

module _ (r : Text → Text → Type 0) (one : OneToOne r) (ns ms : List Text) (table : All2 r ns ms) where
  names-shown : (bs cs : List Text) → All2 r bs cs → map (shows-by true ns) bs ≡ map (shows-by true ms) cs
  names-shown bs cs none2 = refl
  names-shown bs cs (more2 {a = b} {b = c} {as' = bs'} {bs = cs'} q qs) =
      ap₂ {A = Text} {B = List Text} ◌∷◌ (ap as_number (get-renamed r one ns ms b c table q)) (names-shown bs' cs' qs)

  list-shown
      : (b : Bool) (bs cs : List Text) → (T b → All2 r bs cs) → map blank bs ≡ map blank cs → map (shows-by b ns) bs ≡ map (shows-by b ms) cs
  list-shown true bs cs f e = names-shown bs cs (f tt)
  list-shown false bs cs f e = e

  module _ (is js : List Info) (seen : List ℕ) (past : All (λ (n : ℕ). CarriesAt r (slice_get is n) (slice_get js n)) seen) where
    abbrev ShownAlike : ℕ → Info → Info → Type 0
    ShownAlike n i j =
        (map (by_number ns seen n) i.sources ≡ map (by_number ms seen n) j.sources)
        × (map (by_number ns seen n) i.writes ≡ map (by_number ms seen n) j.writes)

    carried : (n : ℕ) (i j : Info) → slice_get is n ≡ Some i → slice_get js n ≡ Some j → T (elem n seen) → Carries r i j
    carried n i j p q t =
        subst (λ (y : Option Info). CarriesAt r (Some i) y) q
        (subst (λ (x : Option Info). CarriesAt r x (slice_get js n)) p
        (all-elem (λ (m : ℕ). CarriesAt r (slice_get is m) (slice_get js m)) n seen past t))

    -- Nothing is read and nothing written.
    both-empty
        : (f g : Text → Text) (bs cs : List Text) → [] ≡ bs → map blank bs ≡ map blank cs → map f bs ≡ map g cs
    both-empty f g bs cs p e =
        ap (map f) (sym p) ∙ ap (map g) (nil-blank cs (ap (map blank) p ∙ e))

    info-shown
        : (n : ℕ) (i j : Info) → Known is n i → Known js n j → map blank i.sources ≡ map blank j.sources
        → map blank i.writes ≡ map blank j.writes → ShownAlike n i j
    info-shown n i j (in_table p) (in_table q) e f = (
      list-shown (elem n seen) i.sources j.sources (λ t. (carried n i j p q t).0) e,
      list-shown (elem n seen) i.writes j.writes (λ t. (carried n i j p q t).1) f,
    )
    info-shown n i j (in_table p) (unused q) e f = (
      sym (both-empty (by_number ms seen n) (by_number ns seen n) j.sources i.sources (ap (λ (x : Info). x.sources) (sym q)) (sym e)),
      sym (both-empty (by_number ms seen n) (by_number ns seen n) j.writes i.writes (ap (λ (x : Info). x.writes) (sym q)) (sym f)),
    )
    info-shown n i j (unused p) k e f = (
      both-empty (by_number ns seen n) (by_number ms seen n) i.sources j.sources (ap (λ (x : Info). x.sources) (sym p)) e,
      both-empty (by_number ns seen n) (by_number ms seen n) i.writes j.writes (ap (λ (x : Info). x.writes) (sym p)) f,
    )

    op-shown
        : (o p : Op) → Known is o.core.seq o.info → Known js p.core.seq p.info → bare_op hide o ≡ bare_op hide p
        → bare_op (by_number ns seen) o ≡ bare_op (by_number ms seen) p
    op-shown o p k l e = λ i. op_of (e i).core (info_of [] None None (reads i) (writes i) 0)
      where
        seqs : o.core.seq ≡ p.core.seq
        seqs = λ i. (e i).core.seq

        both : ShownAlike o.core.seq o.info p.info
        both =
            info-shown o.core.seq o.info p.info k (subst (λ (n : ℕ). Known js n p.info) (sym seqs) l)
            (λ i. (e i).info.sources) (λ i. (e i).info.writes)

        reads : map (by_number ns seen o.core.seq) o.info.sources ≡ map (by_number ms seen p.core.seq) p.info.sources
        reads = both.0 ∙ ap (λ (n : ℕ). map (by_number ms seen n) p.info.sources) seqs

        writes : map (by_number ns seen o.core.seq) o.info.writes ≡ map (by_number ms seen p.core.seq) p.info.writes
        writes = both.1 ∙ ap (λ (n : ℕ). map (by_number ms seen n) p.info.writes) seqs

    unit-shown
        : (u v : FunctionalUnit) → KnownUnit is u → KnownUnit js v → bare_unit hide u ≡ bare_unit hide v
        → bare_unit (by_number ns seen) u ≡ bare_unit (by_number ms seen) v
    unit-shown u v k l e = λ i.
        unit_of (e i).spec (e i).instance (e i).class (e i).redirects (e i).busy (op-shown u.op v.op k l (λ j. (e j).op) i)
        (e i).phase (e i).sources (e i).destinations (e i).pending

    pub state-shown : (s t : State) → Held is s → Held js t → Like s t → bare (by_number ns seen) s ≡ bare (by_number ms seen) t
    state-shown s t hs ht h = λ i.
        state (h i).machine
        (lift (bare_unit hide) (bare_unit hide) (bare_unit (by_number ns seen)) (bare_unit (by_number ms seen)) (KnownUnit is) (KnownUnit js)
        unit-shown s.units t.units hs.in_units ht.in_units (λ j. (h j).units) i)
        (lift (bare_op hide) (bare_op hide) (bare_op (by_number ns seen)) (bare_op (by_number ms seen)) (Tracked is) (Tracked js)
        (λ o p k l e. op-shown o p (in_table k) (in_table l) e) s.queue t.queue hs.queued ht.queued (λ j. (h j).queue) i)
        (h i).names (h i).producer (h i).marks (h i).offer (h i).front (h i).log

-- ── And back ────────────────────────────────────────────────────────────────

map-blank : (f : Text → Text) (bs : List Text) → map blank (map f bs) ≡ map blank bs
map-blank f [] = refl
map-blank f (b ∷ bs) = ap (λ (l : List Text). [] ∷ l) (map-blank f bs)

module _ (w : Shows) where
  hide-op : (o : Op) → bare_op hide (bare_op w o) ≡ bare_op hide o
  hide-op o = λ i.
      op_of o.core
      (info_of [] None None (map-blank (w o.core.seq) o.info.sources i) (map-blank (w o.core.seq) o.info.writes i) 0)

  hide-queue : (q : List Op) → map (bare_op hide) (map (bare_op w) q) ≡ map (bare_op hide) q
  hide-queue [] = refl
  hide-queue (o ∷ q) = ap₂ {A = Op} {B = List Op} ◌∷◌ (hide-op o) (hide-queue q)

  hide-units : (us : List FunctionalUnit) → map (bare_unit hide) (map (bare_unit w) us) ≡ map (bare_unit hide) us
  hide-units [] = refl
  hide-units (u ∷ us) =
      ap₂ {A = FunctionalUnit} {B = List FunctionalUnit} ◌∷◌
      (λ i.
      unit_of u.spec u.instance u.class u.redirects u.busy (hide-op u.op i) u.phase u.sources u.destinations
      u.pending)
      (hide-units us)

pub hidden : (w z : Shows) (s t : State) → bare w s ≡ bare z t → Like s t
hidden w z s t h = λ i.
    state (h i).machine (units i) (queue i) (h i).names (h i).producer (h i).marks (h i).offer (h i).front (h i).log
  where
    units : map (bare_unit hide) s.units ≡ map (bare_unit hide) t.units
    units = sym (hide-units w s.units) ∙ (λ i. map (bare_unit hide) (h i).units) ∙ hide-units z t.units

    queue : map (bare_op hide) s.queue ≡ map (bare_op hide) t.queue
    queue = sym (hide-queue w s.queue) ∙ (λ i. map (bare_op hide) (h i).queue) ∙ hide-queue z t.queue
