-- What the book leaves in its tables after a write is looked at by nothing: tidied tables allow the same steps and lead to the same tables.
use Prim.Native.Nat.{ℕ, zero, suc}
use mathlib.Core.Path.{◌≡◌, refl, sym, ◌∙◌, ap, ap₂}
use mathlib.Core.Bool.{Bool, true, false, cond, not, ◌&&◌, ◌||◌, true≢false}
use Rattle.std.specs.Prelude.{Option, None, Some, slice_get, is_some, option_map}
use mathlib.Core.List.{List, [], ◌∷◌, map}
use mathlib.Core.Logic.{inl, inr}
use lib.Dec.{eqb}
use lib.ListN.{replicate}
use borrow.Author.Tests.{eqb-true, eqb-false}
use Rattle.laws.specs.Lists.{elem, lists, modify}
use Rattle.std.specs.List.{list_all, list_any}
use Rattle.laws.specs.Optional.{is_none, when_some}
use Rattle.laws.proofs.Choices.{none-some, some_inj}
use Rattle.laws.proofs.Maps.{modify-map, nth-map}
use Rattle.capability.specs.declared.PipelineInstructionClass.{PipelineInstructionClass}
use Rattle.invariant.specs.Invariant.{In}
use Rattle.invariant.proofs.Bools.{and_both, or-true}
use Rattle.invariant.proofs.Lists.{nth-same, nth-other, omap-back}
use Rattle.book.specs.Book.{Source, source, Status, status, Book, book, busy_at, fi_at, can_issue, claimed_by, do_issue, fill, all_ready, can_read, read_row, do_read, overwritable, can_write, owes, wake, wake_row, free_row, released, do_write, idle_row, is_read, has_read, Reached, idle, issued, read, written, tidy_source, tidy_row, tidy, Unseen, NeverLookedAt}
use Rattle.book.proofs.Lists.{all_from, all-to, in-mapped, in-nth, map-all, map-two}

-- ── Places after a change ───────────────────────────────────────────────────

-- Where element j of a changed list comes from.
pub data Modified {A : Type 0} (f : A → A) (xs : List A) (i j : ℕ) (u : A) : Type 0 where
  here : j ≡ i → (v : A) → slice_get xs i ≡ Some v → f v ≡ u → Modified f xs i j u
  there : (j ≡ i → ⊥) → slice_get xs j ≡ Some u → Modified f xs i j u

module _ {A : Type 0} where
  pub modified : (f : A → A) (xs : List A) (i j : ℕ) (u : A) → slice_get (modify i f xs) j ≡ Some u → Modified f xs i j u
  modified f xs i j u h = go (eqb j i) refl
    where
      go : (b : Bool) → eqb j i ≡ b → Modified f xs i j u
      go true e =
          let z = eqb-true j i e in
          let w = omap-back f (slice_get xs i) u (sym (nth-same f xs i) ∙ ap (slice_get (modify i f xs)) (sym z) ∙ h) in
          here z w.0 w.1 w.2
      go false e = let n = eqb-false j i e in there n (sym (nth-other f xs i j n) ∙ h)

  pub replicated : (n : ℕ) (a : A) (j : ℕ) (u : A) → slice_get (replicate n a) j ≡ Some u → a ≡ u
  unfolding lists
  replicated zero a j u h = none-some u h
  replicated (suc n) a zero u h = some_inj a u h
  replicated (suc n) a (suc j) u h = replicated n a j u h

pub mapped_at : {A B : Type 0} (f : A → B) (xs : List A) (j : ℕ) (u : B) → slice_get (map f xs) j ≡ Some u → (v : A) × (slice_get xs j ≡ Some v) × (f v ≡ u)
mapped_at f xs j u h = omap-back f (slice_get xs j) u (sym (nth-map f xs j) ∙ h)

pub all-mapped
    : {A B : Type 0} (f : A → B) (p : A → Bool) (q : B → Bool) (xs : List A) → ((x : A) → In x xs → q (f x) ≡ p x)
    → list_all q (map f xs) ≡ list_all p xs
unfolding lists
all-mapped f p q [] h = refl
all-mapped f p q (x ∷ xs) h = ap₂ ◌&&◌ (h x (inl refl)) (all-mapped f p q xs (λ y n. h y (inr n)))

-- ── The row of a unit that is not Busy ──────────────────────────────────────

-- Each R is No, and each Q is 0.
abbrev pub Quiet : Book → Type 0
Quiet b = (j : ℕ) (u : Status) → slice_get b.FU j ≡ Some u → u.Busy ≡ false → list_all is_read u.sources ≡ true

-- Row i of tables is u.
pub row-there : (b : Book) (i : ℕ) → busy_at b i ≡ true → (u : Status) × (slice_get b.FU i ≡ Some u) × (u.Busy ≡ true)
row-there b i h = go (slice_get b.FU i) refl h
  where
    go
        : (o : Option Status) → slice_get b.FU i ≡ o → when_some o false (λ (u : Status). u.Busy) ≡ true
        → (u : Status) × (slice_get b.FU i ≡ Some u) × (u.Busy ≡ true)
    go None e k = absurd (true≢false (sym k))
    go (Some u) e k = (u, e, k)

wake-is-read : (i : ℕ) (x : Source) → is_read x ≡ true → is_read (wake i x) ≡ true
wake-is-read i x h = go x.Q refl (and_both (not x.R) (is_none x.Q) h)
  where
    go : (q : Option ℕ) → x.Q ≡ q → (not x.R ≡ true) × (is_none x.Q ≡ true) → is_read (wake i x) ≡ true
    go None e k = ap₂ ◌&&◌ (ap (λ (q : Option ℕ). not (cond (owes i q) true x.R)) e ∙ k.0) k.1
    go (Some m) e k = absurd (true≢false (sym k.1 ∙ ap is_none e))

woken-read : (i : ℕ) (ss : List Source) → list_all is_read ss ≡ true → list_all is_read (map (wake i) ss) ≡ true
woken-read i ss h =
    all_from is_read (map (wake i) ss)
    (λ x n.
    let w = in-mapped (wake i) ss x n in
    ap is_read w.2 ∙ wake-is-read i w.0 (all-to is_read ss h w.0 w.1))

module _ (b : Book) (quiet : Quiet b) (i : ℕ) where
  quiet-issued : (o : PipelineInstructionClass) (ss ds : List ℕ) → Quiet (do_issue i o ss ds b)
  quiet-issued o ss ds j u e k = go (modified (λ (u : Status). status true o ds (map (fill b.Result) ss)) b.FU i j u e)
    where
      go : Modified (λ (u : Status). status true o ds (map (fill b.Result) ss)) b.FU i j u → list_all is_read u.sources ≡ true
      go (here z v q r) = absurd (true≢false (ap (λ (w : Status). w.Busy) r ∙ k))
      go (there z q) = quiet j u q k

  quiet_read : busy_at b i ≡ true → Quiet (do_read i b)
  quiet_read y j u e k = go (modified read_row b.FU i j u e)
    where
      go : Modified read_row b.FU i j u → list_all is_read u.sources ≡ true
      go (here z v q r) =
          let w = row-there b i y in
          let vb : v.Busy ≡ true = ap (λ (x : Status). x.Busy) (some_inj v w.0 (sym q ∙ w.1)) ∙ w.2 in
          absurd (true≢false (sym vb ∙ ap (λ (x : Status). x.Busy) r ∙ k))
      go (there z q) = quiet j u q k

  quiet-written : has_read b i ≡ true → Quiet (do_write i b)
  quiet-written d j u e k = go (modified free_row (map (wake_row i) b.FU) i j u e)
    where
      own : (v : Status) → slice_get b.FU i ≡ Some v → list_all is_read v.sources ≡ true
      own v q = sym (ap (λ (o : Option Status). when_some o false (λ (u : Status). list_all is_read u.sources)) q) ∙ d

      go : Modified free_row (map (wake_row i) b.FU) i j u → list_all is_read u.sources ≡ true
      go (here z v q r) =
          let w = mapped_at (wake_row i) b.FU i v q in
          ap (λ (x : Status). list_all is_read x.sources) (sym r) ∙ ap (λ (x : Status). list_all is_read x.sources) (sym w.2)
          ∙ woken-read i w.0.sources (own w.0 w.1)
      go (there z q) =
          let w = mapped_at (wake_row i) b.FU j u q in
          ap (λ (x : Status). list_all is_read x.sources) (sym w.2)
          ∙ woken-read i w.0.sources (quiet j w.0 w.1 (ap (λ (x : Status). x.Busy) w.2 ∙ k))

pub reached-quiet : {b : Book} → Reached b → Quiet b
unfolding lists
reached-quiet (idle n) = λ j u e k. ap (λ (v : Status). list_all is_read v.sources) (sym (replicated n idle_row j u e))
reached-quiet (issued {b} h i o ss ds c) = quiet-issued b (reached-quiet h) i o ss ds
reached-quiet (read {b} h i y c) = quiet_read b (reached-quiet h) i y
reached-quiet (written {b} h i y d c) = quiet-written b (reached-quiet h) i d

-- ── One row, tidied ─────────────────────────────────────────────────────────

pub tidy-busy : (u : Status) → (tidy_row u).Busy ≡ u.Busy
tidy-busy u = go u.Busy
  where
    go : (b : Bool) → (cond b (status true u.Op u.Fi (map tidy_source u.sources)) idle_row).Busy ≡ b
    go true = refl
    go false = refl

pub tidy-yes : (u : Status) → u.Busy ≡ true → tidy_row u ≡ status true u.Op u.Fi (map tidy_source u.sources)
tidy-yes u h = ap (λ (b : Bool). cond b (status true u.Op u.Fi (map tidy_source u.sources)) idle_row) h

pub tidy-no : (u : Status) → u.Busy ≡ false → tidy_row u ≡ idle_row
tidy-no u h = ap (λ (b : Bool). cond b (status true u.Op u.Fi (map tidy_source u.sources)) idle_row) h

source-twice : (x : Source) → tidy_source (tidy_source x) ≡ tidy_source x
source-twice x = ap (λ (q : Option ℕ). source x.F q x.R) (go x.R)
  where
    go : (r : Bool) → cond r None (cond r None x.Q) ≡ cond r None x.Q
    go true = refl
    go false = refl

source-woken : (i : ℕ) (x : Source) → tidy_source (wake i (tidy_source x)) ≡ tidy_source (wake i x)
source-woken i x = go x.R x.Q
  where
    go : (r : Bool) (q : Option ℕ) → tidy_source (wake i (tidy_source (source x.F q r))) ≡ tidy_source (wake i (source x.F q r))
    go false q = refl
    go true None = refl
    go true (Some k) = at (eqb k i)
      where
        at : (b : Bool) → source x.F None true ≡ source x.F (cond (cond b true true) None (Some k)) (cond b true true)
        at true = refl
        at false = refl

tidy-twice : (u : Status) → tidy_row (tidy_row u) ≡ tidy_row u
tidy-twice u = go u.Busy refl
  where
    go : (b : Bool) → u.Busy ≡ b → tidy_row (tidy_row u) ≡ tidy_row u
    go true e =
        ap tidy_row (tidy-yes u e)
        ∙ ap (status true u.Op u.Fi) (map-two tidy_source tidy_source u.sources ∙ map-all (λ x. tidy_source (tidy_source x)) tidy_source u.sources source-twice)
        ∙ sym (tidy-yes u e)
    go false e = ap tidy_row (tidy-no u e) ∙ sym (tidy-no u e)

tidy-read : (u : Status) → tidy_row (read_row u) ≡ read_row (tidy_row u)
tidy-read u = go u.Busy refl
  where
    go : (b : Bool) → u.Busy ≡ b → tidy_row (read_row u) ≡ read_row (tidy_row u)
    go true e =
        tidy-yes (read_row u) e
        ∙ ap (status true u.Op u.Fi)
        (map-two (λ (x : Source). source x.F None false) tidy_source u.sources
        ∙ sym (map-two tidy_source (λ (x : Source). source x.F None false) u.sources))
        ∙ sym (ap read_row (tidy-yes u e))
    go false e = tidy-no (read_row u) e ∙ sym (ap read_row (tidy-no u e))

tidy-woken : (i : ℕ) (u : Status) → tidy_row (wake_row i (tidy_row u)) ≡ tidy_row (wake_row i u)
tidy-woken i u = go u.Busy refl
  where
    go : (b : Bool) → u.Busy ≡ b → tidy_row (wake_row i (tidy_row u)) ≡ tidy_row (wake_row i u)
    go true e =
        ap (λ (v : Status). tidy_row (wake_row i v)) (tidy-yes u e)
        ∙ ap (status true u.Op u.Fi)
        (ap (map tidy_source) (map-two tidy_source (wake i) u.sources)
        ∙ map-two (λ x. wake i (tidy_source x)) tidy_source u.sources
        ∙ map-all (λ x. tidy_source (wake i (tidy_source x))) (λ x. tidy_source (wake i x)) u.sources (source-woken i)
        ∙ sym (map-two (wake i) tidy_source u.sources))
        ∙ sym (tidy-yes (wake_row i u) e)
    go false e = ap (λ (v : Status). tidy_row (wake_row i v)) (tidy-no u e) ∙ sym (tidy-no (wake_row i u) e)

-- ── Whole tables, tidied ────────────────────────────────────────────────────

pub rows-twice : (us : List Status) → map tidy_row (map tidy_row us) ≡ map tidy_row us
rows-twice us = map-two tidy_row tidy_row us ∙ map-all (λ u. tidy_row (tidy_row u)) tidy_row us tidy-twice

module _ (b : Book) where
  at-tidy
      : {A : Type 0} (i : ℕ) (d : A) (f g : Status → A) → ((u : Status) → slice_get b.FU i ≡ Some u → f (tidy_row u) ≡ g u)
      → when_some (slice_get (map tidy_row b.FU) i) d f ≡ when_some (slice_get b.FU i) d g
  at-tidy {A} i d f g h = ap (λ (o : Option Status). when_some o d f) (nth-map tidy_row b.FU i) ∙ go (slice_get b.FU i) refl
    where
      go : (o : Option Status) → slice_get b.FU i ≡ o → when_some (option_map tidy_row o) d f ≡ when_some o d g
      go None e = refl
      go (Some u) e = h u e

  pub same-busy : (i : ℕ) → busy_at (tidy b) i ≡ busy_at b i
  same-busy i = at-tidy i false (λ (u : Status). u.Busy) (λ (u : Status). u.Busy) (λ u e. tidy-busy u)

  free-same : (i : ℕ) (ds : List ℕ) → can_issue (tidy b) i ds ≡ can_issue b i ds
  free-same i ds =
      ap (λ (x : Bool). x && not (list_any (λ (d : ℕ). is_some (b.Result d)) ds))
      (at-tidy i false (λ (u : Status). not u.Busy) (λ (u : Status). not u.Busy) (λ u e. ap not (tidy-busy u)))

  module _ (i : ℕ) (y : busy_at b i ≡ true) where
    busy-row : (u : Status) → slice_get b.FU i ≡ Some u → u.Busy ≡ true
    busy-row u e = let w = row-there b i y in ap (λ (x : Status). x.Busy) (some_inj u w.0 (sym e ∙ w.1)) ∙ w.2

    pub fi-same : fi_at (tidy b) i ≡ fi_at b i
    fi-same =
        at-tidy i [] (λ (u : Status). u.Fi) (λ (u : Status). u.Fi)
        (λ u e. ap (λ (x : Status). x.Fi) (tidy-yes u (busy-row u e)))

    ready-same : can_read (tidy b) i ≡ can_read b i
    ready-same =
        at-tidy i false all_ready all_ready
        (λ u e.
        ap all_ready (tidy-yes u (busy-row u e))
        ∙ all-mapped tidy_source (λ (x : Source). x.R) (λ (x : Source). x.R) u.sources (λ x n. refl))

    -- has_read, of tidied tables, of the tables.
    pub done-same : has_read (tidy b) i ≡ has_read b i
    done-same =
        at-tidy i false (λ (u : Status). list_all is_read u.sources) (λ (u : Status). list_all is_read u.sources)
        (λ u e.
        ap (λ (x : Status). list_all is_read x.sources) (tidy-yes u (busy-row u e))
        ∙ all-mapped tidy_source is_read is_read u.sources (λ x n. go x.R x.Q))
      where
        go : (r : Bool) (q : Option ℕ) → (not r && is_none (cond r None q)) ≡ (not r && is_none q)
        go true q = refl
        go false q = refl

    written-rows : tidy (do_write i (tidy b)) ≡ tidy (do_write i b)
    written-rows =
        ap₂ book
        (freed (map (wake_row i) (map tidy_row b.FU))
        ∙ ap (modify i (λ (u : Status). idle_row))
        (ap (map tidy_row) (map-two tidy_row (wake_row i) b.FU)
        ∙ map-two (λ u. wake_row i (tidy_row u)) tidy_row b.FU
        ∙ map-all (λ u. tidy_row (wake_row i (tidy_row u))) (λ u. tidy_row (wake_row i u)) b.FU (tidy-woken i)
        ∙ sym (map-two (wake_row i) tidy_row b.FU))
        ∙ sym (freed (map (wake_row i) b.FU)))
        (ap (λ (ds : List ℕ). released ds b.Result) fi-same)
      where
        freed : (us : List Status) → map tidy_row (modify i free_row us) ≡ modify i (λ (u : Status). idle_row) (map tidy_row us)
        freed us = modify-map tidy_row free_row (λ (u : Status). idle_row) (λ u. refl) i us

    module _ (quiet : Quiet b) where
      free-sources : (ds : List ℕ) (u : Status) → In u b.FU → u.Busy ≡ false → list_all (overwritable ds) u.sources ≡ true
      free-sources ds u n e =
          let w = in-nth b.FU u n in
          all_from (overwritable ds) u.sources
          (λ x m.
          let r = and_both (not x.R) (is_none x.Q) (all-to is_read u.sources (quiet w.0 u w.1 e) x m) in
          ap (λ (z : Bool). not (elem x.F ds) || z) r.0 ∙ or-true (not (elem x.F ds)))

      write_same : can_write (tidy b) i ≡ can_write b i
      unfolding lists
      write_same =
          ap (λ (ds : List ℕ). list_all (λ (f : Status). list_all (overwritable ds) f.sources) (map tidy_row b.FU)) fi-same
          ∙ all-mapped tidy_row (λ (f : Status). list_all (overwritable (fi_at b i)) f.sources)
          (λ (f : Status). list_all (overwritable (fi_at b i)) f.sources) b.FU (λ u n. go u n u.Busy refl)
        where
          go
              : (u : Status) → In u b.FU → (c : Bool) → u.Busy ≡ c
              → list_all (overwritable (fi_at b i)) (tidy_row u).sources ≡ list_all (overwritable (fi_at b i)) u.sources
          go u n true e =
              ap (λ (x : Status). list_all (overwritable (fi_at b i)) x.sources) (tidy-yes u e)
              ∙ all-mapped tidy_source (overwritable (fi_at b i)) (overwritable (fi_at b i)) u.sources (λ x m. refl)
          go u n false e =
              ap (λ (x : Status). list_all (overwritable (fi_at b i)) x.sources) (tidy-no u e) ∙ sym (free-sources (fi_at b i) u n e)

  module _ (i : ℕ) (o : PipelineInstructionClass) (ss ds : List ℕ) where
    abbrev new_row : Status
    new_row = status true o ds (map (fill b.Result) ss)

    put : (us : List Status) → map tidy_row (modify i (λ (u : Status). new_row) us) ≡ modify i (λ (u : Status). tidy_row new_row) (map tidy_row us)
    put us = modify-map tidy_row (λ (u : Status). new_row) (λ (u : Status). tidy_row new_row) (λ u. refl) i us

    issued-rows : tidy (do_issue i o ss ds (tidy b)) ≡ tidy (do_issue i o ss ds b)
    issued-rows =
        ap (λ (l : List Status). book l (claimed_by i ds b.Result))
        (put (map tidy_row b.FU) ∙ ap (modify i (λ (u : Status). tidy_row new_row)) (rows-twice b.FU) ∙ sym (put b.FU))

  read-rows : (i : ℕ) → tidy (do_read i (tidy b)) ≡ tidy (do_read i b)
  read-rows i =
      ap (λ (l : List Status). book l b.Result)
      (modify-map tidy_row read_row read_row tidy-read i (map tidy_row b.FU) ∙ ap (modify i read_row) (rows-twice b.FU)
      ∙ sym (modify-map tidy_row read_row read_row tidy-read i b.FU))

  pub unseen : Quiet b → Unseen b
  unseen quiet =
      record {
        same_issue = free-same;
        same_read = ready-same;
        same_write = λ i y. write_same i y quiet;
        issued_same = issued-rows;
        read_same = read-rows;
        written_same = written-rows;
      }

-- Of all tables that the book's steps lead to.
pub reached-unseen : {b : Book} → Reached b → Unseen b
reached-unseen {b} h = unseen b (reached-quiet h)

pub never-looked_at : NeverLookedAt
never-looked_at b h = reached-unseen h
