-- Rows of the book's table, made from the engine's units: what each part of a row says of its unit.
use Prim.Native.Nat.{ℕ}
use mathlib.Core.Path.{◌≡◌, refl, sym, ◌∙◌, ap, ap₂, subst}
use mathlib.Core.Bool.{Bool, true, false, cond, not, ◌||◌, false≢true}
use Rattle.std.specs.Prelude.{Option, None, Some, slice_get, is_some, option_map}
use mathlib.Core.List.{List, [], ◌∷◌, map}
use mathlib.Core.Logic.{inl, inr}
use lib.Dec.{eqb}
use borrow.Author.Tests.{eqb-true, eqb-false, eq-eqb}
use Rattle.laws.specs.Lists.{lists, modify}
use Rattle.std.specs.List.{list_any}
use Rattle.laws.specs.Optional.{is_none, when_some}
use Rattle.laws.proofs.Choices.{none-some, some_inj}
use Rattle.laws.proofs.Maps.{nth-map}
use Rattle.capability.specs.declared.Phase.{Phase}
use Rattle.capability.specs.declared.Phase.TheVariants.{Wait, Read, Execute, Write}
use Rattle.model.specs.State.{State}
use Rattle.model.specs.Units.{FunctionalUnit, with_busy}
use Rattle.model.specs.Views.{owed, views}
use Rattle.model.specs.Write.{put_back, writing}
use Rattle.invariant.specs.Invariant.{Holds, In, occupied}
use Rattle.invariant.proofs.Bools.{or-false}
use Rattle.invariant.proofs.Entries.{offered-self}
use Rattle.invariant.proofs.Lists.{nth-other, nth-same}
use Rattle.book.specs.Book.{Status, status, idle_row, fi_at}
use Rattle.book.specs.Tables.{is_wait, source_of, row_of, shown_units, book_of}

-- ── Phases ──────────────────────────────────────────────────────────────────

pub is_wait-of : (p : Phase) → is_wait p ≡ true → p ≡ Wait
is_wait-of Wait h = refl
is_wait-of Read h = absurd (false≢true h)
is_wait-of Execute h = absurd (false≢true h)
is_wait-of Write h = absurd (false≢true h)

-- ── Waits as Q ──────────────────────────────────────────────────────────────

pub waits-owed : (r : ℕ) (ws : List (ℕ × ℕ)) → list_any (λ (p : ℕ × ℕ). eqb p.0 r) ws ≡ is_some (owed ws r)
unfolding views lists
waits-owed r [] = refl
waits-owed r (w ∷ ws) = go (eqb w.0 r) (waits-owed r ws)
  where
    go
        : (b : Bool) → list_any (λ (p : ℕ × ℕ). eqb p.0 r) ws ≡ is_some (owed ws r)
        → (b || list_any (λ (p : ℕ × ℕ). eqb p.0 r) ws) ≡ is_some (cond b (Some w.1) (owed ws r))
    go true h = refl
    go false h = h

pub not_some : {A : Type 0} (o : Option A) → not (is_some o) ≡ is_none o
not_some None = refl
not_some (Some x) = refl

pub is-none-of : {A : Type 0} (o : Option A) → is_none o ≡ true → o ≡ None
is-none-of None h = refl
is-none-of (Some x) h = absurd (false≢true h)

pub owed-in : (r k : ℕ) (ws : List (ℕ × ℕ)) → owed ws r ≡ Some k → In {A = ℕ × ℕ} (r, k) ws
unfolding views
owed-in r k [] h = none-some k h
owed-in r k (w ∷ ws) h = go (owed-in r k ws) (eqb w.0 r) refl h
  where
    go
        : (owed ws r ≡ Some k → In {A = ℕ × ℕ} (r, k) ws) → (b : Bool) → eqb w.0 r ≡ b → cond b (Some w.1) (owed ws r) ≡ Some k
        → In {A = ℕ × ℕ} (r, k) (w ∷ ws)
    go ih true e z = inl (ap₂ (λ (a b : ℕ). (a, b)) (sym (eqb-true w.0 r e)) (sym (some_inj w.1 k z)))
    go ih false e z = inr (ih z)

pub in-owed : (r k : ℕ) (ws : List (ℕ × ℕ)) → In {A = ℕ × ℕ} (r, k) ws → owed ws r ≡ None → ⊥
unfolding views
in-owed r k [] n h = n
in-owed r k (w ∷ ws) (inl e) h =
    let t : eqb w.0 r ≡ true = eq-eqb w.0 r (sym (ap (λ (z : ℕ × ℕ). z.0) e)) in
    none-some w.1 (sym h ∙ ap (λ (b : Bool). cond b (Some w.1) (owed ws r)) t)
in-owed r k (w ∷ ws) (inr n) h = go (in-owed r k ws n) (eqb w.0 r) h
  where
    go : (owed ws r ≡ None → ⊥) → (b : Bool) → cond b (Some w.1) (owed ws r) ≡ None → ⊥
    go ih true z = none-some w.1 (sym z)
    go ih false z = ih z

-- ── Rows ────────────────────────────────────────────────────────────────────

abbrev pub full-row : FunctionalUnit → Status
full-row u = status true u.class u.destinations (map (source_of u) u.sources)

pub row-full : (u : FunctionalUnit) → u.busy ≡ true → row_of u ≡ full-row u
row-full u h = ap (λ (b : Bool). cond b (full-row u) idle_row) h

pub row-idle : (u : FunctionalUnit) → u.busy ≡ false → row_of u ≡ idle_row
row-idle u h = ap (λ (b : Bool). cond b (full-row u) idle_row) h

pub row-busy : (u : FunctionalUnit) → (row_of u).Busy ≡ u.busy
row-busy u = go u.busy
  where
    go : (b : Bool) → (cond b (full-row u) idle_row).Busy ≡ b
    go true = refl
    go false = refl

-- ── Tables of an engine without an offer ────────────────────────────────────

module _ (s : State) (n : s.offer.writing ≡ None) where
  pub shown-all : shown_units s ≡ s.units
  unfolding writing
  shown-all = ap (λ (w : Option ℕ). put_back w s.units) n

  pub rows_all : (book_of s).FU ≡ map row_of s.units
  rows_all = ap (map row_of) shown-all

  pub row_at : (i : ℕ) → slice_get (book_of s).FU i ≡ option_map row_of (slice_get s.units i)
  row_at i = ap (λ (l : List Status). slice_get l i) rows_all ∙ nth-map row_of s.units i

  pub row-there : (i : ℕ) (u : FunctionalUnit) → slice_get s.units i ≡ Some u → slice_get (book_of s).FU i ≡ Some (row_of u)
  row-there i u e = row_at i ∙ ap (option_map row_of) e

  pub at_row
      : {A : Type 0} (i : ℕ) (u : FunctionalUnit) (d : A) (f : Status → A) → slice_get s.units i ≡ Some u
      → when_some (slice_get (book_of s).FU i) d f ≡ f (row_of u)
  at_row {A} i u d f e = ap (λ (o : Option Status). when_some o d f) (row-there i u e)

-- ── Tables of any engine: a row that is Busy is that of an operation in flight ─

-- What row i of the tables shows.
pub data Shown (s : State) (i : ℕ) (f : Status) : Type 0 where
  busy : (u : FunctionalUnit) → Holds s i u → f ≡ full-row u → Shown s i f
  free : f ≡ idle_row → Shown s i f

module _ (s : State) where
  abbrev as-shown : ℕ → FunctionalUnit → FunctionalUnit
  as-shown i u = with_busy (occupied s.offer.writing i u) u

  shown-at : (i : ℕ) → slice_get (shown_units s) i ≡ option_map (as-shown i) (slice_get s.units i)
  unfolding writing
  shown-at i = by-offer s.offer.writing
    where
      same : (b : FunctionalUnit → Bool) (o : Option FunctionalUnit) → ((u : FunctionalUnit) → b u ≡ u.busy) → o ≡ option_map (λ (u : FunctionalUnit). with_busy (b u) u) o
      same b None h = refl
      same b (Some u) h = ap (λ (c : Bool). Some (with_busy c u)) (sym (h u))

      back : (o : Option FunctionalUnit) → option_map (with_busy true) o ≡ option_map (λ (u : FunctionalUnit). with_busy (occupied (Some i) i u) u) o
      back None = refl
      back (Some u) = ap (λ (c : Bool). Some (with_busy c u)) (sym (offered-self i u))

      by-offer : (w : Option ℕ) → slice_get (put_back w s.units) i ≡ option_map (λ (u : FunctionalUnit). with_busy (occupied w i u) u) (slice_get s.units i)
      by-offer None = same (λ (u : FunctionalUnit). occupied None i u) (slice_get s.units i) (λ u. or-false u.busy)
      by-offer (Some k) = go (eqb i k) refl
        where
          go
              : (b : Bool) → eqb i k ≡ b
              → slice_get (modify k (with_busy true) s.units) i ≡ option_map (λ (u : FunctionalUnit). with_busy (occupied (Some k) i u) u) (slice_get s.units i)
          go true e =
              subst
              (λ (m : ℕ). slice_get (modify m (with_busy true) s.units) i ≡ option_map (λ (u : FunctionalUnit). with_busy (occupied (Some m) i u) u) (slice_get s.units i))
              (eqb-true i k e) (nth-same (with_busy true) s.units i ∙ back (slice_get s.units i))
          go false e =
              nth-other (with_busy true) s.units k i (eqb-false i k e)
              ∙ same (λ (u : FunctionalUnit). occupied (Some k) i u) (slice_get s.units i)
              (λ u. ap (λ (c : Bool). u.busy || c) e ∙ or-false u.busy)

  table_at : (i : ℕ) → slice_get (book_of s).FU i ≡ option_map row_of (option_map (as-shown i) (slice_get s.units i))
  table_at i = nth-map row_of (shown_units s) i ∙ ap (option_map row_of) (shown-at i)

  pub holds_row : (i : ℕ) (u : FunctionalUnit) → Holds s i u → slice_get (book_of s).FU i ≡ Some (full-row u)
  holds_row i u h =
      table_at i ∙ ap (λ (o : Option FunctionalUnit). option_map row_of (option_map (as-shown i) o)) h.there
      ∙ ap (λ (f : Status). Some f) (row-full (as-shown i u) h.in_flight)

  pub row-shown : (i : ℕ) (f : Status) → slice_get (book_of s).FU i ≡ Some f → Shown s i f
  row-shown i f h = go (slice_get s.units i) refl (sym (table_at i) ∙ h)
    where
      go : (o : Option FunctionalUnit) → slice_get s.units i ≡ o → option_map row_of (option_map (as-shown i) o) ≡ Some f → Shown s i f
      go None e k = none-some f k
      go (Some u) e k = at (occupied s.offer.writing i u) refl (some_inj (row_of (as-shown i u)) f k)
        where
          at : (b : Bool) → occupied s.offer.writing i u ≡ b → row_of (as-shown i u) ≡ f → Shown s i f
          at true l q = busy u (record { there = e; in_flight = l }) (sym q ∙ row-full (as-shown i u) l)
          at false l q = free (sym q ∙ row-idle (as-shown i u) l)

  pub fi-holds : (i : ℕ) (u : FunctionalUnit) → Holds s i u → fi_at (book_of s) i ≡ u.destinations
  fi-holds i u h = ap (λ (o : Option Status). when_some o [] (λ (x : Status). x.Fi)) (holds_row i u h)

  -- The operation of unit i, by its row.
  pub fi-in : (i r : ℕ) → In r (fi_at (book_of s) i) → (u : FunctionalUnit) × Holds s i u × In r u.destinations
  fi-in i r h = go (slice_get (book_of s).FU i) refl h
    where
      at : (f : Status) → Shown s i f → In r f.Fi → (u : FunctionalUnit) × Holds s i u × In r u.destinations
      at f (busy u q e) n = (u, q, subst (λ (x : Status). In r x.Fi) e n)
      at f (free e) n = absurd (subst (λ (x : Status). In r x.Fi) e n)

      go
          : (o : Option Status) → slice_get (book_of s).FU i ≡ o → In r (when_some o [] (λ (x : Status). x.Fi))
          → (u : FunctionalUnit) × Holds s i u × In r u.destinations
      go None e n = absurd n
      go (Some f) e n = at f (row-shown i f e) n

  -- One operation is in a unit.
  pub holds-one : (i : ℕ) (u v : FunctionalUnit) → Holds s i u → Holds s i v → v ≡ u
  holds-one i u v h k = some_inj v u (sym k.there ∙ h.there)
