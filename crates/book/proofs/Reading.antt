-- Read operands: a unit in phase Wait reads exactly where each R of its row is set, and the rows change as the book says.
use Prim.Native.Nat.{ℕ}
use mathlib.Core.Path.{◌≡◌, refl, sym, ◌∙◌, ap, ap₂, subst}
use mathlib.Core.Bool.{Bool, true, false, cond, ◌&&◌, false≢true, true≢false}
use Rattle.std.specs.Prelude.{Option, None, Some, slice_get, option_map}
use mathlib.Core.List.{List, [], ◌∷◌, map}
use mathlib.Core.Logic.{inl, ◌↔◌}
use lib.Dec.{eqb}
use Rattle.laws.specs.Lists.{is_empty, lists}
use Rattle.std.specs.List.{list_all}
use Rattle.laws.specs.Optional.{value_or, is_none}
use Rattle.laws.proofs.Maps.{nth-map}
use Rattle.capability.specs.Numbers.{numbers, phase_number}
use Rattle.capability.specs.declared.Phase.{Phase}
use Rattle.capability.specs.declared.Phase.TheVariants.{Wait, Read, Execute, Write}
use Rattle.model.specs.Issue.{issuing}
use Rattle.model.specs.Scoreboard.{before_issue, scoreboard}
use Rattle.model.specs.State.{State}
use Rattle.model.specs.Units.{FunctionalUnit, begin, idle_unit, read_one, tick, unit_at, units}
use Rattle.model.specs.Views.{owed, views}
use Rattle.invariant.specs.Invariant.{In}
use Rattle.invariant.proofs.Bools.{and_both, or-false}
use Rattle.invariant.proofs.Entries.{Unoffered, entry, entry_at, entry-held}
use Rattle.book.specs.Book.{Source, source, Status, status, book, all_ready, can_read, idle_row, read_row}
use Rattle.book.specs.Tables.{is_wait, source_of, row_of, book_of}
use Rattle.book.specs.Conditions.{all_read, read_if_ready}
use Rattle.book.proofs.Lists.{all_from, all-to, bool_same, in_map, in-mapped, in-nth, map-in, map-two}
use Rattle.book.proofs.Rows.{at_row, in-owed, is-none-of, row-full, row-idle, rows_all}

-- ── The phase after the three moves of an advance ───────────────────────────

-- Of a busy unit: `z`, no cycle is left; `e`, it has no wait.
abbrev next-phase : Phase → Bool → Bool → Phase
next-phase Wait z true = Read
next-phase Wait z false = Wait
next-phase Read z e = Execute
next-phase Execute true e = Write
next-phase Execute false e = Execute
next-phase Write z e = Write

abbrev moved : FunctionalUnit → FunctionalUnit
moved u = read_one (begin (tick u))

moved-phase
    : (u : FunctionalUnit) → u.busy ≡ true
    → (moved u).phase ≡ next-phase u.phase (eqb u.op.core.cycles_left 0) (is_empty u.pending)
unfolding units numbers
moved-phase u b =
    ap
    (λ (b : Bool).
    let p1 = cond ((b && eqb (phase_number u.phase) 2) && eqb u.op.core.cycles_left 0) Write u.phase in
    let p2 = cond (b && eqb (phase_number p1) 1) Execute p1 in
    cond ((b && eqb (phase_number p2) 0) && is_empty u.pending) Read p2)
    b
    ∙ go u.phase (eqb u.op.core.cycles_left 0) (is_empty u.pending)
  where
    go
        : (p : Phase) (z e : Bool)
        → (let p1 = cond ((true && eqb (phase_number p) 2) && z) Write p in
        let p2 = cond (true && eqb (phase_number p1) 1) Execute p1 in
        cond ((true && eqb (phase_number p2) 0) && e) Read p2)
        ≡ next-phase p z e
    go Wait z true = refl
    go Wait z false = refl
    go Read z e = refl
    go Execute true e = refl
    go Execute false e = refl
    go Write z e = refl

-- ── The test ────────────────────────────────────────────────────────────────

-- A unit's waits are for its own sources.
abbrev pub Own : FunctionalUnit → Type 0
Own u = (r k : ℕ) → In {A = ℕ × ℕ} (r, k) u.pending → In r u.sources

empty-waits : (ws : List (ℕ × ℕ)) → is_empty ws ≡ true → ws ≡ []
unfolding lists
empty-waits [] h = refl
empty-waits (w ∷ ws) h = absurd (false≢true h)

-- In phase Wait: no wait is left exactly where each R is set.
ready-same : (u : FunctionalUnit) → u.phase ≡ Wait → Own u → is_empty u.pending ≡ list_all (λ (x : Source). x.R) (map (source_of u) u.sources)
unfolding lists views
ready-same u p own = bool_same (is_empty u.pending) (list_all (λ (x : Source). x.R) (map (source_of u) u.sources)) forth (back u.pending refl)
  where
    forth : is_empty u.pending ≡ true → list_all (λ (x : Source). x.R) (map (source_of u) u.sources) ≡ true
    forth e =
        all_from (λ (x : Source). x.R) (map (source_of u) u.sources)
        (λ x n.
        let w = in-mapped (source_of u) u.sources x n in
        ap (λ (z : Source). z.R) w.2
        ∙ ap₂ (λ (q : Phase) (ws : List (ℕ × ℕ)). is_wait q && is_none (owed ws w.0)) p (empty-waits u.pending e))

    back
        : (ws : List (ℕ × ℕ)) → u.pending ≡ ws → list_all (λ (x : Source). x.R) (map (source_of u) u.sources) ≡ true
        → is_empty u.pending ≡ true
    back [] e h = ap is_empty e
    back (w ∷ ws) e h =
        let m : In {A = ℕ × ℕ} (w.0, w.1) u.pending = subst (λ (z : List (ℕ × ℕ)). In {A = ℕ × ℕ} (w.0, w.1) z) (sym e) (inl refl) in
        let r : (is_wait u.phase && is_none (owed u.pending w.0)) ≡ true
        = all-to (λ (x : Source). x.R) (map (source_of u) u.sources) h (source_of u w.0) (in_map (source_of u) u.sources w.0 (own w.0 w.1 m)) in
        absurd
        (in-owed w.0 w.1 u.pending m
        (is-none-of (owed u.pending w.0) (and_both (is_wait u.phase) (is_none (owed u.pending w.0)) r).1))

-- ── The rows ────────────────────────────────────────────────────────────────

-- The row of a unit if it were in phase p.
abbrev row_in : FunctionalUnit → Phase → Status
row_in u p =
    cond u.busy
    (status true u.class u.destinations
    (map (λ (x : ℕ). source x (owed u.pending x) (is_wait p && is_none (owed u.pending x))) u.sources))
    idle_row

same-wait : (u : FunctionalUnit) (p q : Phase) → is_wait p ≡ is_wait q → row_in u p ≡ row_in u q
same-wait u p q h =
    ap
    (λ (b : Bool).
    cond u.busy
    (status true u.class u.destinations
    (map (λ (x : ℕ). source x (owed u.pending x) (b && is_none (owed u.pending x))) u.sources))
    idle_row)
    h

-- Past phase Wait no R is set: nothing is left to read.
past-read : (u : FunctionalUnit) → u.busy ≡ true → is_wait u.phase ≡ false → read_if_ready (row_of u) ≡ row_of u
unfolding lists
past-read u b p = ap read_if_ready (row-full u b) ∙ go u.sources ∙ sym (row-full u b)
  where
    go
        : (l : List ℕ)
        → read_if_ready (status true u.class u.destinations (map (source_of u) l)) ≡ status true u.class u.destinations (map (source_of u) l)
    go [] = refl
    go (x ∷ l) =
        ap
        (λ (c : Bool).
        cond ((c && is_none (owed u.pending x)) && list_all (λ (y : Source). y.R) (map (source_of u) l))
        (read_row (status true u.class u.destinations (map (source_of u) (x ∷ l))))
        (status true u.class u.destinations (map (source_of u) (x ∷ l))))
        p

-- In phase Wait: read where nothing is owed.
wait-read
    : (u : FunctionalUnit) → u.busy ≡ true → u.phase ≡ Wait → Own u
    → row_in u (next-phase Wait (eqb u.op.core.cycles_left 0) (is_empty u.pending)) ≡ read_if_ready (row_of u)
unfolding views lists
wait-read u b p own = go (is_empty u.pending) refl ∙ sym (ap read_if_ready (row-full u b))
  where
    full : (q : Phase) → row_in u q ≡ status true u.class u.destinations (map (λ (x : ℕ). source x (owed u.pending x) (is_wait q && is_none (owed u.pending x))) u.sources)
    full q =
        ap
        (λ (c : Bool).
        cond c
        (status true u.class u.destinations
        (map (λ (x : ℕ). source x (owed u.pending x) (is_wait q && is_none (owed u.pending x))) u.sources))
        idle_row)
        b

    go
        : (e : Bool) → is_empty u.pending ≡ e
        → row_in u (next-phase Wait (eqb u.op.core.cycles_left 0) e)
        ≡ read_if_ready (status true u.class u.destinations (map (source_of u) u.sources))
    go true e =
        full Read
        ∙ ap (status true u.class u.destinations)
        (map-in (λ (x : ℕ). source x (owed u.pending x) false) (λ (x : ℕ). source x None false) u.sources
        (λ x n. ap (λ (ws : List (ℕ × ℕ)). source x (owed ws x) false) (empty-waits u.pending e))
        ∙ sym (map-two (source_of u) (λ (x : Source). source x.F None false) u.sources))
        ∙ sym
        (ap
        (λ (c : Bool).
        cond c (read_row (status true u.class u.destinations (map (source_of u) u.sources)))
        (status true u.class u.destinations (map (source_of u) u.sources)))
        (sym (ready-same u p own) ∙ e))
    go false e =
        same-wait u Wait u.phase (sym (ap is_wait p)) ∙ row-full u b
        ∙ sym
        (ap
        (λ (c : Bool).
        cond c (read_row (status true u.class u.destinations (map (source_of u) u.sources)))
        (status true u.class u.destinations (map (source_of u) u.sources)))
        (sym (ready-same u p own) ∙ e))

moved_row : (u : FunctionalUnit) → (u.busy ≡ true → Own u) → row_of (moved u) ≡ read_if_ready (row_of u)
unfolding units
moved_row u own = go u.busy refl
  where
    past : (p q : Phase) → u.busy ≡ true → u.phase ≡ p → is_wait p ≡ false → is_wait q ≡ false → row_in u q ≡ read_if_ready (row_of u)
    past p q b e f g = same-wait u q u.phase (g ∙ sym (ap is_wait e ∙ f)) ∙ sym (past-read u b (ap is_wait e ∙ f))

    at
        : (p : Phase) (z : Bool) → eqb u.op.core.cycles_left 0 ≡ z → u.phase ≡ p → u.busy ≡ true
        → row_in u (next-phase p z (is_empty u.pending)) ≡ read_if_ready (row_of u)
    at Wait z f e b =
        subst (λ (x : Bool). row_in u (next-phase Wait x (is_empty u.pending)) ≡ read_if_ready (row_of u)) f (wait-read u b e (own b))
    at Read z f e b = past Read Execute b e refl refl
    at Execute true f e b = past Execute Write b e refl refl
    at Execute false f e b = past Execute Execute b e refl refl
    at Write z f e b = past Write Write b e refl refl

    go : (b : Bool) → u.busy ≡ b → row_of (moved u) ≡ read_if_ready (row_of u)
    go true b =
        ap (row_in u) (moved-phase u b) ∙ at u.phase (eqb u.op.core.cycles_left 0) refl refl b
    go false b = row-idle (moved u) b ∙ sym (ap read_if_ready (row-idle u b))

-- ── Every unit of an engine without an offer ────────────────────────────────

module _ (t : State) (c : Unoffered t) where
  own_at : (j : ℕ) (u : FunctionalUnit) → slice_get t.units j ≡ Some u → u.busy ≡ true → Own u
  own_at j u e b r k n =
      (c.core.waits j (entry u) r k
      (ap (λ (x : Option ℕ). entry_at x j (slice_get t.units j)) c.no_offer ∙ ap (entry_at None j) e
      ∙ entry-held None j u (or-false u.busy ∙ b))
      n
      ).0

  moved-units : (r : Option ℕ) → (before_issue r t).units ≡ map moved t.units
  unfolding scoreboard issuing
  moved-units None = three
    where
      three : map read_one (map begin (map tick t.units)) ≡ map moved t.units
      three = ap (map read_one) (map-two tick begin t.units) ∙ map-two (λ u. begin (tick u)) read_one t.units
  moved-units (Some k) = ap (map read_one) (map-two tick begin t.units) ∙ map-two (λ u. begin (tick u)) read_one t.units

  before-offer : (r : Option ℕ) → (before_issue r t).offer.writing ≡ None
  unfolding scoreboard issuing
  before-offer None = c.no_offer
  before-offer (Some k) = c.no_offer

  before-result : (r : Option ℕ) → (book_of (before_issue r t)).Result ≡ (book_of t).Result
  unfolding scoreboard issuing
  before-result None = refl
  before-result (Some k) = refl

  pub reads-tables : (r : Option ℕ) → book_of (before_issue r t) ≡ all_read (book_of t)
  reads-tables r =
      ap₂ book
      (rows_all (before_issue r t) (before-offer r) ∙ ap (map row_of) (moved-units r) ∙ map-two moved row_of t.units
      ∙ map-in (λ u. row_of (moved u)) (λ u. read_if_ready (row_of u)) t.units
      (λ u n. let w = in-nth t.units u n in moved_row u (own_at w.0 u w.1))
      ∙ sym (map-two row_of read_if_ready t.units)
      ∙ ap (map read_if_ready) (sym (rows_all t c.no_offer)))
      (before-result r)

  pub reads_same
      : (r : Option ℕ) (i : ℕ) (u : FunctionalUnit) → slice_get t.units i ≡ Some u → u.busy ≡ true
      → ((unit_at (before_issue r t).units i).phase ≡ Read) ↔ ((u.phase ≡ Wait) × (can_read (book_of t) i ≡ true))
  unfolding units numbers
  reads_same r i u e b = (
    (λ h. forth u.phase refl (eqb u.op.core.cycles_left 0) (is_empty u.pending) refl (sym after ∙ h)),
    (λ h. after ∙ ap₂ (λ (p : Phase) (x : Bool). next-phase p (eqb u.op.core.cycles_left 0) x) h.0 (ready h.0 ∙ h.1)),
  )
    where
      at : unit_at (before_issue r t).units i ≡ moved u
      at =
          ap (λ (l : List FunctionalUnit). value_or (idle_unit 0 0) (slice_get l i)) (moved-units r)
          ∙ ap (value_or (idle_unit 0 0)) (nth-map moved t.units i ∙ ap (option_map moved) e)

      after : (unit_at (before_issue r t).units i).phase ≡ next-phase u.phase (eqb u.op.core.cycles_left 0) (is_empty u.pending)
      after = ap (λ (v : FunctionalUnit). v.phase) at ∙ moved-phase u b

      ready : u.phase ≡ Wait → is_empty u.pending ≡ can_read (book_of t) i
      ready p =
          ready-same u p (own_at i u e b) ∙ sym (at_row t c.no_offer i u false all_ready e ∙ ap all_ready (row-full u b))

      other : {B : Type 0} {p : Phase} → p ≡ Read → eqb (phase_number p) 1 ≡ false → B
      other h e = absurd (true≢false (sym (ap (λ (p : Phase). eqb (phase_number p) 1) h) ∙ e))

      forth
          : (p : Phase) → u.phase ≡ p → (z x : Bool) → is_empty u.pending ≡ x → next-phase u.phase z (is_empty u.pending) ≡ Read
          → (u.phase ≡ Wait) × (can_read (book_of t) i ≡ true)
      forth p q z x f h = go p q z x f (ap₂ (λ (a : Phase) (c : Bool). next-phase a z c) (sym q) (sym f) ∙ h)
        where
          go
              : (p : Phase) → u.phase ≡ p → (z x : Bool) → is_empty u.pending ≡ x → next-phase p z x ≡ Read
              → (u.phase ≡ Wait) × (can_read (book_of t) i ≡ true)
          go Wait q z true f h = (q, sym (ready q) ∙ f)
          go Wait q z false f h = other h refl
          go Read q z x f h = other h refl
          go Execute q true x f h = other h refl
          go Execute q false x f h = other h refl
          go Write q z x f h = other h refl
