-- The book's own steps along a run of the engine: its tables are always those of a run of the book, but for what nothing looks at.
use Prim.Native.Nat.{ℕ, zero, suc}
use mathlib.Core.Path.{◌≡◌, refl, sym, ◌∙◌, ap, ap₂, subst, fun_ext}
use mathlib.Core.Bool.{Bool, true, false, cond, not, ◌&&◌, true≢false}
use Rattle.std.specs.Prelude.{Option, None, Some, slice_get, option_map}
use mathlib.Core.List.{List, [], ◌∷◌, ◌++◌, map}
use lib.ListN.{length, replicate}
use Rattle.laws.specs.Lists.{All, lists, modify}
use Rattle.std.specs.List.{list_all}
use Rattle.laws.specs.Optional.{value_or, is_none, when_some}
use Rattle.laws.proofs.Choices.{none-some}
use Rattle.laws.proofs.Maps.{nth-map}
use Rattle.capability.specs.declared.Phase.TheVariants.{Write}
use Rattle.model.specs.Issue.{issue, issue_front, issuing}
use Rattle.model.specs.Op.{Op}
use Rattle.model.specs.Registers.{producer_of, registers}
use Rattle.model.specs.Scoreboard.{advance as do_advance, before_issue, closed, stops}
use Rattle.model.specs.State.{State}
use Rattle.model.specs.Units.{FunctionalUnit, clear, units}
use Rattle.model.specs.Views.{owed}
use Rattle.runs.proofs.Tracks.{append-three}
use Rattle.invariant.specs.Invariant.{Holds, Invariant, occupied}
use Rattle.invariant.proofs.Entries.{offered-self}
use Rattle.book.specs.Book.{Source, source, Status, status, Book, book, busy_at, all_ready, can_issue, can_write, do_issue, do_write, has_read, idle_row, idle_tables, is_read, read_row, Reached, idle, issued, read, written, tidy, tidy_row, tidy_source}
use Rattle.book.specs.Tables.{is_wait, source_of, row_of, shown_units, book_of}
use Rattle.book.specs.Conditions.{ByTheBook, InTheBook, all_read, looked, read_if_ready}
use Rattle.book.proofs.Lists.{all_from, in-mapped, map-all, map-two}
use Rattle.book.proofs.Unseen.{all-mapped, done-same, reached-unseen, same-busy, tidy-no, tidy-yes}
use Rattle.book.proofs.Rows.{full-row, holds_row, owed-in, row-full, row-idle, rows_all}
use Rattle.book.proofs.Issuing.{Outcome, held, placed, outcome}
use Rattle.book.proofs.Holds.{advance-is, by-the-book, stopped-is}

-- ── Rows without anything to tidy ───────────────────────────────────────────

row-tidy : (u : FunctionalUnit) → tidy_row (row_of u) ≡ row_of u
row-tidy u = go u.busy refl
  where
    kept : (b : Bool) (q : Option ℕ) → cond (b && is_none q) None q ≡ q
    kept true None = refl
    kept false None = refl
    kept true (Some k) = refl
    kept false (Some k) = refl

    go : (b : Bool) → u.busy ≡ b → tidy_row (row_of u) ≡ row_of u
    go true b =
        ap tidy_row (row-full u b)
        ∙ ap (status true u.class u.destinations)
        (map-two (source_of u) tidy_source u.sources
        ∙ map-all (λ (x : ℕ). tidy_source (source_of u x)) (source_of u) u.sources
        (λ x.
        ap (λ (q : Option ℕ). source x q (is_wait u.phase && is_none (owed u.pending x)))
        (kept (is_wait u.phase) (owed u.pending x))))
        ∙ sym (row-full u b)
    go false b = ap tidy_row (row-idle u b) ∙ sym (row-idle u b)

pub book-tidy : (s : State) → tidy (book_of s) ≡ book_of s
book-tidy s =
    let us = shown_units s in
    ap (λ (l : List Status). book l (producer_of s.producer)) (map-two row_of tidy_row us ∙ map-all (λ u. tidy_row (row_of u)) row_of us row-tidy)

-- ── Idle units ──────────────────────────────────────────────────────────────

idle-rows : (us : List FunctionalUnit) → All (λ (u : FunctionalUnit). u.busy ≡ false) us → map row_of us ≡ replicate (length us) idle_row
idle-rows [] h = refl
idle-rows (u ∷ us) h = ap₂ {B = List Status} ◌∷◌ (row-idle u h.0) (idle-rows us h.1)

tidy-idle : (n : ℕ) → tidy (idle_tables n) ≡ idle_tables n
tidy-idle n = ap (λ (l : List Status). book l (λ (r : ℕ). None)) (go n)
  where
    go : (n : ℕ) → map tidy_row (replicate n idle_row) ≡ replicate n idle_row
    go zero = refl
    go (suc n) = ap (λ (l : List Status). idle_row ∷ l) (go n)

-- Nothing in flight: the tables of idle units.
module _ (s : State) where
  pub idle-in-book
      : s.offer.writing ≡ None → All (λ (u : FunctionalUnit). u.busy ≡ false) s.units
      → ((r : ℕ) → producer_of s.producer r ≡ None) → InTheBook s
  idle-in-book n a p =
      let k = length s.units in
      (idle_tables k, idle k, ap₂ book (rows_all s n ∙ idle-rows s.units a) (fun_ext p) ∙ sym (tidy-idle k))

pub unclaimed : (r : ℕ) → producer_of [] r ≡ None
unfolding registers lists
unclaimed r = refl

pub all-unclaimed : (ps : List (Option ℕ)) (r : ℕ) → producer_of (map (λ (p : Option ℕ). None) ps) r ≡ None
unfolding registers
all-unclaimed ps r = ap (value_or None) (nth-map (λ (p : Option ℕ). None) ps r) ∙ go (slice_get ps r)
  where
    go : (o : Option (Option ℕ)) → value_or {A = Option ℕ} None (option_map {U = Option ℕ} (λ (p : Option ℕ). None) o) ≡ None
    go None = refl
    go (Some p) = refl

pub all-cleared : (us : List FunctionalUnit) → All (λ (u : FunctionalUnit). u.busy ≡ false) (map clear us)
unfolding units
all-cleared [] = tt
all-cleared (u ∷ us) = (refl, all-cleared us)

-- ── Every unit that may read does ───────────────────────────────────────────

nth-middle : {A : Type 0} (xs : List A) (y : A) (ys : List A) → slice_get (xs ++ (y ∷ ys)) (length xs) ≡ Some y
unfolding lists
nth-middle [] y ys = refl
nth-middle (x ∷ xs) y ys = nth-middle xs y ys

modify-middle : {A : Type 0} (f : A → A) (xs : List A) (y : A) (ys : List A) → modify (length xs) f (xs ++ (y ∷ ys)) ≡ xs ++ (f y ∷ ys)
unfolding lists
modify-middle f [] y ys = refl
modify-middle {A} f (x ∷ xs) y ys = ap (λ (l : List A). x ∷ l) (modify-middle f xs y ys)

module _ (res : ℕ → Option ℕ) where
  one-reads : (xs : List Status) (y : Status) (ys : List Status) → Reached (book (xs ++ (y ∷ ys)) res) → Reached (book (xs ++ (read_if_ready y ∷ ys)) res)
  one-reads xs y ys h = go y.Busy refl (all_ready y) refl
    where
      at : {A : Type 0} (d : A) (f : Status → A) → when_some (slice_get (xs ++ (y ∷ ys)) (length xs)) d f ≡ f y
      at d f = ap (λ (o : Option Status). when_some o d f) (nth-middle xs y ys)

      kept : (y.Busy && all_ready y) ≡ false → Reached (book (xs ++ (read_if_ready y ∷ ys)) res)
      kept e = subst (λ (z : Status). Reached (book (xs ++ (z ∷ ys)) res)) (sym (ap (λ (b : Bool). cond b (read_row y) y) e)) h

      go : (b : Bool) → y.Busy ≡ b → (c : Bool) → all_ready y ≡ c → Reached (book (xs ++ (read_if_ready y ∷ ys)) res)
      go false e c f = kept (ap (λ (b : Bool). b && all_ready y) e)
      go true e false f = kept (ap₂ ◌&&◌ e f)
      go true e true f =
          subst (λ (z : Status). Reached (book (xs ++ (z ∷ ys)) res)) (sym (ap (λ (b : Bool). cond b (read_row y) y) (ap₂ ◌&&◌ e f)))
          (subst (λ (l : List Status). Reached (book l res)) (modify-middle read_row xs y ys)
          (read h (length xs) (at false (λ (u : Status). u.Busy) ∙ e) (at false all_ready ∙ f)))

  rest-reads : (ys xs : List Status) → Reached (book (xs ++ ys) res) → Reached (book (xs ++ map read_if_ready ys) res)
  rest-reads [] xs h = h
  rest-reads (y ∷ ys) xs h =
      let z = read_if_ready y in
      subst (λ (l : List Status). Reached (book l res)) (append-three xs (z ∷ []) (map read_if_ready ys))
      (rest-reads ys (xs ++ (z ∷ []))
      (subst (λ (l : List Status). Reached (book l res)) (sym (append-three xs (z ∷ []) ys)) (one-reads xs y ys h)))

reached-read : (b : Book) → Reached b → Reached (all_read b)
reached-read b h = rest-reads b.Result b.FU [] h

read-tidy : (b : Book) → tidy (all_read b) ≡ all_read (tidy b)
unfolding lists
read-tidy b =
    ap (λ (l : List Status). book l b.Result)
    (map-two read_if_ready tidy_row b.FU ∙ map-all (λ u. tidy_row (read_if_ready u)) (λ u. read_if_ready (tidy_row u)) b.FU row
    ∙ sym (map-two tidy_row read_if_ready b.FU))
  where
    full : Status → Status
    full u = status true u.Op u.Fi (map tidy_source u.sources)

    ready : (u : Status) → list_all (λ (x : Source). x.R) (map tidy_source u.sources) ≡ all_ready u
    ready u = all-mapped tidy_source (λ (x : Source). x.R) (λ (x : Source). x.R) u.sources (λ x n. refl)

    row : (u : Status) → tidy_row (read_if_ready u) ≡ read_if_ready (tidy_row u)
    row u = go u.Busy refl (all_ready u) refl
      where
        go : (b : Bool) → u.Busy ≡ b → (c : Bool) → all_ready u ≡ c → tidy_row (read_if_ready u) ≡ read_if_ready (tidy_row u)
        go false e c f =
            ap (λ (b : Bool). tidy_row (cond (b && all_ready u) (read_row u) u)) e ∙ tidy-no u e ∙ sym (ap read_if_ready (tidy-no u e))
        go true e false f =
            ap₂ (λ (b c : Bool). tidy_row (cond (b && c) (read_row u) u)) e f ∙ tidy-yes u e
            ∙ sym (ap read_if_ready (tidy-yes u e) ∙ ap (λ (c : Bool). cond c (read_row (full u)) (full u)) (ready u ∙ f))
        go true e true f =
            ap₂ (λ (b c : Bool). tidy_row (cond (b && c) (read_row u) u)) e f ∙ tidy-yes (read_row u) e
            ∙ ap (status true u.Op u.Fi)
            (map-two (λ (x : Source). source x.F None false) tidy_source u.sources
            ∙ sym (map-two tidy_source (λ (x : Source). source x.F None false) u.sources))
            ∙ sym (ap read_if_ready (tidy-yes u e) ∙ ap (λ (c : Bool). cond c (read_row (full u)) (full u)) (ready u ∙ f))

-- ── One call ────────────────────────────────────────────────────────────────

-- What is on offer the book lets write.
abbrev pub OfferAllowed : State → Type 0
OfferAllowed s = (i : ℕ) → s.offer.writing ≡ Some i → can_write (book_of s) i ≡ true

pub record Along (s : State) : Type 0 where
  pub in_book : InTheBook s
  pub allowed : OfferAllowed s

pub along-none : (s : State) → s.offer.writing ≡ None → InTheBook s → Along s
along-none s n h = record { in_book = h; allowed = λ i e. none-some i (sym n ∙ e) }

pub along-same : (s t : State) → t.offer.writing ≡ s.offer.writing → book_of t ≡ book_of s → Along s → Along t
along-same s t w e h =
    let (b, r, q) = h.in_book in
    record {
      in_book = (b, r, e ∙ q);
      allowed = λ i z. ap (λ (x : Book). can_write x i) e ∙ h.allowed i (sym w ∙ z);
    }

module _ (s : State) (h : Invariant s) (a : Along s) where
  by : ByTheBook s
  by = by-the-book s h

  -- The result on offer is written.
  module _ (i : ℕ) (w : s.offer.writing ≡ Some i) where
    offered-unit : (u : FunctionalUnit) × Holds s i u × (u.phase ≡ Write)
    offered-unit =
        let o = (h.offer_unit i w).1 in
        (o.0, record { there = o.1; in_flight = ap (λ (x : Option ℕ). occupied x i o.0) w ∙ offered-self i o.0 }, o.3)

    row_is : {A : Type 0} (d : A) (f : Status → A) → when_some (slice_get (book_of s).FU i) d f ≡ f (full-row offered-unit.0)
    row_is d f = ap (λ (o : Option Status). when_some o d f) (holds_row s i offered-unit.0 offered-unit.1)

    read-before : has_read (book_of s) i ≡ true
    read-before =
        row_is false (λ (u : Status). list_all is_read u.sources)
        ∙ all_from is_read (full-row u).sources
        (λ x n.
        let m = in-mapped (source_of u) u.sources x n in
        ap is_read m.2 ∙ source-read m.0 (owed u.pending m.0) refl)
      where
        u : FunctionalUnit
        u = offered-unit.0

        wait-off : (p : Bool) → is_wait offered-unit.0.phase ≡ false
        wait-off p = ap is_wait offered-unit.2

        source-read : (r : ℕ) (q : Option ℕ) → owed offered-unit.0.pending r ≡ q → is_read (source_of offered-unit.0 r) ≡ true
        source-read r None e =
            ap₂ (λ (p : Bool) (x : Option ℕ). not (p && is_none x) && is_none x) (wait-off true) e
        source-read r (Some k) e =
            let p = (h.waits i offered-unit.0 r k offered-unit.1 (owed-in r k offered-unit.0.pending e)).3 in
            absurd (true≢false (sym (ap is_wait p) ∙ wait-off true))

    written_in : InTheBook (closed s)
    written_in =
        let (b, r, q) = a.in_book in
        let f = reached-unseen r in
        let y : busy_at b i ≡ true = sym (same-busy b i) ∙ sym (ap (λ (x : Book). busy_at x i) q) ∙ row_is false (λ (u : Status). u.Busy) in
        let d : has_read b i ≡ true = sym (done-same b i y) ∙ sym (ap (λ (x : Book). has_read x i) q) ∙ read-before in
        let c : can_write b i ≡ true = sym (f.same_write i y) ∙ sym (ap (λ (x : Book). can_write x i) q) ∙ a.allowed i w in
        (do_write i b, written r i y d c, by.write_tables i w ∙ ap (λ (x : Book). tidy (do_write i x)) q ∙ f.written_same i y)

  closed_in : InTheBook (closed s)
  closed_in = go s.offer.writing refl
    where
      go : (w : Option ℕ) → s.offer.writing ≡ w → InTheBook (closed s)
      go None e = let (b, r, q) = a.in_book in (b, r, by.unwritten_tables e ∙ q)
      go (Some i) e = written_in i e

  -- Units read, and at most one operation is issued.
  module _ (redirect : Option ℕ) where
    abbrev t : State
    t = before_issue redirect (closed s)

    before-in : InTheBook t
    before-in =
        let (b, r, q) = closed_in in
        (all_read b, reached-read b r, by.read_tables redirect ∙ ap all_read q ∙ sym (read-tidy b))

    issue-in : InTheBook (issue t)
    unfolding issuing
    issue-in = go t.queue refl
      where
        step : (o : Op) (rest : List Op) → t.queue ≡ o ∷ rest → Outcome t o rest → InTheBook (issue t)
        step o rest q (held x hz d e k c f) = let (b, r, z) = before-in in (b, r, ap book_of c ∙ k ∙ z)
        step o rest q (placed k g m) =
            let (b, r, z) = before-in in
            let f = reached-unseen r in
            let y = by.issue_as_book redirect in
            let c : can_issue (book_of t) k (looked t o).written ≡ true = ((y.issues o rest q k).0 m).2.1 in
            let kind = o.core.decoded.class in
            let ss = (looked t o).read in
            let ds = (looked t o).written in (
              do_issue k kind ss ds b,
              issued r k kind ss ds (sym (f.same_issue k ds) ∙ sym (ap (λ (x : Book). can_issue x k ds) z) ∙ c),
              sym (book-tidy (issue t)) ∙ ap tidy (y.issue_tables o rest k q m ∙ ap (do_issue k kind ss ds) z) ∙ f.issued_same k kind ss ds,
            )

        go : (l : List Op) → t.queue ≡ l → InTheBook (issue t)
        go [] e = let (b, r, z) = before-in in (b, r, ap (λ (l : List Op). book_of (issue_front l t)) e ∙ z)
        go (o ∷ rest) e = step o rest e (outcome t o rest e)

    pub advance-in : InTheBook (do_advance redirect s)
    advance-in = go (stops s) refl
      where
        go : (b : Bool) → stops s ≡ b → InTheBook (do_advance redirect s)
        go true e = let (b, r, q) = closed_in in (b, r, stopped-is s h redirect e ∙ q)
        go false e = let (b, r, q) = issue-in in (b, r, advance-is s h redirect e ∙ q)
