-- Write result: what blocks a finished unit, in the book's terms.
use Prim.Native.Nat.{ℕ, ◌+◌, ◌<◌, ◌≤◌}
use native.Mathlib.Omega.{arith}
use mathlib.Core.Path.{◌≡◌, refl, sym, ◌∙◌, ap, ap₂, subst}
use mathlib.Core.Bool.{Bool, true, false, cond, not, ◌&&◌, ◌||◌, false≢true, true≢false}
use Rattle.std.specs.Prelude.{Option, None, Some, slice_get, option_map}
use mathlib.Core.List.{List, [], ◌∷◌}
use mathlib.Core.Logic.{◌⊎◌, inl, inr, ◌↔◌}
use lib.Dec.{eqb, ltb}
use borrow.Author.Tests.{eqb-true, eqb-false, ne_eqb, ltb-true, lt-ltb}
use Rattle.laws.specs.Lists.{any_at, elem, find_at}
use Rattle.std.specs.List.{list_all, list_any}
use Rattle.laws.specs.Optional.{value_or, is_none}
use Rattle.std.specs.Option.{option_or}
use Rattle.laws.specs.Numbers.{max64}
use Rattle.laws.proofs.Choices.{none-some, some_inj}
use Rattle.laws.proofs.Tests.{lt-or-ge}
use Rattle.capability.specs.declared.Phase.TheVariants.{Wait, Write}
use Rattle.model.specs.Config.{is_memory, is_system}
use Rattle.model.specs.State.{State}
use Rattle.model.specs.Units.{FunctionalUnit, idle_unit, seq_of, unit_at, units}
use Rattle.model.specs.Views.{owed}
use Rattle.model.specs.Write.{Blocked, drain, drain_blocked, memory, memory_blocked, older_memory, other_busy, reads, war, war_reader, write_blocked, writing}
use Rattle.invariant.specs.Invariant.{Holds, In, Invariant, offered, occupied}
use Rattle.invariant.proofs.Bools.{and_both, not-true, or-false}
use Rattle.invariant.proofs.Lists.{find-hit, find-miss}
use Rattle.book.specs.Book.{Status, fi_at, can_write, overwritable}
use Rattle.book.specs.Tables.{is_wait, source_of, book_of}
use Rattle.book.specs.Conditions.{Writable, in_the_way, no_reader}
use Rattle.book.proofs.Lists.{all_from, all-to, any-at-from, any-at-to, any-from, any-to, elem_in, in-elem, in_map, in-mapped, in-nth, nth_in, not-to}
use Rattle.book.proofs.Rows.{Shown, busy, free, fi-holds, full-row, holds-one, holds_row, is-none-of, is_wait-of, not_some, owed-in, row-shown, waits-owed}

-- ── Options ─────────────────────────────────────────────────────────────────

or-none : {A : Type 0} (a b : Option A) → option_or a b ≡ None → (a ≡ None) × (b ≡ None)
or-none None b h = (refl, h)
or-none (Some x) b h = none-some x (sym h)

omap-none : {A B : Type 0} (f : A → B) (o : Option A) → option_map f o ≡ None → o ≡ None
omap-none f None h = refl
omap-none f (Some x) h = none-some (f x) (sym h)

is-none-yes : {A : Type 0} (o : Option A) → o ≡ None → is_none o ≡ true
is-none-yes o h = ap is_none h

-- ── In flight ───────────────────────────────────────────────────────────────

pub busy-holds : (s : State) (j : ℕ) (v : FunctionalUnit) → slice_get s.units j ≡ Some v → v.busy ≡ true → Holds s j v
busy-holds s j v e b = record { there = e; in_flight = ap (λ (x : Bool). x || offered s.offer.writing j) b }

pub holds-busy : (s : State) → s.offer.writing ≡ None → (j : ℕ) (v : FunctionalUnit) → Holds s j v → v.busy ≡ true
holds-busy s n j v h = sym (or-false v.busy) ∙ sym (ap (λ (w : Option ℕ). occupied w j v) n) ∙ h.in_flight

-- ── A reader ────────────────────────────────────────────────────────────────

-- Unit j, another than i, is busy, reads r and does not wait for it.
pub record Reads (i r j : ℕ) (v : FunctionalUnit) : Type 0 where
  pub another : j ≡ i → ⊥
  pub works : v.busy ≡ true
  pub reads_it : In r v.sources
  pub unowed : owed v.pending r ≡ None

pub reads-told : (i r j : ℕ) (v : FunctionalUnit) → reads i r j v ≡ true → Reads i r j v
unfolding writing
reads-told i r j v h =
    let unwaiting = not (list_any (λ (p : ℕ × ℕ). eqb p.0 r) v.pending) in
    let a = and_both (not (eqb j i) && v.busy && elem r v.sources) unwaiting h in
    let b = and_both (not (eqb j i) && v.busy) (elem r v.sources) a.0 in
    let c = and_both (not (eqb j i)) v.busy b.0 in
    record {
      another = eqb-false j i (not-true (eqb j i) c.0);
      works = c.1;
      reads_it = elem_in r v.sources b.1;
      unowed =
          is-none-of (owed v.pending r) (sym (not_some (owed v.pending r)) ∙ sym (ap not (waits-owed r v.pending)) ∙ a.1);
    }

pub reads_made : (i r j : ℕ) (v : FunctionalUnit) → Reads i r j v → reads i r j v ≡ true
unfolding writing
reads_made i r j v h =
    ap₂ ◌&&◌
    (ap₂ ◌&&◌ (ap₂ ◌&&◌ (ap not (ne_eqb j i h.another)) h.works) (in-elem r v.sources h.reads_it))
    (ap not (waits-owed r v.pending) ∙ not_some (owed v.pending r) ∙ is-none-yes (owed v.pending r) h.unowed)

-- What a WAR wait names: a destination of the unit, and its reader.
pub war-found
    : (us : List FunctionalUnit) (i : ℕ) (ds : List ℕ) (b : Blocked) → war_reader us i ds ≡ Some b
    → (r : ℕ) × (j : ℕ) × (b ≡ war r j) × In r ds × ((v : FunctionalUnit) × (slice_get us j ≡ Some v) × Reads i r j v)
unfolding writing
war-found us i [] b h = none-some b h
war-found us i (d ∷ ds) b h = go (war-found us i ds b) (find_at (reads i d) 0 us) refl h
  where
    go
        : (war_reader us i ds ≡ Some b
        → (r : ℕ) × (j : ℕ) × (b ≡ war r j) × In r ds × ((v : FunctionalUnit) × (slice_get us j ≡ Some v) × Reads i r j v))
        → (o : Option ℕ) → find_at (reads i d) 0 us ≡ o → option_or (option_map (war d) o) (war_reader us i ds) ≡ Some b
        → (r : ℕ) × (j : ℕ) × (b ≡ war r j) × In r (d ∷ ds) × ((v : FunctionalUnit) × (slice_get us j ≡ Some v) × Reads i r j v)
    go ih None e k = let w = ih k in (w.0, w.1, w.2, inr w.3, w.4)
    go ih (Some j) e k =
        let w = find-hit (reads i d) 0 us j e in
        let m : w.0 ≡ j = omega (arith, w.1) in (
          d,
          j,
          sym (some_inj (war d j) b k),
          inl refl,
          (w.2.0, subst (λ (z : ℕ). slice_get us z ≡ Some w.2.0) m w.2.1, reads-told i d j w.2.0 w.2.2),
        )

-- Without one there is no such reader.
war-none
    : (us : List FunctionalUnit) (i : ℕ) (ds : List ℕ) → war_reader us i ds ≡ None → (r : ℕ) → In r ds → (j : ℕ) (v : FunctionalUnit)
    → slice_get us j ≡ Some v → Reads i r j v → ⊥
unfolding writing
war-none us i [] h r n j v e t = n
war-none us i (d ∷ ds) h r (inl z) j v e t =
    let a = omap-none (war d) (find_at (reads i d) 0 us) (or-none (option_map (war d) (find_at (reads i d) 0 us)) (war_reader us i ds) h).0 in
    let f = find-miss (reads i d) 0 us a j v e in
    let k : 0 + j ≡ j = omega arith in
    false≢true
    (sym (ap₂ (λ (x m : ℕ). reads i x m v) z (sym k) ∙ f) ∙ reads_made i r j v t)
war-none us i (d ∷ ds) h r (inr n) j v e t =
    war-none us i ds (or-none (option_map (war d) (find_at (reads i d) 0 us)) (war_reader us i ds) h).1 r n j v e t

-- ── The WAR rule ────────────────────────────────────────────────────────────

-- No other operation in flight reads a destination of u and is not owed it.
abbrev pub Unread : State → ℕ → FunctionalUnit → Type 0
Unread s i u =
    (j : ℕ) (v : FunctionalUnit) (r : ℕ) → Holds s j v → (j ≡ i → ⊥) → In r v.sources → In r u.destinations
    → owed v.pending r ≡ None → ⊥

-- One that stands in the way: its unit, and its register.
abbrev Reader : State → ℕ → FunctionalUnit → Type 0
Reader s i u =
    (j : ℕ) × (v : FunctionalUnit) × (r : ℕ) × Holds s j v × (j ≡ i → ⊥) × In r v.sources × In r u.destinations
    × (owed v.pending r ≡ None)

module _ (s : State) (i : ℕ) (u : FunctionalUnit) (h : Holds s i u) where
  abbrev blocks : ℕ → Status → Bool
  blocks j f = not (eqb j i) && list_any (in_the_way (fi_at (book_of s) i)) f.sources

  pub none-unread : no_reader (book_of s) i ≡ true → Unread s i u
  none-unread e j v r k ne m d q =
      let z : j ≡ 0 + j = omega arith in
      let there : list_any (in_the_way (fi_at (book_of s) i)) (full-row v).sources ≡ true
      = any-from (in_the_way (fi_at (book_of s) i)) (full-row v).sources (source_of v r) (in_map (source_of v) v.sources r m)
      (ap₂ ◌&&◌ (in-elem r (fi_at (book_of s) i) (subst (In r) (sym (fi-holds s i u h)) d)) (is-none-yes (owed v.pending r) q)) in
      let b : blocks j (full-row v) ≡ true = ap₂ ◌&&◌ (ap not (ne_eqb j i ne)) there in
      let a : any_at blocks 0 (book_of s).FU ≡ true
      = any-at-from blocks 0 (book_of s).FU j (full-row v) (holds_row s j v k) (subst (λ (x : ℕ). blocks x (full-row v) ≡ true) z b) in
      false≢true (sym (ap not a) ∙ e)

  reader-of : any_at blocks 0 (book_of s).FU ≡ true → Reader s i u
  reader-of e =
      let w = any-at-to blocks 0 (book_of s).FU e in
      let z : 0 + w.0 ≡ w.0 = omega arith in
      at w.0 w.1 (row-shown s w.0 w.1 w.2) (subst (λ (m : ℕ). blocks m w.1 ≡ true) z w.3)
    where
      at : (j : ℕ) (f : Status) → Shown s j f → blocks j f ≡ true → Reader s i u
      at j f (busy v k q) t =
          let a = and_both (not (eqb j i)) (list_any (in_the_way (fi_at (book_of s) i)) f.sources) t in
          let b = any-to (in_the_way (fi_at (book_of s) i)) f.sources a.1 in
          let c = in-mapped (source_of v) v.sources b.0 (subst (λ (x : Status). In b.0 x.sources) q b.1) in
          let r = c.0 in
          let d : (elem r (fi_at (book_of s) i) ≡ true) × (is_none (owed v.pending r) ≡ true)
          = and_both (elem r (fi_at (book_of s) i)) (is_none (owed v.pending r)) (sym (ap (in_the_way (fi_at (book_of s) i)) c.2) ∙ b.2) in
          (j, v, r, k, eqb-false j i (not-true (eqb j i) a.0), c.1, subst (In r) (fi-holds s i u h) (elem_in r (fi_at (book_of s) i) d.0), is-none-of (owed v.pending r) d.1)
      at j f (free q) t =
          let a = and_both (not (eqb j i)) (list_any (in_the_way (fi_at (book_of s) i)) f.sources) t in
          let b = any-to (in_the_way (fi_at (book_of s) i)) f.sources a.1 in
          absurd (subst (λ (x : Status). In b.0 x.sources) q b.1)

  pub unread-none : Unread s i u → no_reader (book_of s) i ≡ true
  unread-none c =
      ap not
      (not-to (any_at blocks 0 (book_of s).FU)
      (λ e. let (j, v, r, k, ne, m, d, q) = reader-of e in c j v r k ne m d q))

  -- What the engine's rule lets write, the book's does.
  pub unread-allowed : u.phase ≡ Write → Unread s i u → can_write (book_of s) i ≡ true
  unread-allowed p c =
      all_from (λ (f : Status). list_all (overwritable (fi_at (book_of s) i)) f.sources) (book_of s).FU
      (λ f n. let w = in-nth (book_of s).FU f n in row w.0 f (row-shown s w.0 f w.1))
    where
      or_from : (a b : Bool) → (a ≡ true → b ≡ true → ⊥) → (not a || not b) ≡ true
      or_from true true h = absurd (h refl refl)
      or_from true false h = refl
      or_from false b h = refl

      one : (j : ℕ) (v : FunctionalUnit) → Holds s j v → (r : ℕ) → In r v.sources → elem r (fi_at (book_of s) i) ≡ true
          → (is_wait v.phase && is_none (owed v.pending r)) ≡ true → ⊥
      one j v k r m e t =
          let a = and_both (is_wait v.phase) (is_none (owed v.pending r)) t in
          c j v r k
          (λ z.
          let vu : v ≡ u = holds-one s i u v h (subst (λ (x : ℕ). Holds s x v) z k) in
          false≢true (sym (ap (λ (x : FunctionalUnit). is_wait x.phase) vu ∙ ap is_wait p) ∙ a.0))
          m
          (subst (In r) (fi-holds s i u h) (elem_in r (fi_at (book_of s) i) e)) (is-none-of (owed v.pending r) a.1)

      row : (j : ℕ) (f : Status) → Shown s j f → list_all (overwritable (fi_at (book_of s) i)) f.sources ≡ true
      row j f (busy v k q) =
          all_from (overwritable (fi_at (book_of s) i)) f.sources
          (λ x n.
          let w = in-mapped (source_of v) v.sources x (subst (λ (g : Status). In x g.sources) q n) in
          ap (overwritable (fi_at (book_of s) i)) w.2
          ∙ or_from (elem w.0 (fi_at (book_of s) i)) (is_wait v.phase && is_none (owed v.pending w.0)) (one j v k w.0 w.1))
      row j f (free q) =
          all_from (overwritable (fi_at (book_of s) i)) f.sources
          (λ x n. absurd (subst (λ (g : Status). In x g.sources) q n))

  -- One that stands in the way, and has not read, stands in the book's way too.
  unready : can_write (book_of s) i ≡ true → (j : ℕ) (v : FunctionalUnit) (r : ℕ) → Holds s j v → In r v.sources → In r u.destinations
      → owed v.pending r ≡ None → v.phase ≡ Wait → ⊥
  unready c j v r k m d q p =
      let row =
      all-to (λ (f : Status). list_all (overwritable (fi_at (book_of s) i)) f.sources) (book_of s).FU c (full-row v)
      (nth_in (book_of s).FU j (full-row v) (holds_row s j v k)) in
      let one = all-to (overwritable (fi_at (book_of s) i)) (full-row v).sources row (source_of v r) (in_map (source_of v) v.sources r m) in
      let there : elem r (fi_at (book_of s) i) ≡ true = in-elem r (fi_at (book_of s) i) (subst (In r) (sym (fi-holds s i u h)) d) in
      let set : (is_wait v.phase && is_none (owed v.pending r)) ≡ true
      = ap₂ ◌&&◌ (ap is_wait p) (is-none-yes (owed v.pending r) q) in
      false≢true (sym (ap₂ (λ (a b : Bool). not a || not b) there set) ∙ one)

  -- The two rules differ by the readers that have read.
  pub war-same
      : Invariant s → u.phase ≡ Write
      → (no_reader (book_of s) i ≡ true)
      ↔ ((can_write (book_of s) i ≡ true)
      × ((j : ℕ) (v : FunctionalUnit) (r : ℕ) → Holds s j v → (j ≡ i → ⊥) → In r v.sources → In r u.destinations → v.phase ≡ Wait))
  war-same g p = (
    (λ e.
        let c = none-unread e in
        (unread-allowed p c, (λ j v r k ne m d. waiting c j v r k ne m d (is_wait v.phase) refl))),
    (λ (c, w). unread-none (λ j v r k ne m d q. unready c j v r k m d q (w j v r k ne m d))),
  )
    where
      unowed : (j : ℕ) (v : FunctionalUnit) (r : ℕ) → Holds s j v → is_wait v.phase ≡ false → (o : Option ℕ) → owed v.pending r ≡ o → o ≡ None
      unowed j v r k f None e = refl
      unowed j v r k f (Some a) e =
          absurd (true≢false (sym (ap is_wait (g.waits j v r a k (owed-in r a v.pending e)).3) ∙ f))

      waiting
          : Unread s i u → (j : ℕ) (v : FunctionalUnit) (r : ℕ) → Holds s j v → (j ≡ i → ⊥) → In r v.sources → In r u.destinations
          → (b : Bool) → is_wait v.phase ≡ b → v.phase ≡ Wait
      waiting c j v r k ne m d true f = is_wait-of v.phase f
      waiting c j v r k ne m d false f = absurd (c j v r k ne m d (unowed j v r k f (owed v.pending r) refl))

-- ── The three tests of the engine ───────────────────────────────────────────

module _ (s : State) (n : s.offer.writing ≡ None) (i : ℕ) (u : FunctionalUnit) (h : Holds s i u) where
  here : unit_at s.units i ≡ u
  unfolding units
  here = ap (value_or (idle_unit 0 0)) h.there

  number_of : (j : ℕ) (v : FunctionalUnit) → Holds s j v → seq_of v ≡ v.op.core.seq
  unfolding units
  number_of j v k = ap (λ (b : Bool). cond b v.op.core.seq max64) (holds-busy s n j v k)

  abbrev MemoryTurn : Type 0
  MemoryTurn =
      is_memory u.class ≡ true → (j : ℕ) (v : FunctionalUnit) → Holds s j v → is_memory v.class ≡ true
      → u.op.core.seq ≤ v.op.core.seq

  abbrev Alone : Type 0
  Alone = is_system u.class ≡ true → (j : ℕ) (v : FunctionalUnit) → Holds s j v → j ≡ i

  war-unread : war_reader s.units i u.destinations ≡ None → Unread s i u
  war-unread e j v r k ne m d q =
      war-none s.units i u.destinations e r d j v k.there
      (record { another = ne; works = holds-busy s n j v k; reads_it = m; unowed = q })

  unread-war : Unread s i u → war_reader s.units i u.destinations ≡ None
  unread-war c = go (war_reader s.units i u.destinations) refl
    where
      go : (o : Option Blocked) → war_reader s.units i u.destinations ≡ o → o ≡ None
      go None e = refl
      go (Some b) e =
          let w = war-found s.units i u.destinations b e in
          let v = w.4.0 in
          let t = w.4.2 in
          absurd (c w.1 v w.0 (busy-holds s w.1 v w.4.1 t.works) t.another t.reads_it w.3 t.unowed)

  memory-told : (o : Option ℕ) → find_at (older_memory i u.op.core.seq) 0 s.units ≡ o → o ≡ None → MemoryTurn
  unfolding writing
  memory-told o e z y j v k m = go (lt-or-ge v.op.core.seq u.op.core.seq)
    where
      another : v.op.core.seq < u.op.core.seq → j ≡ i → ⊥
      another l q =
          let vu : v ≡ u = holds-one s i u v h (subst (λ (x : ℕ). Holds s x v) q k) in
          let w = ap (λ (x : FunctionalUnit). x.op.core.seq) vu in
          omega arith

      go : (v.op.core.seq < u.op.core.seq) ⊎ (u.op.core.seq ≤ v.op.core.seq) → u.op.core.seq ≤ v.op.core.seq
      go (inl l) =
          let f = find-miss (older_memory i u.op.core.seq) 0 s.units (e ∙ z) j v k.there in
          let x : 0 + j ≡ j = omega arith in
          let q = number_of j v k in
          let lt : ltb (seq_of v) u.op.core.seq ≡ true = lt-ltb (seq_of v) u.op.core.seq (omega arith) in
          let t : older_memory i u.op.core.seq j v ≡ true
          = ap₂ ◌&&◌ (ap₂ ◌&&◌ (ap₂ ◌&&◌ (ap not (ne_eqb j i (another l))) (holds-busy s n j v k)) m) lt in
          absurd (false≢true (sym (ap (λ (a : ℕ). older_memory i u.op.core.seq a v) (sym x) ∙ f) ∙ t))
      go (inr l) = l

  memory-hit : (o : Option ℕ) → find_at (older_memory i u.op.core.seq) 0 s.units ≡ o → is_memory u.class ≡ true → MemoryTurn → o ≡ None
  unfolding writing
  memory-hit None e y t = refl
  memory-hit (Some j) e y t =
      let w = find-hit (older_memory i u.op.core.seq) 0 s.units j e in
      let z : w.0 ≡ j = omega (arith, w.1) in
      let v = w.2.0 in
      let a = and_both (not (eqb j i) && v.busy && is_memory v.class) (ltb (seq_of v) u.op.core.seq) w.2.2 in
      let b = and_both (not (eqb j i) && v.busy) (is_memory v.class) a.0 in
      let c = and_both (not (eqb j i)) v.busy b.0 in
      let k = busy-holds s w.0 v w.2.1 c.1 in
      let l = t y w.0 v k b.1 in
      let m = ltb-true (seq_of v) u.op.core.seq a.1 in
      let q = number_of w.0 v k in
      absurd (omega arith)

  memory-is : memory_blocked s.units i ≡ cond (is_memory u.class) (option_map memory (find_at (older_memory i u.op.core.seq) 0 s.units)) None
  unfolding writing
  memory-is =
      ap₂ (λ (x : FunctionalUnit) (m : ℕ). cond (is_memory x.class) (option_map memory (find_at (older_memory i m) 0 s.units)) None) here
      (ap seq_of here ∙ number_of i u h)

  memory-turn : memory_blocked s.units i ≡ None → MemoryTurn
  memory-turn e y =
      memory-told (find_at (older_memory i u.op.core.seq) 0 s.units) refl
      (omap-none memory (find_at (older_memory i u.op.core.seq) 0 s.units)
      (sym (memory-is ∙ ap (λ (b : Bool). cond b (option_map memory (find_at (older_memory i u.op.core.seq) 0 s.units)) None) y) ∙ e))
      y

  turn-memory : MemoryTurn → memory_blocked s.units i ≡ None
  turn-memory t = memory-is ∙ go (is_memory u.class) refl
    where
      go
          : (b : Bool) → is_memory u.class ≡ b
          → cond b (option_map memory (find_at (older_memory i u.op.core.seq) 0 s.units)) None ≡ None
      go true e =
          ap (option_map memory)
          (memory-hit (find_at (older_memory i u.op.core.seq) 0 s.units) refl e t)
      go false e = refl

  drain-is : drain_blocked s.units i ≡ cond (is_system u.class && any_at (other_busy i) 0 s.units) (Some drain) None
  unfolding writing
  drain-is = ap (λ (x : FunctionalUnit). cond (is_system x.class && any_at (other_busy i) 0 s.units) (Some drain) None) here

  drain-alone : drain_blocked s.units i ≡ None → Alone
  unfolding writing
  drain-alone e y j v k = go (eqb j i) refl
    where
      go : (b : Bool) → eqb j i ≡ b → j ≡ i
      go true q = eqb-true j i q
      go false q =
          let x : j ≡ 0 + j = omega arith in
          let t : other_busy i (0 + j) v ≡ true
          = subst (λ (a : ℕ). other_busy i a v ≡ true) x (ap₂ ◌&&◌ (ap not q) (holds-busy s n j v k)) in
          let a = any-at-from (other_busy i) 0 s.units j v k.there t in
          none-some drain (sym e ∙ drain-is ∙ ap₂ (λ (b c : Bool). cond (b && c) (Some drain) None) y a)

  alone-drain : Alone → drain_blocked s.units i ≡ None
  unfolding writing
  alone-drain t = drain-is ∙ go (is_system u.class) refl (any_at (other_busy i) 0 s.units) refl
    where
      go : (a : Bool) → is_system u.class ≡ a → (b : Bool) → any_at (other_busy i) 0 s.units ≡ b → cond (a && b) (Some drain) None ≡ None
      go false e b f = refl
      go true e false f = refl
      go true e true f =
          let w = any-at-to (other_busy i) 0 s.units f in
          let c = and_both (not (eqb (0 + w.0) i)) w.1.busy w.3 in
          let q = t e w.0 w.1 (busy-holds s w.0 w.1 w.2 c.1) in
          absurd (eqb-false (0 + w.0) i (not-true (eqb (0 + w.0) i) c.0) (omega arith))

  -- Nothing blocks a finished unit exactly where it is writable.
  blocked-is
      : write_blocked s.units i ≡ option_or (war_reader s.units i u.destinations) (option_or (memory_blocked s.units i) (drain_blocked s.units i))
  unfolding writing
  blocked-is =
      ap (λ (x : FunctionalUnit). option_or (war_reader s.units i x.destinations) (option_or (memory_blocked s.units i) (drain_blocked s.units i))) here

  pub unblocked-writable : u.phase ≡ Write → write_blocked s.units i ≡ None → Writable s i u
  unblocked-writable p e =
      let a = or-none (war_reader s.units i u.destinations) (option_or (memory_blocked s.units i) (drain_blocked s.units i)) (sym blocked-is ∙ e) in
      let b = or-none (memory_blocked s.units i) (drain_blocked s.units i) a.1 in
      record {
        holds = h;
        finished = p;
        unread_by = unread-none s i u h (war-unread a.0);
        memory_order = memory-turn b.0;
        drained = drain-alone b.1;
      }

  pub unblocked : Unread s i u → MemoryTurn → Alone → write_blocked s.units i ≡ None
  unblocked a b c =
      blocked-is ∙ ap (λ (o : Option Blocked). option_or o (option_or (memory_blocked s.units i) (drain_blocked s.units i))) (unread-war a)
      ∙ ap₂ option_or (turn-memory b) (alone-drain c)

  pub writable-unblocked : Writable s i u → write_blocked s.units i ≡ None
  writable-unblocked w = unblocked (none-unread s i u h w.unread_by) w.memory_order w.drained
