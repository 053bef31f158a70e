-- The invariant holds of every engine that is made, and is kept by every call.
use Prim.Native.Nat.{ℕ, suc, ◌≤◌, ◌<◌}
use native.Mathlib.Omega.{arith}
use mathlib.Core.Path.{◌≡◌, refl, sym, ◌∙◌, ap, subst}
use mathlib.Core.Bool.{Bool, true, false, cond}
use Rattle.std.specs.Prelude.{Option, None, Some, slice_get}
use mathlib.Core.List.{List, [], ◌∷◌}
use mathlib.Core.Logic.{◌⊎◌, inl, inr, ◌↔◌}
use lib.ListN.{length}
use lib.Dec.{T}
use Rattle.laws.specs.Lists.{is_empty, lists}
use Rattle.laws.specs.Texts.{Text, same}
use Rattle.laws.proofs.Choices.{none-some, some_inj}
use Rattle.laws.proofs.Same.{same-eq}
use Rattle.model.specs.Calls.{Call, after, calls, make_refusal, runs}
use Rattle.model.specs.Config.{PipelineShape}
use Rattle.model.specs.Registers.{producer_of}
use Rattle.model.specs.Scoreboard.{stops}
use Rattle.model.specs.State.{State, new}
use Rattle.model.specs.Units.{FunctionalUnit}
use Rattle.runs.proofs.Names.{Apart, Distinct, one_place}
use Rattle.invariant.specs.Invariant.{Holds, In, Invariant, UnitFits, front_number, occupied}
use Rattle.invariant.proofs.Lists.{all-at}
use Rattle.invariant.proofs.Consistent.{Consistent, Entry, Marked}
use Rattle.invariant.proofs.Entries.{entry, entry_at, entry-held, in_flight, rising-front}
use Rattle.invariant.proofs.Flight.{no-claim}
use Rattle.invariant.proofs.Front.{no_offer}
use Rattle.invariant.proofs.NameCount.{known-few}
use Rattle.invariant.proofs.Sizes.{kind-unit, units-count}
use Rattle.invariant.proofs.Units.{all-every}
use Rattle.invariant.proofs.Kept.{Kept, kept-after, kept-made}

-- ── Units and entries ───────────────────────────────────────────────────────

to-entry : (s : State) (i : ℕ) (u : FunctionalUnit) → Holds s i u → in_flight s i ≡ Some (entry u)
to-entry s i u h = ap (entry_at s.offer.writing i) h.there ∙ entry-held s.offer.writing i u h.in_flight

from-entry : (s : State) (i : ℕ) (e : Entry) → in_flight s i ≡ Some e → (u : FunctionalUnit) × Holds s i u × (entry u ≡ e)
from-entry s i e h = go (slice_get s.units i) refl h
  where
    go
        : (o : Option FunctionalUnit) → slice_get s.units i ≡ o → entry_at s.offer.writing i o ≡ Some e
        → (u : FunctionalUnit) × Holds s i u × (entry u ≡ e)
    go None q k = none-some e k
    go (Some u) q k = at (occupied s.offer.writing i u) refl k
      where
        at
            : (b : Bool) → occupied s.offer.writing i u ≡ b → cond b (Some (entry u)) None ≡ Some e
            → (v : FunctionalUnit) × Holds s i v × (entry v ≡ e)
        at true l z = (u, record { there = q; in_flight = l }, some_inj (entry u) e z)
        at false l z = none-some e z

non-empty : (r k : ℕ) (ws : List (ℕ × ℕ)) → In {A = ℕ × ℕ} (r, k) ws → is_empty ws ≡ false
unfolding lists
non-empty r k [] n = absurd n
non-empty r k (w ∷ ws) n = refl

-- ── Names, each at one place ────────────────────────────────────────────────

apart-places
    : (x : Text) (ns : List Text) → ((k : ℕ) (a : Text) → slice_get ns k ≡ Some a → x ≡ a → ⊥) → Apart x ns
unfolding lists
apart-places x [] h = tt
apart-places x (y ∷ ys) h = (go (same x y) refl, apart-places x ys (λ k a e. h (suc k) a e))
  where
    go : (b : Bool) → same x y ≡ b → b ≡ false
    go true e = absurd (h 0 y refl (same-eq x y (subst (λ (b : Bool). T b) (sym e) tt)))
    go false e = refl

distinct-places
    : (ns : List Text) → ((j k : ℕ) (a : Text) → slice_get ns j ≡ Some a → slice_get ns k ≡ Some a → j ≡ k) → Distinct ns
unfolding lists
distinct-places [] h = tt
distinct-places (x ∷ xs) h = (
  apart-places x xs (λ k a e q. let z = h 0 (suc k) a (ap Some q) e in omega arith),
  distinct-places xs (λ j k a e q. let z = h (suc j) (suc k) a e q in omega arith),
)

-- ── From the five parts ─────────────────────────────────────────────────────

module _ (s : State) (h : Kept s) where
  mark-facts
      : (m : Bool) (flag : Entry → Bool) → Marked m flag (in_flight s)
      → (m ≡ true) ↔ ((i : ℕ) × (u : FunctionalUnit) × Holds s i u × (flag (entry u) ≡ true))
  mark-facts m flag k = (
    (λ t.
        let w = k.marked t in
        let v = from-entry s w.0 w.1 w.2 in
        (w.0, v.0, v.1, ap flag v.2 ∙ w.3)),
    (λ w. k.marks w.0 (entry w.1) (to-entry s w.0 w.1 w.2) w.3),
  )

  older
      : (i : ℕ) (u : FunctionalUnit) (k : ℕ) → (k ≡ i) ⊎ ((f : Entry) × (in_flight s k ≡ Some f) × u.op.core.seq < f.seq)
      → (k ≡ i) ⊎ ((v : FunctionalUnit) × Holds s k v × u.op.core.seq < v.op.core.seq)
  older i u k (inl e) = inl e
  older i u k (inr (f, q, l)) =
      let v = from-entry s k f q in
      inr (v.0, v.1, subst (λ (x : Entry). u.op.core.seq < x.seq) (sym v.2) l)

  pub invariant-of : Invariant s
  invariant-of =
      let c = h.flight.core in
      let z = h.sizes in
      let n = s.front.next_seq in
      let lo = rising-front s.queue n h.flight.rising in
      let many = units-count s z.built.0 z.built.1 in
      let f = h.front in
      record {
        kinds_fit = z.kinds;
        times_fit = z.times;
        depth_some = z.deep.0;
        depth_few = z.deep.1;
        history_some = z.long.0;
        history_few = z.long.1;
        units_some = many.0;
        units_few = omega (arith, many.1);
        units_built = z.built;
        kind_has_unit = kind-unit s z.built.0 z.built.1;
        units_fit =
            all-every (UnitFits (length s.machine.specs) (length s.names)) s.units (λ i u e. (h.local i u e).fits);
        free_blank = λ i u e l. (h.local i u e).blank l;
        names_few = omega (arith, known-few s h.names);
        names_with_queue = h.names;
        names_distinct = λ j k a e q. one_place s.names a j k z.distinct e q;
        names_fit = z.names;
        producer_long = z.registers;
        queue_short = z.short;
        queue_fits = z.queued;
        queue_rising = h.flight.rising;
        before_queue = λ i u a. c.young i (entry u) (to-entry s i u a);
        before_next = λ i u a. let x = c.young i (entry u) (to-entry s i u a) in omega arith;
        number_distinct = λ i j u v a b e. c.apart i j (entry u) (entry v) (to-entry s i u a) (to-entry s j v b) e;
        next_few = z.few;
        next_row_is_number = z.level;
        claimed = λ i u r a m. c.claims i (entry u) r (to-entry s i u a) m;
        claimant = λ r i e.
            let w = c.held r i e in
            let v = from-entry s i w.0 w.1 in
            (v.0, v.1, subst (λ (x : Entry). In r x.destinations) (sym v.2) w.2);
        waits = λ i u r k a m.
            let w = c.waits i (entry u) r k (to-entry s i u a) m in
            let v = from-entry s k w.2.0 w.2.1 in (
              w.0,
              w.1,
              (v.0, v.1, subst (λ (x : Entry). x.seq < u.op.core.seq) (sym v.2) w.2.2),
              (h.local i u a.there).fits.waits_early (non-empty r k u.pending m),
            );
        unwaiting_older = λ i u r k a m w e. older i u k (c.readers i (entry u) r k (to-entry s i u a) m w e);
        branch_mark = mark-facts s.marks.branch (λ e. e.redirects) c.branch;
        branch_youngest = λ i j u v a t b. c.branch.youngest i j (entry u) (entry v) (to-entry s i u a) t (to-entry s j v b);
        system_mark = mark-facts s.marks.system (λ e. e.system) c.sys;
        system_youngest = λ i j u v a t b. c.sys.youngest i j (entry u) (entry v) (to-entry s i u a) t (to-entry s j v b);
        rows_few = z.rows_few;
        rows_numbered = z.ids;
        rows_fit = z.rows;
        counters_fit = z.counters;
        traces_few = f.traces;
        traces_open = f.opened;
        status_fits = f.status;
        offer_unit = h.flight.offers;
        retired_offer = f.retired;
        invited_outside = f.outside;
        invited_running = f.running;
        invited_room = f.room;
        stopped_queue = f.no_queue;
        stopped_units = λ e i u a. none-some (entry u) (sym (f.no_units e i) ∙ to-entry s i u a);
        stopped_offer = λ e. no_offer s h.flight (f.no_units e);
        stopped_claims = λ e r.
            no-claim (in_flight s) (producer_of s.producer) s.marks.branch s.marks.system (front_number s.queue n) c
            (f.no_units e) r;
      }

-- ── To the five parts ───────────────────────────────────────────────────────

module _ (s : State) (h : Invariant s) where
  abbrev seq_of : Entry → ℕ
  seq_of e = e.seq

  mark-kept
      : (m : Bool) (flag : Entry → Bool)
      → (m ≡ true) ↔ ((i : ℕ) × (u : FunctionalUnit) × Holds s i u × (flag (entry u) ≡ true))
      → ((i j : ℕ) (u v : FunctionalUnit) → Holds s i u → flag (entry u) ≡ true → Holds s j v → v.op.core.seq ≤ u.op.core.seq)
      → Marked m flag (in_flight s)
  mark-kept m flag k y =
      record {
        marks = λ i e a t. let v = from-entry s i e a in k.1 (i, v.0, v.1, ap flag v.2 ∙ t);
        marked = λ t. let w = k.0 t in (w.0, entry w.1, to-entry s w.0 w.1 w.2, w.3);
        youngest = λ i j e f a t b.
            let v = from-entry s i e a in
            let w = from-entry s j f b in
            let x = y i j v.0 w.0 v.1 (ap flag v.2 ∙ t) w.1 in
            omega (arith, x, ap seq_of v.2, ap seq_of w.2);
      }

  younger
      : (i : ℕ) (e : Entry) (u : FunctionalUnit) (k : ℕ) → entry u ≡ e
      → (k ≡ i) ⊎ ((v : FunctionalUnit) × Holds s k v × u.op.core.seq < v.op.core.seq)
      → (k ≡ i) ⊎ ((f : Entry) × (in_flight s k ≡ Some f) × e.seq < f.seq)
  younger i e u k q (inl z) = inl z
  younger i e u k q (inr (v, a, l)) =
      inr (entry v, to-entry s k v a, subst (λ (x : Entry). x.seq < v.op.core.seq) q l)

  kept-consistent
      : Consistent (in_flight s) (producer_of s.producer) s.marks.branch s.marks.system (front_number s.queue s.front.next_seq)
  kept-consistent =
      record {
        young = λ i e a.
            let v = from-entry s i e a in omega (arith, h.before_queue i v.0 v.1, ap seq_of v.2);
        apart = λ i j e f a b q.
            let v = from-entry s i e a in
            let w = from-entry s j f b in
            h.number_distinct i j v.0 w.0 v.1 w.1 (ap seq_of v.2 ∙ q ∙ sym (ap seq_of w.2));
        claims = λ i e r a m.
            let v = from-entry s i e a in
            h.claimed i v.0 r v.1 (subst (λ (x : Entry). In r x.destinations) (sym v.2) m);
        held = λ r i e. let w = h.claimant r i e in (entry w.0, to-entry s i w.0 w.1, w.2);
        waits = λ i e r k a m.
            let v = from-entry s i e a in
            let w = h.waits i v.0 r k v.1 (subst (λ (x : Entry). In {A = ℕ × ℕ} (r, k) x.pending) (sym v.2) m) in
            let x = w.2 in (
              subst (λ (y : Entry). In r y.sources) v.2 w.0,
              w.1,
              (entry x.0, to-entry s k x.0 x.1, subst (λ (y : Entry). x.0.op.core.seq < y.seq) v.2 x.2),
            );
        readers = λ i e r k a m w q.
            let v = from-entry s i e a in
            younger i e v.0 k v.2
            (h.unwaiting_older i v.0 r k v.1 (subst (λ (x : Entry). In r x.sources) (sym v.2) m)
            (λ j x. w j (subst (λ (y : Entry). In {A = ℕ × ℕ} (r, j) y.pending) v.2 x)) q);
        branch = mark-kept s.marks.branch (λ e. e.redirects) h.branch_mark h.branch_youngest;
        sys = mark-kept s.marks.system (λ e. e.system) h.system_mark h.system_youngest;
      }

  none-held : stops s ≡ true → (i : ℕ) → in_flight s i ≡ None
  none-held e i = go (in_flight s i) refl
    where
      go : (o : Option Entry) → in_flight s i ≡ o → o ≡ None
      go None q = refl
      go (Some x) q = let v = from-entry s i x q in absurd (h.stopped_units e i v.0 v.1)

  pub kept_of : Kept s
  kept_of =
      record {
        flight = record { core = kept-consistent; rising = h.queue_rising; offers = h.offer_unit };
        local = λ i u e.
            record {
              blank = h.free_blank i u e;
              fits = all-at (UnitFits (length s.machine.specs) (length s.names)) s.units i u e h.units_fit;
            };
        sizes =
            record {
              few = h.next_few;
              level = h.next_row_is_number;
              queued = h.queue_fits;
              short = h.queue_short;
              kinds = h.kinds_fit;
              built = h.units_built;
              deep = (h.depth_some, h.depth_few);
              long = (h.history_some, h.history_few);
              times = h.times_fit;
              names = h.names_fit;
              distinct = distinct-places s.names h.names_distinct;
              registers = h.producer_long;
              ids = h.rows_numbered;
              rows_few = h.rows_few;
              rows = h.rows_fit;
              counters = h.counters_fit;
            };
        front =
            record {
              outside = h.invited_outside;
              running = h.invited_running;
              room = h.invited_room;
              retired = h.retired_offer;
              traces = h.traces_few;
              opened = h.traces_open;
              status = h.status_fits;
              no_queue = h.stopped_queue;
              no_units = none-held;
            };
        names = h.names_with_queue;
      }

-- ── The theorems ────────────────────────────────────────────────────────────

-- A new engine.
pub invariant-made : (d : PipelineShape) (entry lent : ℕ) → make_refusal d lent ≡ None → Invariant (new d entry)
invariant-made d entry lent p = invariant-of (new d entry) (kept-made d entry lent p)

-- A call, refused or not.
pub invariant-kept : (s : State) (c : Call) → Invariant s → Invariant (after s c)
invariant-kept s c h = invariant-of (after s c) (kept-after s c (kept_of s h))

-- A list of calls.
pub invariant-runs : (s : State) (cs : List Call) → Invariant s → Invariant (runs s cs)
unfolding calls
invariant-runs s [] h = h
invariant-runs s (c ∷ cs) h = invariant-runs (after s c) cs (invariant-kept s c h)

-- Every engine that is made, after any calls.
pub invariant-always
    : (d : PipelineShape) (entry lent : ℕ) (cs : List Call) → make_refusal d lent ≡ None → Invariant (runs (new d entry) cs)
invariant-always d entry lent cs p = invariant-runs (new d entry) cs (invariant-made d entry lent p)
