-- The operations in flight stay consistent when an offer is completed, and up to the issue.
use Prim.Native.Nat.{ℕ}
use mathlib.Core.Path.{◌≡◌, refl, sym, ◌∙◌, ap, subst}
use mathlib.Core.Bool.{Bool, true, false, cond, not, ◌&&◌, ◌||◌}
use Rattle.std.specs.Prelude.{Option, None, Some, slice_get, option_map}
use mathlib.Core.List.{List, map}
use lib.Dec.{eqb}
use borrow.Author.Tests.{eqb-true, eqb-false, ne_eqb}
use Rattle.laws.specs.Lists.{modify}
use Rattle.laws.specs.Optional.{value_or}
use Rattle.laws.proofs.Maps.{nth-map}
use Rattle.laws.proofs.Choices.{none-some, some_inj}
use Rattle.model.specs.Config.{is_system}
use Rattle.model.specs.Issue.{complete_offer, issuing, start_ready, redirected, tick_execute}
use Rattle.model.specs.Registers.{producer_of, release_all}
use Rattle.model.specs.Scoreboard.{before_issue, close_cycle, closed, scoreboard, clear_status}
use Rattle.model.specs.State.{State, with_units, with_log, Log}
use Rattle.model.specs.Units.{FunctionalUnit, begin, clear, read_one, tick, unit_at, units, without_waits, idle_unit}
use Rattle.invariant.specs.Invariant.{In, front_number}
use Rattle.invariant.proofs.Lists.{omap-back, nth-same, nth-other}
use Rattle.invariant.proofs.Consistent.{Entry, Consistent, consistent-later, unwait, Left, consistent-left}
use Rattle.invariant.proofs.Tables.{releases-owed, releases-owes, releases-gone}
use Rattle.invariant.proofs.Entries.{entry, entry_at, in_flight, Flight, Unoffered, consistent-as, rising-front, entry-map, entry_other, entry-held, offered-self}

-- ── Completion ──────────────────────────────────────────────────────────────

entry-unwait : (i j : ℕ) (o : Option FunctionalUnit) → entry_at None j (option_map (without_waits i) o) ≡ option_map (unwait i) (entry_at None j o)
unfolding units
entry-unwait i j None = refl
entry-unwait i j (Some v) = go (v.busy || false)
  where
    go : (b : Bool) → cond b (Some (entry (without_waits i v))) None ≡ option_map (unwait i) (cond b (Some (entry v)) None)
    go true = refl
    go false = refl

entry-cleared : (i : ℕ) (o : Option FunctionalUnit) → entry_at None i (option_map (without_waits i) (option_map clear o)) ≡ None
unfolding units
entry-cleared i None = refl
entry-cleared i (Some u) = refl

module _ (i : ℕ) (us : List FunctionalUnit) (ps : List (Option ℕ)) (u : FunctionalUnit) (at : slice_get us i ≡ Some u) where
  abbrev c-before : ℕ → Option Entry
  c-before j = entry_at (Some i) j (slice_get us j)

  abbrev c-after : ℕ → Option Entry
  c-after j = entry_at None j (slice_get (map (without_waits i) (modify i clear us)) j)

  abbrev p-after : ℕ → Option ℕ
  p-after = producer_of (release_all i ps (unit_at us i).destinations)

  here-before : c-before i ≡ Some (entry (unit_at us i))
  unfolding units
  here-before =
      ap (entry_at (Some i) i) at ∙ entry-held (Some i) i u (offered-self i u)
      ∙ ap (λ (o : Option FunctionalUnit). Some (entry (value_or (idle_unit 0 0) o))) (sym at)

  gone : c-after i ≡ None
  gone =
      ap (entry_at None i) (nth-map (without_waits i) (modify i clear us) i ∙ ap (option_map (without_waits i)) (nth-same clear us i))
      ∙ entry-cleared i (slice_get us i)

  stays : (j : ℕ) → (j ≡ i → ⊥) → c-after j ≡ option_map (unwait i) (c-before j)
  stays j n =
      ap (entry_at None j) (nth-map (without_waits i) (modify i clear us) j ∙ ap (option_map (without_waits i)) (nth-other clear us i j n))
      ∙ entry-unwait i j (slice_get us j) ∙ ap (option_map (unwait i)) (sym (entry_other i j (slice_get us j) (ne_eqb j i n)))

  left
      : (b y : Bool) (lo : ℕ) → Consistent c-before (producer_of ps) b y lo → Left i c-before c-after (producer_of ps) p-after
  left b y lo h =
      record {
        kept = λ j f e n. stays j n ∙ ap (option_map (unwait i)) e;
        only = λ j g e. only-go j g e (eqb j i) refl;
        owed = λ r k e n. releases-owed i (unit_at us i).destinations ps r k e n;
        owes = λ r k e.
            let q = releases-owes i (unit_at us i).destinations ps r k e in (
              (λ z.
                  let w = h.held r i (q ∙ ap (λ (x : ℕ). Some x) z) in
                  let d : w.0 ≡ entry (unit_at us i) = some_inj w.0 (entry (unit_at us i)) (sym w.1 ∙ here-before) in
                  releases-gone i (unit_at us i).destinations ps r k (subst (λ (x : Entry). In r x.destinations) d w.2) e z),
              q,
            );
      }
    where
      only-go
          : (j : ℕ) (g : Entry) → c-after j ≡ Some g → (b : Bool) → eqb j i ≡ b
          → (j ≡ i → ⊥) × ((f : Entry) × (c-before j ≡ Some f) × (g ≡ unwait i f))
      only-go j g e true t = none-some g (sym (ap c-after (eqb-true j i t) ∙ gone) ∙ e)
      only-go j g e false t = let n = eqb-false j i t in
          let w = omap-back (unwait i) (c-before j) g (sym (stays j n) ∙ e) in
          (n, (w.0, w.1, sym w.2))

  pub consistent-completed
      : (b y : Bool) (lo : ℕ) → Consistent c-before (producer_of ps) b y lo
      → Consistent c-after p-after (not (unit_at us i).redirects && b) (not (is_system (unit_at us i).class) && y) lo
  consistent-completed b y lo h =
      consistent-left i c-before c-after (producer_of ps) p-after (left b y lo h) (entry (unit_at us i)) here-before b y lo h

pub unoffered-closed : (s : State) → Flight s → Unoffered (closed s)
unfolding scoreboard issuing
unoffered-closed s h = go s.offer.writing refl
  where
    go : (w : Option ℕ) → s.offer.writing ≡ w → Unoffered (close_cycle (complete_offer w s))
    go None e = record { core = h.core; rising = h.rising; no_offer = e }
    go (Some i) e =
        let a = (h.offers i e).1 in
        let lo = front_number s.queue s.front.next_seq in
        record {
          core =
              consistent-completed i s.units s.producer a.0 a.1 s.marks.branch s.marks.system lo
              (subst
              (λ (w : Option ℕ).
              Consistent (λ j. entry_at w j (slice_get s.units j)) (producer_of s.producer) s.marks.branch s.marks.system lo)
              e h.core);
          rising = h.rising;
          no_offer = refl;
        }

-- ── Before the issue ────────────────────────────────────────────────────────

unoffered-redirected : (r : Option ℕ) (s : State) → Unoffered s → Unoffered (redirected r s)
unfolding issuing
unoffered-redirected None s h = h
unoffered-redirected (Some n) s h =
    record {
      core =
          consistent-later (in_flight s) (producer_of s.producer) s.marks.branch s.marks.system
          (front_number s.queue s.front.next_seq) s.front.next_seq (rising-front s.queue s.front.next_seq h.rising)
          h.core;
      rising = tt;
      no_offer = h.no_offer;
    }

-- A step that maps the units, and keeps what they hold.
unoffered-mapped
    : (f : FunctionalUnit → FunctionalUnit) → ((u : FunctionalUnit) → (f u).busy ≡ u.busy)
    → ((u : FunctionalUnit) → entry (f u) ≡ entry u) → (s : State) → Unoffered s
    → Unoffered (with_units (map f s.units) s)
unoffered-mapped f kb ke s h =
    let n = front_number s.queue s.front.next_seq in
    record {
      core =
          consistent-as (in_flight s) (λ j. entry_at s.offer.writing j (slice_get (map f s.units) j)) (producer_of s.producer)
          (producer_of s.producer) s.marks.branch s.marks.system n n (λ j. entry-map f kb ke s.offer.writing j s.units)
          (λ r. refl) refl h.core;
      rising = h.rising;
      no_offer = h.no_offer;
    }

unoffered-log : (l : Log) (s : State) → Unoffered s → Unoffered (with_log l s)
unoffered-log l s h = record { core = h.core; rising = h.rising; no_offer = h.no_offer }

pub unoffered-before : (r : Option ℕ) (s : State) → Unoffered s → Unoffered (before_issue r s)
unfolding scoreboard units issuing
unoffered-before r s h =
    let s1 = redirected r (clear_status s) in
    let h1 : Unoffered s1 = unoffered-redirected r (clear_status s) (unoffered-log _ s h) in
    let s2 = tick_execute s1 in
    let h2 : Unoffered s2 = unoffered-mapped tick (λ u. refl) (λ u. refl) s1 h1 in
    let s3 = start_ready s2 in
    let h3 : Unoffered s3 = unoffered-mapped begin (λ u. refl) (λ u. refl) s2 h2 in
    unoffered-log _ (with_units (map read_one s3.units) s3)
    (unoffered-mapped read_one (λ u. refl) (λ u. refl) s3 h3)
