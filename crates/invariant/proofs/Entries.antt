-- What each unit holds, of a state, and the changes of units that keep it.
use Prim.Native.Nat.{ℕ, zero, suc, ◌≤◌, ◌<◌}
use native.Mathlib.Omega.{arith}
use mathlib.Core.Path.{◌≡◌, refl, sym, ◌∙◌, ap, ap₂, subst, fun_ext}
use mathlib.Core.Bool.{Bool, true, false, cond, ◌||◌}
use Rattle.std.specs.Prelude.{Option, None, Some, slice_get, option_map}
use mathlib.Core.List.{List, [], ◌∷◌, ◌++◌, map}
use lib.Dec.{eqb}
use borrow.Author.Tests.{eqb-true, eqb-false, eq-eqb}
use Rattle.laws.specs.Lists.{modify}
use Rattle.laws.proofs.Maps.{nth-map}
use Rattle.laws.proofs.Choices.{none-some}
use Rattle.capability.specs.declared.PipelineHazardKind.{PipelineHazardKind}
use Rattle.model.specs.Config.{is_system}
use Rattle.model.specs.Op.{Op, with_hazard}
use Rattle.model.specs.Registers.{producer_of}
use Rattle.model.specs.State.{State}
use Rattle.model.specs.Units.{FunctionalUnit, mark_hazard, units, with_busy}
use Rattle.model.specs.Write.{Blocked, blocked_kind, mark_blocked, writing}
use Rattle.invariant.specs.Invariant.{offered, occupied, OnOffer, front_number, Rising}
use Rattle.invariant.proofs.Lists.{map-modified, nth-same, nth-other}
use Rattle.invariant.proofs.Consistent.{Entry, Consistent}
use Rattle.invariant.proofs.Bools.{or-true, or-false}

-- ── What a unit holds ───────────────────────────────────────────────────────

abbrev pub entry : FunctionalUnit → Entry
entry u =
    record {
      seq = u.op.core.seq;
      redirects = u.redirects;
      system = is_system u.class;
      sources = u.sources;
      destinations = u.destinations;
      pending = u.pending;
    }

abbrev pub entry_at : Option ℕ → ℕ → Option FunctionalUnit → Option Entry
entry_at w i None = None
entry_at w i (Some u) = cond (occupied w i u) (Some (entry u)) None

abbrev pub in_flight : State → ℕ → Option Entry
in_flight s i = entry_at s.offer.writing i (slice_get s.units i)

abbrev pub ConsistentOf : State → Type 0
ConsistentOf s =
    Consistent (in_flight s) (producer_of s.producer) s.marks.branch s.marks.system
    (front_number s.queue s.front.next_seq)

pub record Flight (s : State) : Type 0 where
  pub core : ConsistentOf s
  pub rising : Rising s.queue s.front.next_seq
  pub offers : (i : ℕ) → s.offer.writing ≡ Some i → (s.front.in_cycle ≡ true) × OnOffer s.units i

-- Between an offer and the next.
pub record Unoffered (s : State) : Type 0 where
  pub core : ConsistentOf s
  pub rising : Rising s.queue s.front.next_seq
  pub no_offer : s.offer.writing ≡ None

pub unoffered-flight : (s : State) → Unoffered s → Flight s
unoffered-flight s h =
    record { core = h.core; rising = h.rising; offers = λ i k. none-some i (sym h.no_offer ∙ k) }

pub consistent-as
    : (c c' : ℕ → Option Entry) (p p' : ℕ → Option ℕ) (b y : Bool) (lo lo' : ℕ) → ((i : ℕ) → c' i ≡ c i) → ((r : ℕ) → p' r ≡ p r) → lo' ≡ lo
    → Consistent c p b y lo → Consistent c' p' b y lo'
consistent-as c c' p p' b y lo lo' hc hp hl h =
    subst (λ (z : ℕ → Option Entry). Consistent z p' b y lo') (sym (fun_ext hc))
    (subst (λ (z : ℕ → Option ℕ). Consistent c z b y lo') (sym (fun_ext hp)) (subst (λ (z : ℕ). Consistent c p b y z) (sym hl) h))

-- ── The queue's numbers ─────────────────────────────────────────────────────

pub rising-front : (q : List Op) (n : ℕ) → Rising q n → front_number q n ≤ n
rising-front [] n h = omega arith
rising-front (o ∷ q) n h = omega (arith, h.0, rising-front q n h.1)

pub front-mapped : (x : Option PipelineHazardKind) (q : List Op) (n : ℕ) → front_number (map (with_hazard x) q) n ≡ front_number q n
front-mapped x [] n = refl
front-mapped x (o ∷ q) n = refl

pub rising-mapped : (x : Option PipelineHazardKind) (q : List Op) (n : ℕ) → Rising q n → Rising (map (with_hazard x) q) n
rising-mapped x [] n h = tt
rising-mapped x (o ∷ q) n h = (subst (λ (k : ℕ). o.core.seq < k) (sym (front-mapped x q n)) h.0, rising-mapped x q n h.1)

pub front-first : (x : Option PipelineHazardKind) (q : List Op) (n : ℕ) → front_number (modify 0 (with_hazard x) q) n ≡ front_number q n
unfolding modify
front-first x [] n = refl
front-first x (o ∷ q) n = refl

pub rising-first : (x : Option PipelineHazardKind) (q : List Op) (n : ℕ) → Rising q n → Rising (modify 0 (with_hazard x) q) n
unfolding modify
rising-first x [] n h = h
rising-first x (o ∷ q) n h = h

pub front-last : (q : List Op) (o : Op) (n m : ℕ) → o.core.seq ≡ n → front_number (q ++ (o ∷ [])) m ≡ front_number q n
front-last [] o n m h = h
front-last (x ∷ q) o n m h = refl

pub rising-last : (q : List Op) (o : Op) (n m : ℕ) → o.core.seq ≡ n → n < m → Rising q n → Rising (q ++ (o ∷ [])) m
rising-last [] o n m e l h = (omega arith, tt)
rising-last (x ∷ q) o n m e l h = (rw (front-last q o n m e) h.0, rising-last q o n m e l h.1)

-- ── Changes that keep what a unit holds ─────────────────────────────────────

module _ (f : FunctionalUnit → FunctionalUnit) (kb : (u : FunctionalUnit) → (f u).busy ≡ u.busy) (ke : (u : FunctionalUnit) → entry (f u) ≡ entry u) where
  pub entry_kept : (w : Option ℕ) (k : ℕ) (o : Option FunctionalUnit) → entry_at w k (option_map f o) ≡ entry_at w k o
  entry_kept w k None = refl
  entry_kept w k (Some u) = ap₂ (λ (b : Bool) (e : Entry). cond (b || offered w k) (Some e) None) (kb u) (ke u)

  pub entry-map : (w : Option ℕ) (k : ℕ) (us : List FunctionalUnit) → entry_at w k (slice_get (map f us) k) ≡ entry_at w k (slice_get us k)
  entry-map w k us = ap (entry_at w k) (nth-map f us k) ∙ entry_kept w k (slice_get us k)

  pub entry-modify
      : (w : Option ℕ) (k j : ℕ) (us : List FunctionalUnit) (i : ℕ) → entry_at w k (slice_get (modify j f us) i) ≡ entry_at w k (slice_get us i)
  unfolding modify
  entry-modify w k j [] i = refl
  entry-modify w k zero (u ∷ us) zero = entry_kept w k (Some u)
  entry-modify w k zero (u ∷ us) (suc i) = refl
  entry-modify w k (suc j) (u ∷ us) zero = refl
  entry-modify w k (suc j) (u ∷ us) (suc i) = entry-modify w k j us i

pub entry-marked
    : (w : Option ℕ) (bs : List (ℕ × Blocked)) (us : List FunctionalUnit) (k : ℕ)
    → entry_at w k (slice_get (mark_blocked bs us) k) ≡ entry_at w k (slice_get us k)
unfolding writing units
entry-marked w [] us k = refl
entry-marked w (b ∷ bs) us k =
    entry-marked w bs (modify b.0 (mark_hazard (blocked_kind b.1)) us) k
    ∙ entry-modify _ (λ u. refl) (λ u. refl) w k b.0 us k

-- What does not see a hazard does not see the marks of a start.
pub marked-same
    : {B : Type 0} (e : FunctionalUnit → B) → ((x : PipelineHazardKind) (u : FunctionalUnit) → e (mark_hazard x u) ≡ e u)
    → (bs : List (ℕ × Blocked)) (us : List FunctionalUnit) → map e (mark_blocked bs us) ≡ map e us
unfolding writing
marked-same e r [] us = refl
marked-same e r (b ∷ bs) us =
    marked-same e r bs (modify b.0 (mark_hazard (blocked_kind b.1)) us)
    ∙ map-modified e (mark_hazard (blocked_kind b.1)) (r (blocked_kind b.1)) b.0 us

pub entry_other : (i j : ℕ) (o : Option FunctionalUnit) → eqb j i ≡ false → entry_at (Some i) j o ≡ entry_at None j o
entry_other i j None e = refl
entry_other i j (Some v) e = ap (λ (b : Bool). cond (v.busy || b) (Some (entry v)) None) e

pub entry-held : (w : Option ℕ) (i : ℕ) (u : FunctionalUnit) → occupied w i u ≡ true → entry_at w i (Some u) ≡ Some (entry u)
entry-held w i u h = ap (λ (b : Bool). cond b (Some (entry u)) None) h

pub entry-empty : (w : Option ℕ) (i : ℕ) (u : FunctionalUnit) → occupied w i u ≡ false → entry_at w i (Some u) ≡ None
entry-empty w i u h = ap (λ (b : Bool). cond b (Some (entry u)) None) h

pub offered-self : (i : ℕ) (u : FunctionalUnit) → occupied (Some i) i u ≡ true
offered-self i u = ap (λ (b : Bool). u.busy || b) (eq-eqb i i refl) ∙ or-true u.busy

-- An operation is offered, or put back: it stays in flight.
pub entry-out
    : (us : List FunctionalUnit) (i : ℕ) (u : FunctionalUnit) → slice_get us i ≡ Some u → u.busy ≡ true → (j : ℕ)
    → entry_at (Some i) j (slice_get (modify i (with_busy false) us) j) ≡ entry_at None j (slice_get us j)
entry-out us i u h b j = go (eqb j i) refl
  where
    at_i : entry_at (Some i) i (slice_get (modify i (with_busy false) us) i) ≡ entry_at None i (slice_get us i)
    at_i =
        ap (entry_at (Some i) i) (nth-same (with_busy false) us i ∙ ap (option_map (with_busy false)) h)
        ∙ entry-held (Some i) i (with_busy false u) (offered-self i (with_busy false u))
        ∙ sym (ap (entry_at None i) h ∙ entry-held None i u (or-false u.busy ∙ b))

    go : (d : Bool) → eqb j i ≡ d → entry_at (Some i) j (slice_get (modify i (with_busy false) us) j) ≡ entry_at None j (slice_get us j)
    go true e =
        subst (λ (z : ℕ). entry_at (Some i) z (slice_get (modify i (with_busy false) us) z) ≡ entry_at None z (slice_get us z)) (sym (eqb-true j i e)) at_i
    go false e =
        ap (entry_at (Some i) j) (nth-other (with_busy false) us i j (eqb-false j i e)) ∙ entry_other i j (slice_get us j) e

pub entry-back
    : (us : List FunctionalUnit) (i j : ℕ) → entry_at None j (slice_get (modify i (with_busy true) us) j) ≡ entry_at (Some i) j (slice_get us j)
entry-back us i j = go (eqb j i) refl
  where
    at_i : (o : Option FunctionalUnit) → entry_at None i (option_map (with_busy true) o) ≡ entry_at (Some i) i o
    at_i None = refl
    at_i (Some u) = sym (entry-held (Some i) i u (offered-self i u))

    go : (d : Bool) → eqb j i ≡ d → entry_at None j (slice_get (modify i (with_busy true) us) j) ≡ entry_at (Some i) j (slice_get us j)
    go true e =
        subst (λ (z : ℕ). entry_at None z (slice_get (modify i (with_busy true) us) z) ≡ entry_at (Some i) z (slice_get us z)) (sym (eqb-true j i e))
        (ap (entry_at None i) (nth-same (with_busy true) us i) ∙ at_i (slice_get us i))
    go false e = ap (entry_at None j) (nth-other (with_busy true) us i j (eqb-false j i e)) ∙ sym (entry_other i j (slice_get us j) e)
