-- The operations in flight, over plain functions: what is consistent stays so when one enters a unit, leaves one, or all are dropped.
use Prim.Native.Nat.{ℕ, ◌≤◌, ◌<◌}
use native.Mathlib.Omega.{arith}
use mathlib.Core.Path.{◌≡◌, refl, sym, ◌∙◌, ap, subst}
use mathlib.Core.Bool.{Bool, true, false, not, ◌&&◌, false≢true}
use Rattle.std.specs.Prelude.{Option, None, Some}
use mathlib.Core.List.{List}
use mathlib.Core.Logic.{◌⊎◌, inl, inr}
use lib.Dec.{eqb}
use borrow.Author.Tests.{eq-eqb, ne_eqb}
use Rattle.laws.specs.Lists.{keep}
use Rattle.laws.proofs.Choices.{none-some, some_inj}
use Rattle.invariant.specs.Invariant.{In}
use Rattle.invariant.proofs.Lists.{in-keep, keep-in}
use Rattle.invariant.proofs.Bools.{and_both}

-- ── The record ──────────────────────────────────────────────────────────────

-- What counts of a unit whose operation is in flight.
pub record Entry : Type 0 where
  pub seq : ℕ
  pub redirects : Bool
  pub system : Bool
  pub sources : List ℕ
  pub destinations : List ℕ
  pub pending : List (ℕ × ℕ)

-- A mark stands exactly while an operation with the flag is in flight, and nothing in flight is younger than that one.
pub record Marked (m : Bool) (flag : Entry → Bool) (c : ℕ → Option Entry) : Type 0 where
  pub marks : (i : ℕ) (e : Entry) → c i ≡ Some e → flag e ≡ true → m ≡ true
  pub marked : m ≡ true → (i : ℕ) × (e : Entry) × (c i ≡ Some e) × (flag e ≡ true)
  pub youngest : (i j : ℕ) (e f : Entry) → c i ≡ Some e → flag e ≡ true → c j ≡ Some f → f.seq ≤ e.seq

-- `c i` is what unit i holds (busy or on offer), `p r` is the unit that claims register r, `b` and `y` are the two marks,
-- `lo` is the least number that no unit has had yet.
pub record Consistent (c : ℕ → Option Entry) (p : ℕ → Option ℕ) (b y : Bool) (lo : ℕ) : Type 0 where
  -- Numbers in units are below those to come, and distinct.
  pub young : (i : ℕ) (e : Entry) → c i ≡ Some e → e.seq < lo
  pub apart : (i j : ℕ) (e f : Entry) → c i ≡ Some e → c j ≡ Some f → e.seq ≡ f.seq → i ≡ j
  -- A destination in flight is claimed by its unit; a claim is held by a unit in flight that writes it.
  pub claims : (i : ℕ) (e : Entry) (r : ℕ) → c i ≡ Some e → In r e.destinations → p r ≡ Some i
  pub held : (r i : ℕ) → p r ≡ Some i → (e : Entry) × (c i ≡ Some e) × In r e.destinations
  -- A wait for register r by unit k: a source, claimed by k, which is in flight and older.
  pub waits
      : (i : ℕ) (e : Entry) (r k : ℕ) → c i ≡ Some e → In (r, k) e.pending
      → In r e.sources × (p r ≡ Some k) × ((f : Entry) × (c k ≡ Some f) × f.seq < e.seq)
  -- A reader that does not wait for a register is older than another unit that claims it.
  pub readers
      : (i : ℕ) (e : Entry) (r k : ℕ) → c i ≡ Some e → In r e.sources → ((m : ℕ) → In (r, m) e.pending → ⊥) → p r ≡ Some k
      → (k ≡ i) ⊎ ((f : Entry) × (c k ≡ Some f) × e.seq < f.seq)
  pub branch : Marked b (λ e. e.redirects) c
  pub sys : Marked y (λ e. e.system) c

-- ── Nothing in flight ───────────────────────────────────────────────────────

pub mark-none : (flag : Entry → Bool) (c : ℕ → Option Entry) → ((i : ℕ) → c i ≡ None) → Marked false flag c
mark-none flag c n =
    record {
      marks = λ i e h t. none-some e (sym (n i) ∙ h);
      marked = λ h. absurd (false≢true h);
      youngest = λ i j e f h t k. none-some e (sym (n i) ∙ h);
    }

pub consistent-none
    : (c : ℕ → Option Entry) (p : ℕ → Option ℕ) (lo : ℕ) → ((i : ℕ) → c i ≡ None) → ((r : ℕ) → p r ≡ None)
    → Consistent c p false false lo
consistent-none c p lo n q =
    record {
      young = λ i e h. none-some e (sym (n i) ∙ h);
      apart = λ i j e f h k x. none-some e (sym (n i) ∙ h);
      claims = λ i e r h k. none-some e (sym (n i) ∙ h);
      held = λ r i h. none-some i (sym (q r) ∙ h);
      waits = λ i e r k h w. none-some e (sym (n i) ∙ h);
      readers = λ i e r k h w x z. none-some e (sym (n i) ∙ h);
      branch = mark-none (λ e. e.redirects) c n;
      sys = mark-none (λ e. e.system) c n;
    }

-- ── The numbers to come are further on ──────────────────────────────────────

pub consistent-later
    : (c : ℕ → Option Entry) (p : ℕ → Option ℕ) (b y : Bool) (lo hi : ℕ) → lo ≤ hi → Consistent c p b y lo → Consistent c p b y hi
consistent-later c p b y lo hi l h =
    record {
      young = λ i e k. let x = h.young i e k in omega arith;
      apart = h.apart;
      claims = h.claims;
      held = h.held;
      waits = h.waits;
      readers = h.readers;
      branch = h.branch;
      sys = h.sys;
    }

-- ── An operation leaves ─────────────────────────────────────────────────────

abbrev pub waits-not : ℕ → (ℕ × ℕ) → Bool
waits-not i w = not (eqb w.1 i)

abbrev pub unwait : ℕ → Entry → Entry
unwait i e =
    record {
      seq = e.seq;
      redirects = e.redirects;
      system = e.system;
      sources = e.sources;
      destinations = e.destinations;
      pending = keep (waits-not i) e.pending;
    }

-- c' and p' are c and p without unit i.
pub record Left (i : ℕ) (c c' : ℕ → Option Entry) (p p' : ℕ → Option ℕ) : Type 0 where
  pub kept : (j : ℕ) (f : Entry) → c j ≡ Some f → (j ≡ i → ⊥) → c' j ≡ Some (unwait i f)
  pub only : (j : ℕ) (g : Entry) → c' j ≡ Some g → (j ≡ i → ⊥) × ((f : Entry) × (c j ≡ Some f) × (g ≡ unwait i f))
  pub owed : (r k : ℕ) → p r ≡ Some k → (k ≡ i → ⊥) → p' r ≡ Some k
  pub owes : (r k : ℕ) → p' r ≡ Some k → (k ≡ i → ⊥) × (p r ≡ Some k)

not-of : (a : Bool) → not a ≡ true → a ≡ true → ⊥
not-of true h k = false≢true h
not-of false h k = false≢true k

ne-not : (k i : ℕ) → (k ≡ i → ⊥) → not (eqb k i) ≡ true
ne-not k i h = ap not (ne_eqb k i h)

not-ne : (k i : ℕ) → not (eqb k i) ≡ true → k ≡ i → ⊥
not-ne k i h e = not-of (eqb k i) h (eq-eqb k i e)

module _ (i : ℕ) (c c' : ℕ → Option Entry) (p p' : ℕ → Option ℕ) (l : Left i c c' p p') (u : Entry) (at : c i ≡ Some u) where
  mark-left
      : (m : Bool) (flag : Entry → Bool) → ((e : Entry) → flag (unwait i e) ≡ flag e)
      → ((j k : ℕ) (e f : Entry) → c j ≡ Some e → c k ≡ Some f → e.seq ≡ f.seq → j ≡ k)
      → Marked m flag c → Marked (not (flag u) && m) flag c'
  mark-left m flag r apart h =
      record {
        marks = λ j g k t.
            let o = l.only j g k in
            let f = o.1.0 in
            let ft : flag f ≡ true = sym (r f) ∙ sym (ap flag o.1.2) ∙ t in
            marks-go j f o.0 o.1.1 ft (flag u) refl;
        marked = λ t.
            let a = and_both (not (flag u)) m t in
            let w = h.marked a.1 in (
              w.0,
              unwait i w.1,
              l.kept w.0 w.1 w.2 (λ e. not-of (flag u) a.0 (sym (ap flag (same-entry w.0 w.1 w.2 e)) ∙ w.3)),
              r w.1 ∙ w.3,
            );
        youngest = λ j k e f hj t hk.
            let o = l.only j e hj in
            let q = l.only k f hk in
            let x : q.1.0.seq ≤ o.1.0.seq
            = h.youngest j k o.1.0 q.1.0 o.1.1 (sym (r o.1.0) ∙ sym (ap flag o.1.2) ∙ t) q.1.1 in
            subst (λ (z : Entry). f.seq ≤ z.seq) (sym o.1.2) (subst (λ (z : Entry). z.seq ≤ o.1.0.seq) (sym q.1.2) x);
      }
    where
      same-entry : (j : ℕ) (e : Entry) → c j ≡ Some e → j ≡ i → e ≡ u
      same-entry j e k q = some_inj e u (sym k ∙ ap c q ∙ at)

      marks-go : (j : ℕ) (f : Entry) → (j ≡ i → ⊥) → c j ≡ Some f → flag f ≡ true → (d : Bool) → flag u ≡ d → (not (flag u) && m) ≡ true
      marks-go j f ne k t true e =
          let x = h.youngest i j u f at e k in
          let z = h.youngest j i f u k t at in
          absurd (ne (apart j i f u k at (omega arith)))
      marks-go j f ne k t false e = rw e (h.marks j f k t)

  pub consistent-left : (b y : Bool) (lo : ℕ) → Consistent c p b y lo → Consistent c' p' (not u.redirects && b) (not u.system && y) lo
  consistent-left b y lo h =
      record {
        young = λ j g k.
            let o = l.only j g k in
            subst (λ (z : Entry). z.seq < lo) (sym o.1.2) (h.young j o.1.0 o.1.1);
        apart = λ j k e f hj hk q.
            let o = l.only j e hj in
            let x = l.only k f hk in
            h.apart j k o.1.0 x.1.0 o.1.1 x.1.1
            (sym (ap (λ (z : Entry). z.seq) o.1.2) ∙ q ∙ ap (λ (z : Entry). z.seq) x.1.2);
        claims = λ j g r k n.
            let o = l.only j g k in
            l.owed r j (h.claims j o.1.0 r o.1.1 (subst (λ (z : Entry). In r z.destinations) o.1.2 n)) o.0;
        held = λ r j k.
            let o = l.owes r j k in
            let w = h.held r j o.1 in
            (unwait i w.0, l.kept j w.0 w.1 o.0, w.2);
        waits = λ j g r k hj n.
            let o = l.only j g hj in
            let n' = in-keep (waits-not i) (r, k) o.1.0.pending (subst (λ (z : Entry). In (r, k) z.pending) o.1.2 n) in
            let w = h.waits j o.1.0 r k o.1.1 n'.0 in
            let ne : (k ≡ i → ⊥) = not-ne k i n'.1 in (
              subst (λ (z : Entry). In r z.sources) (sym o.1.2) w.0,
              l.owed r k w.1 ne,
              (unwait i w.2.0, l.kept k w.2.0 w.2.1 ne, subst (λ (z : Entry). w.2.0.seq < z.seq) (sym o.1.2) w.2.2),
            );
        readers = λ j g r k hj n w hp.
            let o = l.only j g hj in
            let f = o.1.0 in
            let q = l.owes r k hp in
            let free : (m : ℕ) → In (r, m) f.pending → ⊥
            = λ m x.
            let z = h.waits j f r m o.1.1 x in
            let mk : m ≡ k = some_inj m k (sym z.1 ∙ q.1) in
            w m
            (subst (λ (z : Entry). In (r, m) z.pending) (sym o.1.2)
            (keep-in (waits-not i) (r, m) f.pending x (ne-not m i (λ e. q.0 (sym mk ∙ e))))) in
            done j g f r k o.1.2 q.0
            (h.readers j f r k o.1.1 (subst (λ (z : Entry). In r z.sources) o.1.2 n) free q.1);
        branch = mark-left b (λ e. e.redirects) (λ e. refl) h.apart h.branch;
        sys = mark-left y (λ e. e.system) (λ e. refl) h.apart h.sys;
      }
    where
      done
          : (j : ℕ) (g f : Entry) (r k : ℕ) → g ≡ unwait i f → (k ≡ i → ⊥) → (k ≡ j) ⊎ ((x : Entry) × (c k ≡ Some x) × f.seq < x.seq)
          → (k ≡ j) ⊎ ((x : Entry) × (c' k ≡ Some x) × g.seq < x.seq)
      done j g f r k e ne (inl q) = inl q
      done j g f r k e ne (inr (x, q, a)) =
          inr (unwait i x, l.kept k x q ne, subst (λ (z : Entry). z.seq < x.seq) (sym e) a)

-- ── An operation enters ─────────────────────────────────────────────────────

-- c' and p' are c and p with operation u in unit i.
pub record Entered (i : ℕ) (u : Entry) (c c' : ℕ → Option Entry) (p p' : ℕ → Option ℕ) : Type 0 where
  pub was_free : c i ≡ None
  pub here : c' i ≡ Some u
  pub kept : (j : ℕ) (f : Entry) → c j ≡ Some f → c' j ≡ Some f
  pub only : (j : ℕ) (g : Entry) → c' j ≡ Some g → ((j ≡ i) × (g ≡ u)) ⊎ (c j ≡ Some g)
  pub unclaimed : (r : ℕ) → In r u.destinations → p r ≡ None
  pub waits_for : (r k : ℕ) → In (r, k) u.pending → In r u.sources × (p r ≡ Some k)
  pub waits_all : (r k : ℕ) → In r u.sources → p r ≡ Some k → In (r, k) u.pending
  pub claimed : (r : ℕ) → In r u.destinations → p' r ≡ Some i
  pub owed : (r k : ℕ) → p r ≡ Some k → p' r ≡ Some k
  pub owes : (r k : ℕ) → p' r ≡ Some k → ((k ≡ i) × In r u.destinations) ⊎ (p r ≡ Some k)

module _ (i : ℕ) (u : Entry) (c c' : ℕ → Option Entry) (p p' : ℕ → Option ℕ) (n : Entered i u c c' p p') where
  mark-entered
      : (flag : Entry → Bool) → ((j : ℕ) (e : Entry) → c j ≡ Some e → e.seq < u.seq) → Marked false flag c → Marked (flag u) flag c'
  mark-entered flag young h =
      record {
        marks = λ j g k t. marks-go j g t (n.only j g k);
        marked = λ t. (i, u, n.here, t);
        youngest = λ j k e f hj t hk. young-go j e f t (n.only j e hj) (n.only k f hk);
      }
    where
      marks-go : (j : ℕ) (g : Entry) → flag g ≡ true → ((j ≡ i) × (g ≡ u)) ⊎ (c j ≡ Some g) → flag u ≡ true
      marks-go j g t (inl (a, q)) = sym (ap flag q) ∙ t
      marks-go j g t (inr k) = absurd (false≢true (h.marks j g k t))

      young-go
          : {k : ℕ} (j : ℕ) (e f : Entry) → flag e ≡ true → ((j ≡ i) × (e ≡ u)) ⊎ (c j ≡ Some e) → ((k ≡ i) × (f ≡ u)) ⊎ (c k ≡ Some f)
          → f.seq ≤ e.seq
      young-go {k} j e f t (inr a) z = absurd (false≢true (h.marks j e a t))
      young-go {k} j e f t (inl (a, q)) (inl (a', q')) =
          let x : f.seq ≡ e.seq = ap (λ (z : Entry). z.seq) (q' ∙ sym q) in omega arith
      young-go {k} j e f t (inl (a, q)) (inr d) =
          let x : e.seq ≡ u.seq = ap (λ (z : Entry). z.seq) q in
          let y = young k f d in
          omega arith

  pub consistent-entered
      : (lo : ℕ) → u.seq < lo → Consistent c p false false u.seq → Consistent c' p' u.redirects u.system lo
  consistent-entered lo l h =
      record {
        young = λ j g k. young-go j g (n.only j g k);
        apart = λ j k e f hj hk q. apart-go j k e f q (n.only j e hj) (n.only k f hk);
        claims = λ j g r k m. claims-go j g r m (n.only j g k);
        held = λ r k q. held-go r k (n.owes r k q);
        waits = λ j g r k hj m. waits-go j g r k m (n.only j g hj);
        readers = λ j g r k hj m w hp. readers-go j g r k m w (n.only j g hj) (n.owes r k hp);
        branch = mark-entered (λ e. e.redirects) h.young h.branch;
        sys = mark-entered (λ e. e.system) h.young h.sys;
      }
    where
      young-go : (j : ℕ) (g : Entry) → ((j ≡ i) × (g ≡ u)) ⊎ (c j ≡ Some g) → g.seq < lo
      young-go j g (inl (a, q)) = subst (λ (z : Entry). z.seq < lo) (sym q) l
      young-go j g (inr k) = let x = h.young j g k in omega arith

      apart-go
          : (j k : ℕ) (e f : Entry) → e.seq ≡ f.seq → ((j ≡ i) × (e ≡ u)) ⊎ (c j ≡ Some e) → ((k ≡ i) × (f ≡ u)) ⊎ (c k ≡ Some f) → j ≡ k
      apart-go j k e f q (inl (a, b)) (inl (a', b')) = a ∙ sym a'
      apart-go j k e f q (inl (a, b)) (inr d) =
          let x = h.young k f d in let y = ap (λ (z : Entry). z.seq) b in omega arith
      apart-go j k e f q (inr d) (inl (a, b)) =
          let x = h.young j e d in let y = ap (λ (z : Entry). z.seq) b in omega arith
      apart-go j k e f q (inr d) (inr d') = h.apart j k e f d d' q

      claims-go : (j : ℕ) (g : Entry) (r : ℕ) → In r g.destinations → ((j ≡ i) × (g ≡ u)) ⊎ (c j ≡ Some g) → p' r ≡ Some j
      claims-go j g r m (inl (a, q)) =
          n.claimed r (subst (λ (z : Entry). In r z.destinations) q m) ∙ ap (λ (z : ℕ). Some z) (sym a)
      claims-go j g r m (inr k) = n.owed r j (h.claims j g r k m)

      held-go : (r k : ℕ) → ((k ≡ i) × In r u.destinations) ⊎ (p r ≡ Some k) → (e : Entry) × (c' k ≡ Some e) × In r e.destinations
      held-go r k (inl (a, m)) = (u, ap c' a ∙ n.here, m)
      held-go r k (inr q) = let w = h.held r k q in (w.0, n.kept k w.0 w.1, w.2)

      waits-go
          : (j : ℕ) (g : Entry) (r k : ℕ) → In (r, k) g.pending → ((j ≡ i) × (g ≡ u)) ⊎ (c j ≡ Some g)
          → In r g.sources × (p' r ≡ Some k) × ((f : Entry) × (c' k ≡ Some f) × f.seq < g.seq)
      waits-go j g r k m (inl (a, q)) =
          let w = n.waits_for r k (subst (λ (z : Entry). In (r, k) z.pending) q m) in
          let d = h.held r k w.1 in (
            subst (λ (z : Entry). In r z.sources) (sym q) w.0,
            n.owed r k w.1,
            (d.0, n.kept k d.0 d.1, subst (λ (z : Entry). d.0.seq < z.seq) (sym q) (h.young k d.0 d.1)),
          )
      waits-go j g r k m (inr x) =
          let w = h.waits j g r k x m in
          (w.0, n.owed r k w.1, (w.2.0, n.kept k w.2.0 w.2.1, w.2.2))

      later
          : (j k : ℕ) (g : Entry) → (k ≡ j) ⊎ ((f : Entry) × (c k ≡ Some f) × g.seq < f.seq)
          → (k ≡ j) ⊎ ((f : Entry) × (c' k ≡ Some f) × g.seq < f.seq)
      later j k g (inl e) = inl e
      later j k g (inr (f, d, a)) = inr (f, n.kept k f d, a)

      readers-go
          : (j : ℕ) (g : Entry) (r k : ℕ) → In r g.sources → ((m : ℕ) → In (r, m) g.pending → ⊥)
          → ((j ≡ i) × (g ≡ u)) ⊎ (c j ≡ Some g)
          → ((k ≡ i) × In r u.destinations) ⊎ (p r ≡ Some k) → (k ≡ j) ⊎ ((f : Entry) × (c' k ≡ Some f) × g.seq < f.seq)
      readers-go j g r k m w (inl (a, q)) (inl (a', d)) = inl (a' ∙ sym a)
      readers-go j g r k m w (inl (a, q)) (inr o) =
          absurd (w k (subst (λ (z : Entry). In (r, k) z.pending) (sym q) (n.waits_all r k (subst (λ (z : Entry). In r z.sources) q m) o)))
      readers-go j g r k m w (inr x) (inl (a, d)) =
          inr (u, ap c' a ∙ n.here, h.young j g x)
      readers-go j g r k m w (inr x) (inr o) = later j k g (h.readers j g r k x m w o)
