-- Issue: the engine's conditions are the book's and the two marks, and its bookkeeping is the book's.
use Prim.Native.Nat.{ℕ, zero, suc, ◌+◌, ◌<◌, ◌≤◌}
use native.Mathlib.Omega.{arith}
use mathlib.Core.Path.{◌≡◌, refl, sym, ◌∙◌, ap, ap₂, subst, fun_ext}
use mathlib.Core.Bool.{Bool, true, false, cond, not, ◌&&◌, false≢true, true≢false}
use Rattle.std.specs.Prelude.{Option, None, Some, slice_get, is_some, option_map}
use mathlib.Core.List.{List, [], ◌∷◌, map}
use mathlib.Core.Logic.{◌⊎◌, inl, inr, ◌↔◌}
use lib.Dec.{eqb}
use lib.ListN.{length}
use borrow.Author.Tests.{eqb-true, eqb-false, eq-eqb}
use Rattle.laws.specs.Lists.{find_at, lists, modify}
use Rattle.std.specs.List.{list_any}
use Rattle.laws.specs.Optional.{is_none}
use Rattle.std.specs.Option.{option_or}
use Rattle.laws.specs.Texts.{Text}
use Rattle.laws.proofs.Choices.{none-some, some_inj}
use Rattle.laws.proofs.Maps.{modify-map}
use Rattle.laws.proofs.Tests.{lt-or-ge}
use Rattle.capability.specs.declared.PipelineHazardKind.{PipelineHazardKind}
use Rattle.capability.specs.declared.PipelineHazardKind.TheVariants.{BranchFlush, FunctionalUnitBusy, WriteAfterWrite}
use Rattle.model.specs.Config.{spec_index}
use Rattle.model.specs.Issue.{block_issue, free_unit, is_free, issue, issue_choose, issue_front, issue_to, issuing, learn, place, taken, waits_on}
use Rattle.model.specs.Op.{Op, with_hazard}
use Rattle.model.specs.Registers.{claim_all, producer_of}
use Rattle.model.specs.State.{State}
use Rattle.model.specs.Traces.{Detail}
use Rattle.model.specs.Units.{FunctionalUnit, occupy, units}
use Rattle.model.specs.Views.{owed}
use Rattle.runs.proofs.Names.{resolve-written}
use Rattle.invariant.specs.Invariant.{In}
use Rattle.invariant.proofs.Bools.{and_both}
use Rattle.invariant.proofs.Issued.{free-found}
use Rattle.invariant.proofs.Lists.{all_in, find-miss, in-dec, length-modify, nth-other, nth-same}
use Rattle.invariant.proofs.Tables.{at-known, claims-in, claims-out, in-waits, pad-long, pad-same, taken_none, taken-some, waits_in}
use Rattle.book.specs.Book.{source, Status, status, book, claimed_by, do_issue, fill, free_at}
use Rattle.book.specs.Tables.{source_of, row_of, shown_units, book_of}
use Rattle.book.specs.Conditions.{looked, MayIssue, Issues, IssueByTheBook}
use Rattle.book.proofs.Lists.{any-from, any-off, in-elem, map-in, out-elem}
use Rattle.book.proofs.Rows.{at_row, in-owed, is-none-of, owed-in, row-busy, rows_all}

-- ── The two tests ───────────────────────────────────────────────────────────

-- No destination is claimed.
waw-same : (ps : List (Option ℕ)) (ds : List ℕ) → is_none (taken ps ds) ≡ not (list_any (λ (d : ℕ). is_some (producer_of ps d)) ds)
waw-same ps ds = go (taken ps ds) refl
  where
    go : (t : Option ℕ) → taken ps ds ≡ t → is_none t ≡ not (list_any (λ (d : ℕ). is_some (producer_of ps d)) ds)
    go None e =
        sym
        (ap not
        (any-off (λ (d : ℕ). is_some (producer_of ps d)) ds
        (λ d n h. true≢false (sym h ∙ ap is_some (taken_none ps ds e d n)))))
    go (Some r) e =
        let w = taken-some ps ds r e in
        sym (ap not (any-from (λ (d : ℕ). is_some (producer_of ps d)) ds r w.0 w.1))

-- A search finds the first.
find_first
    : {A : Type 0} (q : ℕ → A → Bool) (i : ℕ) (xs : List A) (k : ℕ) → find_at q i xs ≡ Some (i + k) → (j : ℕ) → j < k → (x : A)
    → slice_get xs j ≡ Some x → q (i + j) x ≡ false
unfolding lists
find_first q i [] k h j l x e = none-some x e
find_first {A} q i (y ∷ ys) k h j l x e = go (q i y) refl h j l e (λ m f. find_first q (suc i) ys m f)
  where
    go
        : (b : Bool) → q i y ≡ b → option_or (cond b (Some i) None) (find_at q (suc i) ys) ≡ Some (i + k) → (j : ℕ) → j < k
        → slice_get (y ∷ ys) j ≡ Some x
        → ((m : ℕ) → find_at q (suc i) ys ≡ Some (suc i + m) → (j : ℕ) → j < m → (x : A) → slice_get ys j ≡ Some x → q (suc i + j) x ≡ false)
        → q (i + j) x ≡ false
    go true f r j l e ih = let z : i ≡ i + k = some_inj i (i + k) r in absurd (omega arith)
    go false f r zero l e ih =
        let z : i + 0 ≡ i = omega arith in
        ap (λ (m : ℕ). q m x) z ∙ sym (ap (q i) (some_inj y x e)) ∙ f
    go false f r (suc j) l e ih = step k l r
      where
        step : (k : ℕ) → suc j < k → find_at q (suc i) ys ≡ Some (i + k) → q (i + suc j) x ≡ false
        step zero l r = absurd (omega arith)
        step (suc m) l r =
            let z : i + suc m ≡ suc i + m = omega arith in
            let y : suc i + j ≡ i + suc j = omega arith in
            subst (λ (n : ℕ). q n x ≡ false) y (ih m (r ∙ ap (λ (n : ℕ). Some n) z) j (omega arith) x e)

-- ── What an issue can come to ───────────────────────────────────────────────

abbrev free-for : State → Op → Option ℕ
free-for t o = free_unit t.machine.specs t.units o.core.decoded.class

-- Nothing of the engine's holds the operation up, and its unit is k.
pub record Open (t : State) (o : Op) (k : ℕ) : Type 0 where
  pub no_branch : t.marks.branch ≡ false
  pub no_system : t.marks.system ≡ false
  pub unclaimed : taken (learn (looked t o).names t).producer (looked t o).written ≡ None
  pub free : free-for t o ≡ Some k

pub data Outcome (t : State) (o : Op) (rest : List Op) : Type 0 where
  held
      : (x : State) (h : PipelineHazardKind) (d : Detail) → x.queue ≡ o ∷ rest → book_of x ≡ book_of t
      → issue t ≡ block_issue h d x → ((k : ℕ) → Open t o k → ⊥) → Outcome t o rest
  placed : (k : ℕ) → Open t o k → Issues t o rest k → Outcome t o rest

look-tables : (ns : List Text) (t : State) → book_of (learn ns t) ≡ book_of t
unfolding issuing
look-tables ns t = ap (book (map row_of (shown_units t))) (fun_ext (pad-same t.producer ns))

module _ (t : State) (o : Op) (rest : List Op) (q : t.queue ≡ o ∷ rest) where
  abbrev after_look : State
  after_look = learn (looked t o).names t

  abbrev chosen : Bool → Bool → State
  chosen b y = issue_choose b y o rest t

  abbrev moved : Option ℕ → Option ℕ → State
  moved k f = issue_to o rest (looked t o).read (looked t o).written k f after_look

  choice : (b y : Bool) → t.marks.branch ≡ b → t.marks.system ≡ y → issue t ≡ chosen b y
  unfolding issuing
  choice b y e f = ap (λ (l : List Op). issue_front l t) q ∙ ap₂ chosen e f

  move : (k f : Option ℕ) → t.marks.branch ≡ false → t.marks.system ≡ false
      → taken after_look.producer (looked t o).written ≡ k → free-for t o ≡ f → issue t ≡ moved k f
  unfolding issuing
  move k f b y e g = choice false false b y ∙ ap₂ moved e g

  pub outcome : Outcome t o rest
  unfolding issuing
  outcome = by-branch t.marks.branch refl t.marks.system refl
    where
      by-unit
          : t.marks.branch ≡ false → t.marks.system ≡ false → (k : Option ℕ) → taken after_look.producer (looked t o).written ≡ k
          → (f : Option ℕ) → free-for t o ≡ f → Outcome t o rest
      by-unit b y (Some r) e f g =
          held after_look WriteAfterWrite _ q (look-tables (looked t o).names t) (move (Some r) f b y e g)
          (λ k h. none-some r (sym h.unclaimed ∙ e))
      by-unit b y None e None g =
          held after_look FunctionalUnitBusy _ q (look-tables (looked t o).names t) (move None None b y e g)
          (λ k h. none-some k (sym g ∙ h.free))
      by-unit b y None e (Some k) g =
          placed k (record { no_branch = b; no_system = y; unclaimed = e; free = g }) (move None (Some k) b y e g)

      by-branch : (b : Bool) → t.marks.branch ≡ b → (y : Bool) → t.marks.system ≡ y → Outcome t o rest
      by-branch true e y f =
          held t BranchFlush _ q refl (choice true y e f) (λ k h. true≢false (sym e ∙ h.no_branch))
      by-branch false e true f =
          held t FunctionalUnitBusy _ q refl (choice false true e f) (λ k h. true≢false (sym f ∙ h.no_system))
      by-branch false e false f =
          by-unit e f (taken after_look.producer (looked t o).written) refl (free-for t o) refl

  -- One that was held up is not in a unit: it is still queued.
  held_stays : (x : State) (h : PipelineHazardKind) (d : Detail) (i : ℕ) → x.queue ≡ o ∷ rest → issue t ≡ block_issue h d x → Issues t o rest i → ⊥
  unfolding issuing
  held_stays x h d i e k m =
      let a : modify 0 (with_hazard (Some h)) x.queue ≡ rest = ap (λ (s : State). s.queue) (sym k ∙ m) in
      let l : length (modify 0 (with_hazard (Some h)) x.queue) ≡ suc (length rest)
      = length-modify (with_hazard (Some h)) 0 x.queue ∙ ap length e in
      let z : length rest ≡ suc (length rest) = sym (ap length a) ∙ l in
      omega arith

  -- A free unit tells into which unit an operation went.
  one_unit : (i k : ℕ) → free-for t o ≡ Some k → Issues t o rest i → Issues t o rest k → i ≡ k
  unfolding issuing units
  one_unit i k f a b = go (eqb k i) refl
    where
      u : (u : FunctionalUnit) × (slice_get t.units k ≡ Some u) × (u.busy ≡ false) × (u.spec ≡ spec_index t.machine.specs o.core.decoded.class)
      u = free-found t.machine.specs t.units o.core.decoded.class k f

      fill-in : FunctionalUnit → FunctionalUnit
      fill-in = occupy o (looked t o).read (looked t o).written (waits_on after_look.producer (looked t o).read)

      same_units : modify k fill-in t.units ≡ modify i fill-in t.units
      same_units = ap (λ (s : State). s.units) (sym b ∙ a)

      go : (c : Bool) → eqb k i ≡ c → i ≡ k
      go true e = sym (eqb-true k i e)
      go false e =
          let x : Some (fill-in u.0) ≡ Some u.0
          = sym (nth-same fill-in t.units k ∙ ap (option_map fill-in) u.1) ∙ ap (λ (l : List FunctionalUnit). slice_get l k) same_units
          ∙ nth-other fill-in t.units i k (eqb-false k i e) ∙ u.1 in
          absurd (true≢false (ap (λ (v : FunctionalUnit). v.busy) (some_inj (fill-in u.0) u.0 x) ∙ u.2))

-- ── The conditions ──────────────────────────────────────────────────────────

module _ (t : State) (n : t.offer.writing ≡ None) (o : Op) where
  abbrev spec : ℕ
  spec = spec_index t.machine.specs o.core.decoded.class

  abbrev ds : List ℕ
  ds = (looked t o).written

  abbrev claimed-in : (ℕ → Option ℕ) → Bool
  claimed-in f = list_any (λ (d : ℕ). is_some (f d)) ds

  claims-same : is_none (taken (learn (looked t o).names t).producer ds) ≡ not (claimed-in (producer_of t.producer))
  unfolding issuing
  claims-same =
      waw-same (learn (looked t o).names t).producer ds
      ∙ ap (λ (f : ℕ → Option ℕ). not (claimed-in f)) (fun_ext (pad-same t.producer (looked t o).names))

  free-same : (i : ℕ) (u : FunctionalUnit) → slice_get t.units i ≡ Some u → free_at (book_of t) i ≡ not u.busy
  free-same i u e = at_row t n i u false (λ (x : Status). not x.Busy) e ∙ ap not (row-busy u)

  -- Where the engine issues, the book may.
  open-allowed : (k : ℕ) → Open t o k → MayIssue t o k
  open-allowed k h =
      let u = free-found t.machine.specs t.units o.core.decoded.class k h.free in (
        (u.0, u.1, u.3),
        ap₂ ◌&&◌ (free-same k u.0 u.1 ∙ ap not u.2) (sym claims-same ∙ ap is_none h.unclaimed),
      )

  free_of : (i : ℕ) (u : FunctionalUnit) → u.spec ≡ spec → not u.busy ≡ true → is_free spec i u ≡ true
  unfolding issuing
  free_of i u e b = ap₂ ◌&&◌ (eq-eqb u.spec spec e) b

  -- The unit's parts of a permission.
  allowed-unit : (i : ℕ) (m : MayIssue t o i) → not m.0.0.busy ≡ true
  allowed-unit i m =
      sym (free-same i m.0.0 m.0.1) ∙ (and_both (free_at (book_of t) i) (not (claimed-in (producer_of t.producer))) m.1).0

  -- To no lower unit.
  open-lowest : (k : ℕ) → Open t o k → (j : ℕ) → j < k → MayIssue t o j → ⊥
  unfolding issuing
  open-lowest k h j l m =
      let z : 0 + k ≡ k = omega arith in
      let f = find_first (is_free spec) 0 t.units k (h.free ∙ ap (λ (x : ℕ). Some x) (sym z)) j l m.0.0 m.0.1 in
      false≢true (sym f ∙ free_of (0 + j) m.0.0 m.0.2 (allowed-unit j m))

  -- Where the book may, nothing but a mark holds it up.
  allowed-open : t.marks.branch ≡ false → t.marks.system ≡ false → (i : ℕ) → MayIssue t o i → (k : ℕ) × Open t o k
  unfolding issuing
  allowed-open b y i m = go (free-for t o) refl
    where
      clear : taken (learn (looked t o).names t).producer ds ≡ None
      clear =
          is-none-of (taken (learn (looked t o).names t).producer ds)
          (claims-same ∙ (and_both (free_at (book_of t) i) (not (claimed-in (producer_of t.producer))) m.1).1)

      go : (f : Option ℕ) → free-for t o ≡ f → (k : ℕ) × Open t o k
      go (Some k) e = (k, record { no_branch = b; no_system = y; unclaimed = clear; free = e })
      go None e =
          let f = find-miss (is_free spec) 0 t.units e i m.0.0 m.0.1 in
          absurd (false≢true (sym f ∙ free_of (0 + i) m.0.0 m.0.2 (allowed-unit i m)))

  open-issues : (rest : List Op) → t.queue ≡ o ∷ rest → (k : ℕ) → Open t o k → Issues t o rest k
  open-issues rest q k h = go (outcome t o rest q)
    where
      go : Outcome t o rest → Issues t o rest k
      go (held x a d e b c f) = absurd (f k h)
      go (placed m g i) = subst (Issues t o rest) (some_inj m k (sym g.free ∙ h.free)) i

  issues-open : (rest : List Op) → t.queue ≡ o ∷ rest → (i : ℕ) → Issues t o rest i → Open t o i
  issues-open rest q i h = go (outcome t o rest q)
    where
      go : Outcome t o rest → Open t o i
      go (held x a d e b c f) = absurd (held_stays t o rest q x a d i e c h)
      go (placed m g j) = subst (Open t o) (sym (one_unit t o rest q i m g.free h j)) g

  module _ (rest : List Op) (q : t.queue ≡ o ∷ rest) where
    pub issues-same
        : (i : ℕ)
        → Issues t o rest i
        ↔ ((t.marks.branch ≡ false) × (t.marks.system ≡ false) × MayIssue t o i × ((j : ℕ) → j < i → MayIssue t o j → ⊥))
    issues-same i = (
      (λ h. let g = issues-open rest q i h in (g.no_branch, g.no_system, open-allowed i g, open-lowest i g)),
      (λ h.
          let g = allowed-open h.0 h.1 i h.2 in
          let k = g.0 in
          let low : k < i → ⊥ = λ l. h.3 k l (open-allowed k g.1) in
          let up : i < k → ⊥ = λ l. open-lowest k g.1 i l h.2 in
          let z : k ≡ i = same k low up in
          open-issues rest q i (subst (Open t o) z g.1)),
    )
      where
        same : (k : ℕ) → (k < i → ⊥) → (i < k → ⊥) → k ≡ i
        same k low up = go (lt-or-ge k i) (lt-or-ge i k)
          where
            go : (k < i) ⊎ (i ≤ k) → (i < k) ⊎ (k ≤ i) → k ≡ i
            go (inl a) b = absurd (low a)
            go (inr a) (inl b) = absurd (up b)
            go (inr a) (inr b) = omega arith

    pub issues_some
        : t.marks.branch ≡ false → t.marks.system ≡ false → (i : ℕ) → MayIssue t o i → (j : ℕ) × Issues t o rest j
    issues_some b y i m = let g = allowed-open b y i m in (g.0, open-issues rest q g.0 g.1)

-- ── The bookkeeping ─────────────────────────────────────────────────────────

-- A source filled at issue: Q is Result.
owed-on : (ps : List (Option ℕ)) (rs : List ℕ) (x : ℕ) → In x rs → owed (waits_on ps rs) x ≡ producer_of ps x
owed-on ps rs x n = go (producer_of ps x) refl (owed (waits_on ps rs) x) refl
  where
    go : (o : Option ℕ) → producer_of ps x ≡ o → (q : Option ℕ) → owed (waits_on ps rs) x ≡ q → owed (waits_on ps rs) x ≡ producer_of ps x
    go None e None f = f ∙ sym e
    go None e (Some k) f = none-some k (sym e ∙ (in-waits ps rs x k (owed-in x k (waits_on ps rs) f)).1)
    go (Some k) e None f = absurd (in-owed x k (waits_on ps rs) (waits_in ps rs x k n e) f)
    go (Some k) e (Some m) f = f ∙ sym (in-waits ps rs x m (owed-in x m (waits_on ps rs) f)).1

filled
    : (ps : List (Option ℕ)) (r w : List ℕ) (o : Op) (u : FunctionalUnit)
    → row_of (occupy o r w (waits_on ps r) u) ≡ status true o.core.decoded.class w (map (fill (producer_of ps)) r)
unfolding units
filled ps r w o u =
    ap (status true o.core.decoded.class w)
    (map-in (source_of (occupy o r w (waits_on ps r) u)) (fill (producer_of ps)) r
    (λ x n. ap (λ (q : Option ℕ). source x q (is_none q)) (owed-on ps r x n)))

claimed-result
    : (i : ℕ) (ps : List (Option ℕ)) (w : List ℕ) → ((x : ℕ) → In x w → x < length ps) → (x : ℕ)
    → producer_of (claim_all i ps w) x ≡ claimed_by i w (producer_of ps) x
claimed-result i ps w fits x = go (in-dec x w)
  where
    go : In x w ⊎ (In x w → ⊥) → producer_of (claim_all i ps w) x ≡ claimed_by i w (producer_of ps) x
    go (inl n) = claims-in i w ps fits x n ∙ sym (ap (λ (b : Bool). cond b (Some i) (producer_of ps x)) (in-elem x w n))
    go (inr n) = claims-out i w ps x n ∙ sym (ap (λ (b : Bool). cond b (Some i) (producer_of ps x)) (out-elem x w n))

-- (`fits`: the destinations are known registers, as after a look.)
placed-tables
    : (o : Op) (rest : List Op) (r w : List ℕ) (i : ℕ) (s : State) → s.offer.writing ≡ None
    → ((x : ℕ) → In x w → x < length s.producer)
    → book_of (place o rest r w i s) ≡ do_issue i o.core.decoded.class r w (book_of s)
unfolding issuing
placed-tables o rest r w i s n fits =
    ap₂ book
    (rows_all (place o rest r w i s) n
    ∙ modify-map row_of (occupy o r w (waits_on s.producer r))
    (λ (u : Status). status true o.core.decoded.class w (map (fill (producer_of s.producer)) r)) (filled s.producer r w o) i
    s.units
    ∙ ap (modify i (λ (u : Status). status true o.core.decoded.class w (map (fill (producer_of s.producer)) r))) (sym (rows_all s n)))
    (fun_ext (claimed-result i s.producer w fits))

module _ (t : State) (n : t.offer.writing ≡ None) where
  known : (o : Op) (x : ℕ) → In x (looked t o).written → x < length (learn (looked t o).names t).producer
  unfolding issuing
  known o x m =
      let a = looked t o in
      let k = all_in (λ (r : ℕ). r < length a.names) a.written x m (at-known a.names o.info.writes a.written (resolve-written t.names o.info)) in
      let p = pad-long t.producer a.names in
      omega arith

  issued-tables
      : (o : Op) (rest : List Op) (i : ℕ) → Issues t o rest i
      → book_of (issue t) ≡ do_issue i o.core.decoded.class (looked t o).read (looked t o).written (book_of t)
  unfolding issuing
  issued-tables o rest i h =
      ap book_of h ∙ placed-tables o rest (looked t o).read (looked t o).written i (learn (looked t o).names t) n (known o)
      ∙ ap (do_issue i o.core.decoded.class (looked t o).read (looked t o).written) (look-tables (looked t o).names t)

  held-tables : (x : State) (h : PipelineHazardKind) (d : Detail) → book_of (block_issue h d x) ≡ book_of x
  unfolding issuing
  held-tables x h d = refl

  unissued : ((o : Op) (rest : List Op) (i : ℕ) → t.queue ≡ o ∷ rest → Issues t o rest i → ⊥) → book_of (issue t) ≡ book_of t
  unfolding issuing
  unissued never = go t.queue refl
    where
      step : (o : Op) (rest : List Op) → t.queue ≡ o ∷ rest → Outcome t o rest → book_of (issue t) ≡ book_of t
      step o rest q (held x h d e b c f) = ap book_of c ∙ held-tables x h d ∙ b
      step o rest q (placed k g i) = absurd (never o rest k q i)

      go : (l : List Op) → t.queue ≡ l → book_of (issue t) ≡ book_of t
      go [] e = ap (λ (l : List Op). book_of (issue_front l t)) e
      go (o ∷ rest) e = step o rest e (outcome t o rest e)

  pub issue-by-the-book : IssueByTheBook t
  issue-by-the-book =
      record {
        issues = λ o rest q. issues-same t n o rest q;
        issues_some = λ o rest q. issues_some t n o rest q;
        issue_tables = λ o rest i q h. issued-tables o rest i h;
        unissued_tables = unissued;
      }
