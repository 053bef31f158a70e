-- The names known and queued are never over 256: the test of a fetch is enough for every look after it.
use Prim.Native.Nat.{ℕ, zero, suc, ◌≤◌}
use native.Mathlib.Omega.{arith}
use mathlib.Core.Path.{◌≡◌, refl, sym, ◌∙◌, ap, ap₂, subst}
use mathlib.Core.Bool.{Bool, true, false, cond}
use Rattle.std.specs.Prelude.{Option, None, Some, slice_get}
use mathlib.Core.List.{List, [], ◌∷◌, ◌++◌, map}
use lib.Dec.{ltb}
use lib.ListN.{length}
use borrow.Author.Tests.{ltb-false}
use Rattle.laws.specs.Lists.{All, All2, modify, more2, none2}
use Rattle.laws.specs.Texts.{Text, same}
use Rattle.laws.proofs.Choices.{either, none-some, some_inj, false-T}
use Rattle.laws.proofs.Same.{same-of-eq}
use Rattle.capability.specs.declared.PipelineHazardKind.{PipelineHazardKind}
use Rattle.capability.specs.declared.PipelineHazardKind.TheVariants.{BranchFlush, FunctionalUnitBusy, WriteAfterWrite}
use Rattle.model.specs.Write.{writing}
use Rattle.model.specs.Calls.{Call, advance as advance-call, calls, capacity, cell, fault as fault-call, fetch, halt as halt-call, names_in, names_with, overlap, redirect, refusal, reset, resolve as resolve-call, retire, retry as retry-call, run, start, text, view}
use Rattle.model.specs.Issue.{complete_offer, free_unit, issue, issue_choose, issue_front, issue_to, issuing, learn, taken}
use Rattle.model.specs.Op.{Given, Info, Op, with_hazard}
use Rattle.model.specs.Registers.{Interned, intern, intern_all, interned, registers, resolve}
use Rattle.model.specs.Scoreboard.{advance, after_issue, before_issue, close_cycle, closed, fetched, fetched_op, scoreboard, stops}
use Rattle.model.specs.State.{State}
use Rattle.refusals.proofs.Demand1.{taken-checks}
use Rattle.runs.proofs.Names.{At, resolve-read, resolve-written}
use Rattle.runs.proofs.Tracks.{append-nil, append-three}

abbrev pub all-names : List Text → List Text → List Text
all-names ns bs = (intern_all ns bs).names

names-append : (bs cs ns : List Text) → all-names ns (bs ++ cs) ≡ all-names (all-names ns bs) cs
unfolding registers
names-append [] cs ns = refl
names-append (b ∷ bs) cs ns = names-append bs cs (intern ns b).names

intern-longer : (a : Text) (ns : List Text) → length ns ≤ length (intern ns a).names
unfolding registers
intern-longer a [] = omega arith
intern-longer a (x ∷ xs) =
    either (λ (z : Interned). suc (length xs) ≤ length z.names) (same x a) (interned 0 (x ∷ xs))
    (interned (suc (intern xs a).number) (x ∷ (intern xs a).names)) (λ t. omega arith)
    (λ e. let h = intern-longer a xs in omega arith)

pub names-longer : (bs ns : List Text) → length ns ≤ length (all-names ns bs)
unfolding registers calls writing issuing scoreboard
names-longer [] ns = omega arith
names-longer (b ∷ bs) ns = omega (arith, intern-longer b ns, names-longer bs (intern ns b).names)

-- What holds of the names known and of new ones holds of all.
intern_all-of : (P : Text → Type 0) (a : Text) (ns : List Text) → P a → All P ns → All P (intern ns a).names
unfolding registers
intern_all-of P a [] p h = (p, tt)
intern_all-of P a (x ∷ xs) p h =
    either (λ (z : Interned). All P z.names) (same x a) (interned 0 (x ∷ xs)) (interned (suc (intern xs a).number) (x ∷ (intern xs a).names))
    (λ t. h) (λ e. (h.0, intern_all-of P a xs p h.1))

pub names-all : (P : Text → Type 0) (bs ns : List Text) → All P bs → All P ns → All P (all-names ns bs)
unfolding registers
names-all P [] ns p h = h
names-all P (b ∷ bs) ns p h = names-all P bs (intern ns b).names p.1 (intern_all-of P b ns p.0 h)

pub resolve-longer : (ns : List Text) (i : Info) → length ns ≤ length (resolve ns i).names
unfolding registers
resolve-longer ns i =
    omega (arith, names-longer i.sources ns, names-longer i.writes (all-names ns i.sources))

intern-known : (a : Text) (ns : List Text) (k : ℕ) → slice_get ns k ≡ Some a → (intern ns a).names ≡ ns
unfolding registers
intern-known a [] k p = none-some a p
intern-known a (x ∷ xs) zero p =
    either (λ (z : Interned). z.names ≡ x ∷ xs) (same x a) (interned 0 (x ∷ xs)) (interned (suc (intern xs a).number) (x ∷ (intern xs a).names))
    (λ t. refl) (λ e. false-T (same x a) e (same-of-eq x a (some_inj x a p)))
intern-known a (x ∷ xs) (suc k) p =
    either (λ (z : Interned). z.names ≡ x ∷ xs) (same x a) (interned 0 (x ∷ xs)) (interned (suc (intern xs a).number) (x ∷ (intern xs a).names))
    (λ t. refl) (λ e. ap (λ (l : List Text). x ∷ l) (intern-known a xs k p))

names-known : (ns bs : List Text) (ks : List ℕ) → All2 (At ns) bs ks → all-names ns bs ≡ ns
unfolding registers
names-known ns bs ks none2 = refl
names-known ns bs ks (more2 {a = b} {b = k} {as' = bs'} {bs = ks'} p ps) =
    ap (λ (l : List Text). all-names l bs') (intern-known b ns k p) ∙ names-known ns bs' ks' ps

-- ── NamesFew ────────────────────────────────────────────────────────────────────

abbrev pub count_of : List Text → List Op → ℕ
count_of ns q = length (all-names ns (names_in q))

abbrev pub NamesFew : State → Type 0
NamesFew s = count_of s.names s.queue ≤ 256

names-mapped : (f : Op → Op) → ((o : Op) → (f o).info ≡ o.info) → (q : List Op) → names_in (map f q) ≡ names_in q
unfolding calls
names-mapped f r [] = refl
names-mapped f r (o ∷ q) =
    ap₂ (λ (i : Info) (l : List Text). i.sources ++ (i.writes ++ l)) (r o) (names-mapped f r q)

names-front : (h : Option PipelineHazardKind) (q : List Op) → names_in (modify 0 (with_hazard h) q) ≡ names_in q
unfolding calls modify
names-front h [] = refl
names-front h (o ∷ q) = refl

names-last : (q : List Op) (o : Op) → names_in (q ++ (o ∷ [])) ≡ names_in q ++ (o.info.sources ++ o.info.writes)
unfolding calls
names-last [] o = ap (λ (l : List Text). o.info.sources ++ l) (append-nil o.info.writes)
names-last (p ∷ q) o =
    ap (λ (l : List Text). p.info.sources ++ (p.info.writes ++ l)) (names-last q o)
    ∙ sym
    (append-three p.info.sources (p.info.writes ++ names_in q) (o.info.sources ++ o.info.writes)
    ∙ ap (λ (l : List Text). p.info.sources ++ l)
    (append-three p.info.writes (names_in q) (o.info.sources ++ o.info.writes)))

-- A look moves names from the queue to the table.
looked-names
    : (ns : List Text) (o : Op) (rest : List Op)
    → all-names ns (names_in (o ∷ rest)) ≡ all-names (resolve ns o.info).names (names_in rest)
unfolding calls registers
looked-names ns o rest =
    names-append o.info.sources (o.info.writes ++ names_in rest) ns
    ∙ names-append o.info.writes (names_in rest) (all-names ns o.info.sources)

-- One that stays in the queue adds none.
stayed-names
    : (ns : List Text) (o : Op) (rest : List Op)
    → all-names (resolve ns o.info).names (names_in (o ∷ rest)) ≡ all-names (resolve ns o.info).names (names_in rest)
unfolding calls
stayed-names ns o rest =
    let i = o.info in
    let ms = (resolve ns i).names in
    names-append i.sources (i.writes ++ names_in rest) ms
    ∙ ap (λ (l : List Text). all-names l (i.writes ++ names_in rest)) (names-known ms i.sources (resolve ns i).read (resolve-read ns i))
    ∙ names-append i.writes (names_in rest) ms
    ∙ ap (λ (l : List Text). all-names l (names_in rest)) (names-known ms i.writes (resolve ns i).written (resolve-written ns i))

names-few-to
    : (ns : List Text) (o : Op) (rest : List Op) (r w : List ℕ) (tk fr : Option ℕ) (s : State) → s.queue ≡ o ∷ rest
    → s.names ≡ (resolve ns o.info).names → count_of ns (o ∷ rest) ≤ 256 → NamesFew (issue_to o rest r w tk fr s)
unfolding registers calls issuing
names-few-to ns o rest r w (Some x) fr s p q h =
    rw (names-front (Some WriteAfterWrite) s.queue, p, q, stayed-names ns o rest, ← (looked-names ns o rest)) h
names-few-to ns o rest r w None None s p q h =
    rw (names-front (Some FunctionalUnitBusy) s.queue, p, q, stayed-names ns o rest, ← (looked-names ns o rest)) h
names-few-to ns o rest r w None (Some n) s p q h = rw (q, ← (looked-names ns o rest)) h

names-few-choose
    : (b y : Bool) (o : Op) (rest : List Op) (s : State) → s.queue ≡ o ∷ rest → NamesFew s → NamesFew (issue_choose b y o rest s)
unfolding issuing registers calls
names-few-choose true y o rest s p h = rw (names-front (Some BranchFlush) s.queue) h
names-few-choose false true o rest s p h = rw (names-front (Some FunctionalUnitBusy) s.queue) h
names-few-choose false false o rest s p h =
    let x = resolve s.names o.info in
    names-few-to s.names o rest x.read x.written (taken (learn x.names s).producer x.written)
    (free_unit s.machine.specs s.units o.core.decoded.class) (learn x.names s) p refl
    (subst (λ (q : List Op). count_of s.names q ≤ 256) p h)

names_few-issue : (s : State) → NamesFew s → NamesFew (issue s)
unfolding issuing
names_few-issue s h = front s.queue refl
  where
    front : (q : List Op) → s.queue ≡ q → NamesFew (issue_front q s)
    front [] p = h
    front (o ∷ rest) p = names-few-choose s.marks.branch s.marks.system o rest s p h

names_few-closed : (s : State) → NamesFew s → NamesFew (closed s)
unfolding scoreboard issuing
names_few-closed s h = go s.offer.writing
  where
    go : (w : Option ℕ) → NamesFew (close_cycle (complete_offer w s))
    go None = h
    go (Some n) = h

names_few-before : (r : Option ℕ) (s : State) → NamesFew s → NamesFew (before_issue r s)
unfolding registers calls writing issuing scoreboard
names_few-before None s h = h
names_few-before (Some n) s h = omega (arith, h, names-longer (names_in s.queue) s.names)

names_few-advance : (r : Option ℕ) (s : State) → NamesFew s → NamesFew (advance r s)
unfolding scoreboard issuing
names_few-advance r s h = go (stops s)
  where
    go : (b : Bool) → NamesFew (cond b (closed s) (after_issue (issue (before_issue r (closed s)))))
    go true = names_few-closed s h
    go false = names_few-issue (before_issue r (closed s)) (names_few-before r (closed s) (names_few-closed s h))

names_few-fetched : (g : Given) (ml : ℕ) (s : State) → refusal s (fetch g ml) ≡ None → NamesFew (fetched g s)
unfolding registers calls scoreboard
names_few-fetched g ml s p =
    let few : ltb 256 (names_with s g.info) ≡ false = (taken-checks s (fetch g ml) p).1.1.1.1.1.0 in
    rw (names-last s.queue (fetched_op g s)) (ltb-false 256 (names_with s g.info) few)

pub known-few : (s : State) → NamesFew s → length s.names ≤ 256
known-few s h = omega (arith, h, names-longer (names_in s.queue) s.names)

pub names_few-run : (s : State) (c : Call) → refusal s c ≡ None → NamesFew s → NamesFew (run s c)
unfolding registers calls writing issuing scoreboard
names_few-run s start p h = rw (names-mapped (with_hazard None) (λ o. refl) s.queue) h
names_few-run s retire p h = h
names_few-run s (retry-call x) p h = h
names_few-run s (resolve-call a) p h = h
names_few-run s (advance-call r ml) p h = names_few-advance r s h
names_few-run s (fetch g ml) p h = names_few-fetched g ml s p
names_few-run s (capacity k m) p h = h
names_few-run s (overlap b) p h = h
names_few-run s halt-call p h = known-few s h
names_few-run s (fault-call x) p h = known-few s h
names_few-run s (reset a ml) p h = omega arith
names_few-run s (redirect a) p h = omega arith
names_few-run s (view v) p h = h
names_few-run s (text t m) p h = h
names_few-run s (cell i j ml) p h = h
