-- The marks of a list of places, made one by one, and a place that has none: of n places that are all taken the list has at least n.
use Prim.Native.Nat.{ℕ, zero, suc, ◌+◌, ◌≤◌, ◌<◌}
use mathlib.Core.Path.{◌≡◌, refl, sym, ap, ◌∙◌}
use mathlib.Core.Bool.{Bool, true, false, cond, ◌||◌}
use mathlib.Core.Logic.{⊎_elim}
use mathlib.Core.List.{List, [], ◌∷◌, ◌++◌, map, append_assoc}
use native.Mathlib.Omega.{arith}
use lib.Dec.{eqb, ltb}
use lib.ListN.{length, get_or, set, take, replicate, get_or-replicate, length-replicate, length-set}
use lib.Seq.{get_or-set_same, get_or-set_other, take_all}
use borrow.Author.Tests.{eqb-true, eqb-false}
use Rattle.laws.specs.Lists.{count, elem}
use Rattle.std.specs.List.{list_any}
use Rattle.laws.proofs.Tests.{cond_yes, cond-eq, cond-ne, cond-lt, cond-ge, lt-or-ge, true-or-false, or-next, or-yes-second}
use Rattle.laws.proofs.Slices.{Seen, seen-get_or, seen-take, take-map, view-length, view-next}
use Rattle.laws.proofs.Search.{count_most}
use Rattle.flight.specs.declared.Queued.{Queued}
use Rattle.flight.specs.declared.Queue.{Queue}
use Rattle.flight.specs.View.{entries, QueueOk}
use Rattle.flight.proofs.Entries.{entries-length, entries_next, entry-ok}
use Rattle.units.specs.declared.Unit.{Unit as Slot}
use Rattle.bank.specs.declared.Units.{Units}
use Rattle.bank.specs.View.{slots, UnitsOk}
use Rattle.bank.proofs.Steps.{slot_ok}
use Rattle.places.specs.declared.Places.{Places}
use Rattle.places.specs.Places.{queue_places, Marked, Free}

-- ── Marks ───────────────────────────────────────────────────────────────────

any_append : {A : Type 0} (p : A → Bool) (s t : List A) → list_any p (s ++ t) ≡ (list_any p s || list_any p t)
any_append p [] t = refl
any_append p (x ∷ s) t = ap (λ b. p x || b) (any_append p s t) ∙ or_assoc (p x) (list_any p s) (list_any p t)
  where
    or_assoc : (a b c : Bool) → (a || (b || c)) ≡ ((a || b) || c)
    or_assoc true b c = refl
    or_assoc false b c = refl

elem-last : (q p : ℕ) (l : List ℕ) → elem q (l ++ p ∷ []) ≡ (elem q l || (eqb q p || false))
elem-last q p l = any_append (eqb q) l (p ∷ [])

pub marked-none : {m : Places} → m.used ≡ replicate 81 false → Marked [] m
marked-none e =
    record {
      size = ap length e ∙ length-replicate 81 false;
      is = λ p h. ap (λ l. get_or l p false) e ∙ get_or-replicate 81 p false false (omega arith);
    }

pub marked_more : {l : List ℕ} {m : Places} {p : ℕ} → Marked l m → p ≤ 80 → Marked (l ++ p ∷ []) (record { used = set m.used p true })
marked_more {l} {m} {p} e h =
    record {
      size = length-set m.used p true ∙ e.size;
      is = λ q k. ⊎_elim (same q) (other q k) (true-or-false (eqb q p)) ∙ sym (elem-last q p l);
    }
  where
    same : (q : ℕ) → eqb q p ≡ true → get_or (set m.used p true) q false ≡ (elem q l || (eqb q p || false))
    same q t =
        ap (λ j. get_or (set m.used p true) j false) (eqb-true q p t)
        ∙ get_or-set_same m.used p true false (omega (arith, e.size))
        ∙ sym (or-yes-second (elem q l) (ap (λ b. b || false) t))

    other : (q : ℕ) → q ≤ 80 → eqb q p ≡ false → get_or (set m.used p true) q false ≡ (elem q l || (eqb q p || false))
    other q k t =
        get_or-set_other m.used p q true false (eqb-false q p t) ∙ e.is q k
        ∙ or-last (elem q l) t
      where
        or-last : (a : Bool) {b : Bool} → b ≡ false → a ≡ (a || (b || false))
        or-last true z = refl
        or-last false z = sym (ap (λ b. b || false) z)

pub mark-there : {p : ℕ} → p ≤ 80 → p < 81
mark-there h = omega arith

-- The loop over a list w of n places: the first i are marked, beside those that were.
pub record Marking (w : List ℕ) (n : ℕ) (m₀ m : Places) (i : ℕ) : Type 0 where
  pub most : i ≤ n
  pub size : length m.used ≡ 81
  pub is : (l : List ℕ) → Marked l m₀ → Marked (l ++ take i w) m

module _ {w : List ℕ} {n : ℕ} {m₀ m : Places} {i : ℕ} (e : Marking w n m₀ m i) where
  pub marking-next : {x : ℕ} → Seen w n i x → x ≤ 80 → Marking w n m₀ (record { used = set m.used x true }) (i + 1)
  marking-next {x} a h =
      record {
        most = omega (arith, a.here);
        size = length-set m.used x true ∙ e.size;
        is = λ l k. rw (seen-take a, ← append_assoc) (marked_more (e.is l k) h);
      }

  pub marking-last : length w ≤ i → (l : List ℕ) → Marked l m₀ → Marked (l ++ w) m
  marking-last h l k = rw (take_all i w h) at (e.is l k)

-- ── The places of units ─────────────────────────────────────────────────────

pub unit_place : {us : Units} (ok : UnitsOk us) (d : Slot) {s : List Slot} (e : s ≡ slots us) {i : ℕ} (h : i < length s) → (get_or s i d).place ≤ 80
unit_place ok d e h = (slot_ok ok e d h).place

-- ── The places of a queue ───────────────────────────────────────────────────

queue_places-are : (q : Queue) → queue_places q ≡ take q.len (map (λ (x : Queued). x.place) q.items)
unfolding queue_places entries
queue_places-are q = sym (take-map (λ (x : Queued). x.place) q.len q.items)

pub queue_places-next : {q : Queue} → QueueOk q → (d : Queued) {i : ℕ} → i < q.len → Seen (queue_places q) q.len i (get_or q.items i d).place
queue_places-next {q} ok d h = rw (queue_places-are q) (view-next (λ (x : Queued). x.place) q.items d (omega (arith, ok.few, ok.size)) h)

-- The entries as a slice.
module _ {q : Queue} (ok : QueueOk q) (d : Queued) {s : List Queued} (e : s ≡ entries q) {i : ℕ} (h : i < length s) where
  within : i < q.len
  within = omega (arith, h, ap length e, entries-length ok)

  the_entry : get_or s i d ≡ get_or q.items i d
  the_entry = ap (λ l. get_or l i d) e ∙ seen-get_or (entries_next ok d within) d

  pub entry_place : (get_or s i d).place ≤ 80
  entry_place = rw the_entry (entry-ok ok d {i = i} (omega (arith, within, ok.few))).place

  pub entry_seen : Seen (queue_places q) q.len i (get_or s i d).place
  entry_seen = rw the_entry (queue_places-next ok d within)

pub queue_places-length : {q : Queue} → QueueOk q → length (queue_places q) ≡ q.len
queue_places-length {q} ok = ap length (queue_places-are q) ∙ view-length (λ (x : Queued). x.place) q.items (omega (arith, ok.few, ok.size))

-- ── A free place ────────────────────────────────────────────────────────────

-- How many of a list are below n.
abbrev below : ℕ → List ℕ → ℕ
below n l = count (λ x. ltb x n) l

below_next : (n : ℕ) (l : List ℕ) → below (suc n) l ≡ below n l + count (eqb n) l
unfolding count
below_next n [] = refl
below_next n (x ∷ xs) = omega (arith, one, below_next n xs)
  where
    one : cond (ltb x (suc n)) 1 0 ≡ cond (ltb x n) 1 0 + cond (eqb n x) 1 0
    one =
        ⊎_elim
        (λ (h : x < n). omega (arith, cond-lt {A = ℕ} 1 0 {m = x} {n = suc n} (omega arith), cond-lt {A = ℕ} 1 0 h, cond-ne {A = ℕ} 1 0 {m = n} {n = x} (λ z. omega arith)))
        (λ (h : n ≤ x). ⊎_elim (λ (k : n < x). omega (arith, cond-ge {A = ℕ} 1 0 {m = x} {n = suc n} (omega arith), cond-ge {A = ℕ} 1 0 h, cond-ne {A = ℕ} 1 0 {m = n} {n = x} (λ z. omega arith))) (λ (k : x ≤ n). omega (arith, cond-lt {A = ℕ} 1 0 {m = x} {n = suc n} (omega arith), cond-ge {A = ℕ} 1 0 h, cond-eq {A = ℕ} 1 0 {m = n} {n = x} (omega arith))) (lt-or-ge n x))
        (lt-or-ge x n)

taken-counts : (n : ℕ) (l : List ℕ) → elem n l ≡ true → 1 ≤ count (eqb n) l
unfolding count
taken-counts n [] e = absurd (let z : ◌≡◌ {A = ℕ} 0 1 = cc in omega arith)
taken-counts n (x ∷ xs) e = ⊎_elim (λ t. omega (arith, cond_yes {A = ℕ} 1 0 t)) (λ t. omega (arith, taken-counts n xs (sym (or-next (elem n xs) t) ∙ e))) (true-or-false (eqb n x))

all-taken : (n : ℕ) (l : List ℕ) → ((j : ℕ) → j < n → elem j l ≡ true) → n ≤ below n l
all-taken zero l h = omega arith
all-taken (suc n) l h =
    omega (arith, below_next n l, all-taken n l (λ j k. h j (omega arith)), taken-counts n l (h n (omega arith)))

-- What holds below i and of i holds below i + 1.
pub below_more : (P : ℕ → Type 0) {i : ℕ} → ((j : ℕ) → j < i → P j) → P i → (j : ℕ) → j < i + 1 → P j
below_more P {i} h p j k = ⊎_elim (h j) (λ (g : i ≤ j). let q : i ≡ j = omega arith in rw q at p) (lt-or-ge j i)

-- The first 79 are marked, and at most 79 places are taken.
pub last-free : {l : List ℕ} {m : Places} → Marked l m → length l ≤ 79 → ((j : ℕ) → j < 79 → get_or m.used j false ≡ true) → Free l 79
last-free {l} {m} e few h =
    record { there = omega arith; free = ⊎_elim full (λ t. t) (true-or-false (elem 79 l)) }
  where
    full : elem 79 l ≡ true → elem 79 l ≡ false
    full t =
        let most : 80 ≤ below 80 l = all-taken 80 l (below_more (λ j. elem j l ≡ true) {i = 79} (λ j k. sym (e.is j (omega arith)) ∙ h j k) t) in
        absurd (let z : ⊥ = omega (arith, count_most (λ x. ltb x 80) l) in z)
