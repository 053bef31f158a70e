-- The units and the queue read whole: what the least of them, and one at a place, is to the model.
use Prim.Native.Nat.{ℕ, zero, suc, ◌≤◌, ◌<◌}
use mathlib.Core.Path.{◌≡◌, refl, sym, ap, ap₂, subst, ◌∙◌}
use mathlib.Core.Bool.{Bool, true, false, cond, ◌&&◌, ◌||◌}
use mathlib.Core.List.{List, [], ◌∷◌, ◌++◌, map, map-map}
use mathlib.Core.Logic.{⊎_elim}
use Rattle.std.specs.Prelude.{Option, None, Some, IfSome, option_map, filter, slice_get}
use Rattle.laws.proofs.Choices.{none-some}
use Rattle.laws.proofs.Tests.{value_or-some, lt-or-ge}
use Rattle.laws.specs.Means.{MeansFor}
use Rattle.laws.specs.Lists.{All, keep, count}
use native.Mathlib.Omega.{arith}
use lib.Dec.{ltb}
use lib.ListN.{length, get_or}
use lib.Seq.{length-take-le}
use denote.Ref.{Bor}
use Rattle.std.specs.List.{list_any}
use Rattle.std.proofs.lemmas.Option.{slice_get-map}
use Rattle.laws.proofs.Slices.{All-take, All-get_or, take-map, seen-nth, nth-get_or, nth_end}
use Rattle.laws.proofs.Maps.{any-map, count_map}
use Rattle.model.specs.Op.{Op}
use Rattle.model.specs.Units.{FunctionalUnit, idle_unit, seq_of, is_busy, unit_op, unit_at}
use Rattle.model.specs.Scoreboard.{older_op, oldest_op}
use Rattle.model.specs.Views.{older, oldest}
use Rattle.flight.specs.declared.Queued.{Queued}
use Rattle.flight.specs.declared.Queue.{Queue}
use Rattle.flight.specs.View.{Legend, nothing_carried, op_with, view_queued, view_queue, entries, QueuedOk, QueueOk}
use Rattle.units.specs.declared.Unit.{Unit as Slot}
use Rattle.units.specs.View.{view_unit, UnitOk}
use Rattle.units.specs.Lent.{oldest_busy, Oldest}
use Rattle.units.proofs.OldestIs.{oldest-is}
use Rattle.bank.specs.declared.Units.{Units}
use Rattle.bank.specs.View.{view_units, slots, UnitsOk}
use Rattle.bank.proofs.Steps.{units-next}
use Rattle.occupants.proofs.Least.{sooner, sooner-of, least, least-append, least-map, least-All, filter-All, least-none, least_at}
use Rattle.occupants.specs.View.{view_maybe_op, view_maybe_unit, MaybeOpOk, MaybeUnitOk, is_before}

blank : Legend
blank = record { carried = λ _. nothing_carried; names = [] }

pub units-map : (g : Legend) (us : Units) → view_units g us ≡ map (view_unit g) (slots us)
unfolding view_units slots
units-map g us = take-map (view_unit g) us.len us.items

pub slots-ok : {us : Units} → UnitsOk us → All UnitOk (slots us)
unfolding slots
slots-ok {us} ok = All-take UnitOk us.len us.items ok.each

pub slots-length : {us : Units} → UnitsOk us → length (slots us) ≡ us.len
unfolding slots
slots-length {us} ok = length-take-le us.len us.items (omega (arith, ok.few, ok.size))

pub queue-map : (g : Legend) (q : Queue) → view_queue g q ≡ map (view_queued g) (entries q)
unfolding view_queue entries
queue-map g q = take-map (view_queued g) q.len q.items

pub entries-ok : {q : Queue} → QueueOk q → All QueuedOk (entries q)
unfolding entries
entries-ok {q} ok = All-take QueuedOk q.len q.items ok.each

-- ── The oldest ──────────────────────────────────────────────────────────────

oldest-least : (p : FunctionalUnit → Bool) (us : List FunctionalUnit) → oldest p us ≡ least seq_of (filter p us)
unfolding oldest older least
oldest-least p [] = refl
oldest-least p (u ∷ us) = by (p u) refl (oldest-least p us)
  where
    sooner-older : (m : Option FunctionalUnit) → older u m ≡ sooner seq_of u m
    sooner-older None = refl
    sooner-older (Some v) = refl

    by : (b : Bool) → p u ≡ b → oldest p us ≡ least seq_of (filter p us) → oldest p (u ∷ us) ≡ least seq_of (filter p (u ∷ us))
    by true e h = rw e (sooner-older (oldest p us) ∙ ap (sooner seq_of u) h)
    by false e h = rw e h

filter-read : {A B : Type 0} (f : A → B) (p : B → Bool) (xs : List A) → filter p (map f xs) ≡ map f (filter (λ x. p (f x)) xs)
filter-read f p [] = refl
filter-read f p (x ∷ xs) = by (p (f x)) refl (filter-read f p xs)
  where
    by : (b : Bool) → p (f x) ≡ b → filter p (map f xs) ≡ map f (filter (λ y. p (f y)) xs) → filter p (f x ∷ map f xs) ≡ map f (filter (λ y. p (f y)) (x ∷ xs))
    by true e h = rw e (ap (λ l. f x ∷ l) h)
    by false e h = rw e h

-- r is the least of the units that pass, by the model's numbers.
module _ {us : Units} (ok : UnitsOk us) (P : FunctionalUnit → Bool) {r : Option Slot}
    (e : (g : Legend) → r ≡ least (λ u. seq_of (view_unit g u)) (filter (λ u. P (view_unit g u)) (slots us))) where
  oldest-seen : (g : Legend) → view_maybe_unit g r ≡ oldest P (view_units g us)
  oldest-seen g =
      ap (option_map (view_unit g)) (e g) ∙ sym (least-map seq_of (view_unit g) (filter (λ u. P (view_unit g u)) (slots us)))
      ∙ ap (least seq_of) (sym (filter-read (view_unit g) P (slots us))) ∙ sym (oldest-least P (map (view_unit g) (slots us)))
      ∙ ap (oldest P) (sym (units-map g us))

  pub oldest_means : MeansFor view_maybe_unit MaybeUnitOk r (λ g. oldest P (view_units g us))
  oldest_means =
      let passes = λ (u : Slot). P (view_unit blank u) in
      record {
        is = oldest-seen;
        ok =
            subst (λ m. IfSome m UnitOk) (sym (e blank))
            (least-All (λ u. seq_of (view_unit blank u)) UnitOk (filter passes (slots us)) (filter-All UnitOk passes (slots us) (slots-ok ok)));
      }

-- ── The oldest queued operation ─────────────────────────────────────────────

older-sooner : (o : Op) (m : Option Op) → older_op o m ≡ sooner (λ p. p.core.seq) o m
unfolding older_op
older-sooner o None = refl
older-sooner o (Some p) = refl

oldest_op-least : (os : List Op) → oldest_op os ≡ least (λ o. o.core.seq) os
unfolding oldest_op least
oldest_op-least [] = refl
oldest_op-least (o ∷ os) = older-sooner o (oldest_op os) ∙ ap (sooner (λ p. p.core.seq) o) (oldest_op-least os)

pub queued_means : {q : Queue} → QueueOk q → {r : Option Queued} → r ≡ least (λ x. x.seq) (entries q)
    → MeansFor view_maybe_op MaybeOpOk r (λ g. oldest_op (view_queue g q))
unfolding view_queued op_with
queued_means {q} ok {r} e =
    record {
      is = λ g.
          ap (option_map (view_queued g)) e ∙ sym (least-map (λ o. o.core.seq) (view_queued g) (entries q)) ∙ sym (oldest_op-least (map (view_queued g) (entries q)))
          ∙ ap oldest_op (sym (queue-map g q));
      ok = subst (λ m. IfSome m QueuedOk) (sym e) (least-All (λ x. x.seq) QueuedOk (entries q) (entries-ok ok));
    }

pub All-get : {A : Type 0} (P : A → Type 0) (xs : List A) (i : ℕ) → All P xs → IfSome (slice_get xs i) P
All-get P [] i a = tt
All-get P (x ∷ xs) zero a = a.0
All-get P (x ∷ xs) (suc i) a = All-get P xs i a.1

-- ── Of all in flight ────────────────────────────────────────────────────────

keep-filter : {A : Type 0} (p : A → Bool) (xs : List A) → keep p xs ≡ filter p xs
unfolding keep
keep-filter p [] = refl
keep-filter p (x ∷ xs) = by (p x) refl (keep-filter p xs)
  where
    by : (b : Bool) → p x ≡ b → keep p xs ≡ filter p xs → keep p (x ∷ xs) ≡ filter p (x ∷ xs)
    by true e h = rw e (ap (λ l. x ∷ l) h)
    by false e h = rw e h

abbrev held-by : Legend → Slot → Op
held-by g u = unit_op (view_unit g u)

abbrev number : Op → ℕ
number o = o.core.seq

-- What `oldest_busy` finds is the least of the busy ones.
module _ (xs : List Slot) {r : Option ℕ} (e : r ≡ oldest_busy xs) where
  told : {s : Option ℕ} → r ≡ s → Oldest xs s
  told h = subst (Oldest xs) (sym e ∙ h) (oldest-is xs)

  module _ {i : ℕ} (h : r ≡ Some i) where
    pub found_below : i < length xs
    found_below = ⊎_elim (λ (l : i < length xs). l) (λ (l : length xs ≤ i). none-some (told h).0 (sym (nth_end xs l) ∙ (told h).1.here)) (lt-or-ge i (length xs))

    found_least : (d : Slot) → Some (get_or xs i d) ≡ least (λ u. u.seq) (filter (λ u. u.busy) xs)
    found_least d =
        let w = (told h).1 in
        sym (nth-get_or xs d found_below) ∙ w.here ∙ least_at (λ u. u.seq) (λ u. u.busy) xs i (told h).0 w.here w.busy w.least w.first

  none_busy : r ≡ None → None ≡ least (λ u. u.seq) (filter (λ u. u.busy) xs)
  none_busy h = least-none (λ u. u.seq) (λ u. u.busy) xs (told h)

all-least : (us : Units) (q : Queue) (m : Option Slot) → m ≡ least (λ u. u.seq) (filter (λ u. u.busy) (slots us))
    → (g : Legend) → oldest_op (map unit_op (keep is_busy (view_units g us)) ++ view_queue g q) ≡ sooner-of number (option_map (held-by g) m) (oldest_op (view_queue g q))
unfolding view_unit op_with is_busy unit_op
all-least us q m e g =
    let busy : List Slot = filter (λ u. u.busy) (slots us) in
    let ops : map unit_op (keep is_busy (view_units g us)) ≡ map (held-by g) busy =
    ap (map unit_op) (ap (keep is_busy) (units-map g us) ∙ keep-filter is_busy (map (view_unit g) (slots us)) ∙ filter-read (view_unit g) is_busy (slots us))
    ∙ map-map unit_op (view_unit g) busy in
    oldest_op-least (map unit_op (keep is_busy (view_units g us)) ++ view_queue g q)
    ∙ ap (λ l. least number (l ++ view_queue g q)) ops
    ∙ least-append number (map (held-by g) busy) (view_queue g q)
    ∙ ap₂ (sooner-of number) (least-map number (held-by g) busy ∙ ap (option_map (held-by g)) (sym e)) (sym (oldest_op-least (view_queue g q)))

-- r is where the oldest busy unit stands.
module _ {us : Units} (ok : UnitsOk us) (q : Queue) {xs : List Slot} (a : xs ≡ slots us) {r : Option ℕ} (e : r ≡ oldest_busy xs) where
  pub busy_ok : {i : ℕ} → r ≡ Some i → (d : Slot) → UnitOk (get_or xs i d)
  busy_ok h d = All-get_or UnitOk xs d (subst (All UnitOk) (sym a) (slots-ok ok)) (found_below xs e h)

  -- behind is the oldest queued operation.
  module _ {behind : Option Queued} (b : MeansFor view_maybe_op MaybeOpOk behind (λ g. oldest_op (view_queue g q))) where
    pub flight_busy : {i : ℕ} → r ≡ Some i → (d : Slot) {y : Queued} → MeansFor view_queued QueuedOk y (λ g. held-by g (get_or xs i d)) → {o : Option Queued}
        → MeansFor view_maybe_op MaybeOpOk o (λ g. older_op (view_queued g y) (view_maybe_op g behind))
        → MeansFor view_maybe_op MaybeOpOk o (λ g. oldest_op (map unit_op (keep is_busy (view_units g us)) ++ view_queue g q))
    flight_busy {i} h d w n =
        record {
          is = λ g.
              n.is g ∙ ap₂ older_op (w.is g) (b.is g) ∙ older-sooner (held-by g (get_or xs i d)) (oldest_op (view_queue g q))
              ∙ sym (all-least us q (Some (get_or xs i d)) (found_least xs e h d ∙ ap (λ l. least (λ u. u.seq) (filter (λ u. u.busy) l)) a) g);
          ok = n.ok;
        }

    pub flight_queued : r ≡ None → MeansFor view_maybe_op MaybeOpOk behind (λ g. oldest_op (map unit_op (keep is_busy (view_units g us)) ++ view_queue g q))
    flight_queued h =
        record {
          is = λ g. b.is g ∙ sym (all-least us q None (none_busy xs e h ∙ ap (λ l. least (λ u. u.seq) (filter (λ u. u.busy) l)) a) g);
          ok = b.ok;
        }

-- ── One at a place ──────────────────────────────────────────────────────────

pub unit_there : {us : Units} → UnitsOk us → (i : ℕ) {r : Option Slot} → r ≡ slice_get (slots us) i
    → MeansFor view_maybe_unit MaybeUnitOk r (λ g. slice_get (view_units g us) i)
unit_there {us} ok i e =
    record {
      is = λ g. ap (option_map (view_unit g)) e ∙ sym (slice_get-map (view_unit g) (slots us) i) ∙ ap (λ l. slice_get l i) (sym (units-map g us));
      ok = subst (λ m. IfSome m UnitOk) (sym e) (All-get UnitOk (slots us) i (slots-ok ok));
    }

pub queued_there : {q : Queue} → QueueOk q → (i : ℕ) {r : Option Queued} → r ≡ slice_get (entries q) i
    → MeansFor view_maybe_op MaybeOpOk r (λ g. slice_get (view_queue g q) i)
queued_there {q} ok i e =
    record {
      is = λ g. ap (option_map (view_queued g)) e ∙ sym (slice_get-map (view_queued g) (entries q) i) ∙ ap (λ l. slice_get l i) (sym (queue-map g q));
      ok = subst (λ m. IfSome m QueuedOk) (sym e) (All-get QueuedOk (entries q) i (entries-ok ok));
    }

-- ── Older than a number ─────────────────────────────────────────────────────

before-walk : (g : Legend) (n : ℕ) (us : List Slot) → list_any (is_before n) (map unit_op (keep is_busy (map (view_unit g) us))) ≡ list_any (λ u. u.busy && ltb u.seq n) us
unfolding keep view_unit op_with is_busy unit_op
before-walk g n [] = refl
before-walk g n (u ∷ us) = by u.busy (before-walk g n us)
  where
    by : (b : Bool) → list_any (is_before n) (map unit_op (keep is_busy (map (view_unit g) us))) ≡ list_any (λ v. v.busy && ltb v.seq n) us
        → list_any (is_before n) (map unit_op (cond b (view_unit g u ∷ []) [] ++ keep is_busy (map (view_unit g) us)))
        ≡ ((b && ltb u.seq n) || list_any (λ v. v.busy && ltb v.seq n) us)
    by true h = ap (λ t. ltb u.seq n || t) h
    by false h = h

pub units_before : (us : Units) (n : ℕ) {r : Bool} {xs : List Slot} → xs ≡ slots us → r ≡ list_any (λ u. u.busy && ltb u.seq n) xs
    → (g : Legend) → r ≡ list_any (is_before n) (map unit_op (keep is_busy (view_units g us)))
units_before us n k e g = e ∙ ap (list_any (λ u. u.busy && ltb u.seq n)) k ∙ sym (ap (λ l. list_any (is_before n) (map unit_op (keep is_busy l))) (units-map g us) ∙ before-walk g n (slots us))

pub queue_before : (q : Queue) (n : ℕ) {r : Bool} {xs : List Queued} → xs ≡ entries q → r ≡ list_any (λ x. ltb x.seq n) xs → (g : Legend) → r ≡ list_any (is_before n) (view_queue g q)
unfolding view_queued op_with
queue_before q n k e g = e ∙ ap (list_any (λ x. ltb x.seq n)) k ∙ sym (ap (list_any (is_before n)) (queue-map g q) ∙ any-map (view_queued g) (λ x. ltb x.seq n) (is_before n) (λ x. refl) (entries q))

-- ── How many ────────────────────────────────────────────────────────────────

count-filter : {A : Type 0} (p : A → Bool) (xs : List A) → count p xs ≡ length (filter p xs)
unfolding count
count-filter p [] = refl
count-filter p (x ∷ xs) = by (p x) refl (count-filter p xs)
  where
    by : (b : Bool) → p x ≡ b → count p xs ≡ length (filter p xs) → count p (x ∷ xs) ≡ length (filter p (x ∷ xs))
    by true e h = rw e (omega (arith, h))
    by false e h = rw e (omega (arith, h))

pub units_count : (p : FunctionalUnit → Bool) (us : Units) {r : ℕ} → ((g : Legend) → r ≡ length (filter (λ u. p (view_unit g u)) (slots us)))
    → (g : Legend) → r ≡ count p (view_units g us)
units_count p us e g =
    e g ∙ sym (ap (count p) (units-map g us) ∙ count_map (view_unit g) (λ u. p (view_unit g u)) p (λ u. refl) (slots us) ∙ count-filter (λ u. p (view_unit g u)) (slots us))

-- ── On offer ────────────────────────────────────────────────────────────────

-- The model's unit at a place.
pub unit_read : {us : Units} (g : Legend) (d : Slot) {i : ℕ} → UnitsOk us → i < us.len → unit_at (view_units g us) i ≡ view_unit g (get_or us.items i d)
unfolding unit_at
unit_read g d ok h = value_or-some (idle_unit 0 0) (seen-nth (units-next ok g d h))

-- ── What `get` gives of the units ───────────────────────────────────────────

module _ (us : Units) (i : ℕ) (m : Option (Bor Slot)) (e : option_map (λ x. x.now) m ≡ slice_get (slots us) i) where
  pub units-get : (g : Legend) → slice_get (view_units g us) i ≡ option_map (view_unit g) (option_map (λ x. x.now) m)
  units-get g = ap (λ l. slice_get l i) (units-map g us) ∙ slice_get-map (view_unit g) (slots us) i ∙ ap (option_map (view_unit g)) (sym e)

  -- What holds of all of them holds of it.
  pub All-got : (P : Slot → Type 0) → All P (slots us) → (u : Bor Slot) → m ≡ Some u → P u.now
  All-got P a u h = subst (λ o. IfSome o P) (sym e ∙ ap (option_map (λ x. x.now)) h) (All-get P (slots us) i a)
