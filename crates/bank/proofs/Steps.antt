-- The units read and written by place, and the loops that change each.
use Rattle.std.proofs.Common.{
  Bool,
  true,
  false,
  cond,
  not,
  ◌||◌,
  count_by,
  zero-add,
  ℕ,
  ◌+◌,
  ◌≤◌,
  ◌<◌,
  ◌≡◌,
  refl,
  sym,
  ap,
  ◌∙◌,
  List,
  [],
  ◌∷◌,
  ◌++◌,
  map,
  arith,
  length,
  get_or,
  set,
  take,
  drop,
  replicate,
  le_refl,
}
use Rattle.std.proofs.lemmas.List.{take_all}
use Rattle.std.proofs.lemmas.List.Sums.{sum_by-cons}
use Rattle.std.specs.List.{list_any}
use mathlib.Core.List.{map-map}
use lib.Dec.{eqb}
use borrow.Author.Tests.{ne_eqb}
use lib.ListN.{length-set, length-append, length-drop}
use lib.Seq.{set-get_or, get_or-take, length-take-le, take_at}
use Rattle.laws.specs.Lists.{All, modify}
use Rattle.laws.proofs.Slices.{
  Seen,
  take-map,
  slice-end,
  seen-get_or,
  view-length,
  view-next,
  view-set,
  view-modify,
  All-get_or,
  All-set,
  All-take,
  All-drop,
  All-append,
}
use Rattle.laws.proofs.Maps.{any-map, length-of}
use Rattle.laws.proofs.Map.{Changed, Mapped, mapped-first, mapped-read, mapped_next, changed-map}
use Rattle.laws.proofs.Shift.{view-pushed}
use Rattle.model.specs.Units.{FunctionalUnit, is_busy, tick, begin, read_one}
use Rattle.flight.specs.View.{Legend}
use Rattle.units.specs.declared.Unit.{Unit as Slot}
use Rattle.units.specs.View.{view_unit, UnitOk, UnitIs}
use Rattle.units.specs.Lent.{busy_count}
use Rattle.bank.specs.declared.Units.{Units}
use Rattle.bank.specs.View.{view_units, slots, places, UnitsOk, UnitsAre}

-- The same units, said otherwise.
pub units-so : {r : Units} {m n : Legend → List FunctionalUnit} {ps qs : List ℕ} → UnitsAre r m ps → ((g : Legend) → m g ≡ n g) → ps ≡ qs → UnitsAre r n qs
units-so e h q = record { is = λ g. e.is g ∙ h g; places = e.places ∙ q; ok = e.ok }

-- ── One unit ────────────────────────────────────────────────────────────────

module _ {us : Units} (ok : UnitsOk us) where
  pub room : us.len ≤ length us.items
  room = omega (arith, ok.few, ok.size)

  pub units-length : (g : Legend) → length (view_units g us) ≡ us.len
  unfolding view_units
  units-length g = view-length (view_unit g) us.items room

  pub places-length : length (places us) ≡ us.len
  unfolding places
  places-length = view-length (λ (u : Slot). u.place) us.items room

  pub unit_ok : (d : Slot) {i : ℕ} → i < us.len → UnitOk (get_or us.items i d)
  unit_ok d h = All-get_or UnitOk us.items d ok.each (omega (arith, room))

  pub units-next : (g : Legend) (d : Slot) {i : ℕ} → i < us.len → Seen (view_units g us) us.len i (view_unit g (get_or us.items i d))
  unfolding view_units
  units-next g d h = view-next (view_unit g) us.items d room h

  pub places-next : (d : Slot) {i : ℕ} → i < us.len → Seen (places us) us.len i (get_or us.items i d).place
  unfolding places
  places-next d h = view-next (λ (u : Slot). u.place) us.items d room h

  -- One unit is another: x.
  pub units-set : (f : Legend → FunctionalUnit → FunctionalUnit) (d : Slot) {x : Slot} {at p : ℕ} → at < us.len
      → UnitIs x (λ g. f g (view_unit g (get_or us.items at d))) p
      → UnitsAre (record { items = set us.items at x; len = us.len }) (λ g. modify at (f g) (view_units g us)) (set (places us) at p)
  unfolding view_units places
  units-set f d {x} {at} {p} h e =
      record {
        is = λ g. view-modify (view_unit g) us.items (f g) d room h (e.is g);
        places = view-set (λ (u : Slot). u.place) us.items x h ∙ ap (set (places us) at) e.place;
        ok = record { few = ok.few; size = length-set us.items at x ∙ ok.size; each = All-set UnitOk us.items at x ok.each e.ok };
      }

  -- One unit more: x.
  pub units-pushed : {x : Slot} {m : Legend → FunctionalUnit} {p : ℕ} → us.len < 64 → UnitIs x m p
      → UnitsAre (record { items = set us.items us.len x; len = us.len + 1 }) (λ g. view_units g us ++ m g ∷ []) (places us ++ p ∷ [])
  unfolding view_units places
  units-pushed {x} h e =
      let here : us.len < length us.items = omega (arith, ok.size) in
      record {
        is = λ g. view-pushed (view_unit g) us.items us.len x here ∙ ap (λ y. view_units g us ++ y ∷ []) (e.is g);
        places = view-pushed (λ (u : Slot). u.place) us.items us.len x here ∙ ap (λ y. places us ++ y ∷ []) e.place;
        ok = record { few = omega arith; size = length-set us.items us.len x ∙ ok.size; each = All-set UnitOk us.items us.len x ok.each e.ok };
      }

  -- It keeps its place.
  pub place_kept : (d : Slot) {at : ℕ} → at < us.len → set (places us) at (get_or us.items at d).place ≡ places us
  place_kept d {at} h = ap (set (places us) at) (sym (seen-get_or (places-next d h) 80)) ∙ set-get_or (places us) at 80

pub units-end : (g : Legend) (us : Units) {i : ℕ} → us.len ≤ i → drop i (view_units g us) ≡ []
unfolding view_units
units-end g us h = slice-end (map (view_unit g) us.items) h

-- Those that count, as a slice.
module _ {us : Units} (ok : UnitsOk us) {l : List Slot} (e : l ≡ slots us) where
  pub slots_length : length l ≡ us.len
  unfolding slots
  slots_length = ap length e ∙ length-take-le us.len us.items (room ok)

  pub slot-below : {i : ℕ} → i < length l → i < us.len
  slot-below h = omega (arith, h, slots_length)

  pub slots-end : (g : Legend) {i : ℕ} → length l ≤ i → drop i (view_units g us) ≡ []
  slots-end g h = units-end g us (omega (arith, h, slots_length))

  -- One of them.
  module _ (d : Slot) {i : ℕ} (h : i < length l) where
    unit_is : get_or l i d ≡ get_or us.items i d
    unfolding slots
    unit_is = ap (λ k. get_or k i d) e ∙ get_or-take us.len us.items i d (slot-below h)

    pub slot_ok : UnitOk (get_or l i d)
    slot_ok = rw unit_is (unit_ok ok d (slot-below h))

    pub slot-next : (g : Legend) → Seen (view_units g us) us.len i (view_unit g (get_or l i d))
    slot-next g = rw unit_is (units-next ok g d (slot-below h))

    pub slot-place : Seen (places us) us.len i (get_or l i d).place
    slot-place = rw unit_is (places-next ok d (slot-below h))

-- ── Busy ones ───────────────────────────────────────────────────────────────

-- One passes where the count is not 0.
counts-any : {A : Type 0} (p : A → Bool) (l : List A) → not (eqb (count_by p l) 0) ≡ list_any p l
counts-any p [] = refl
counts-any p (x ∷ xs) = ap (λ n. not (eqb n 0)) (sum_by-cons (λ y. cond (p y) 1 0) x xs) ∙ go (p x) (counts-any p xs)
  where
    go : (b : Bool) → not (eqb (count_by p xs) 0) ≡ list_any p xs → not (eqb (cond b 1 0 + count_by p xs) 0) ≡ (b || list_any p xs)
    go true h = ap not (ne_eqb (1 + count_by p xs) 0 (λ e. omega arith))
    go false h = ap (λ n. not (eqb n 0)) (zero-add (count_by p xs)) ∙ h

pub busy-any : (g : Legend) (us : Units) → not (eqb (busy_count (slots us)) 0) ≡ list_any is_busy (view_units g us)
unfolding view_units view_unit is_busy slots busy_count
busy-any g us =
    counts-any (λ (u : Slot). u.busy) (take us.len us.items)
    ∙ sym (any-map (view_unit g) (λ (u : Slot). u.busy) is_busy (λ u. refl) (take us.len us.items))
    ∙ ap (list_any is_busy) (sym (take-map (view_unit g) us.len us.items))

-- ── Each unit ───────────────────────────────────────────────────────────────

-- Of the units l₀ the first i are changed by f, and their places by p; the others are as they were.
pub record Each (f : FunctionalUnit → FunctionalUnit) (p : ℕ → ℕ) (l₀ l : List Slot) (i : ℕ) : Type 0 where
  pub is : (g : Legend) → Mapped (view_unit g) UnitOk (λ j. f) l₀ l (length l₀) i
  pub places : Mapped (λ (u : Slot). u.place) UnitOk (λ j. p) l₀ l (length l₀) i

module _ {f : FunctionalUnit → FunctionalUnit} {p : ℕ → ℕ} {us : Units} (ok : UnitsOk us) where
  pub each_first : Each f p (slots us) (slots us) 0
  unfolding slots
  each_first =
      let each : All UnitOk (take us.len us.items) = All-take UnitOk us.len us.items ok.each in
      record { is = λ g. mapped-first (le_refl _) each; places = mapped-first (le_refl _) each }

  module _ {l : List Slot} {i : ℕ} (e : Each f p (slots us) l i) where
    pub each_read : (d : Slot) → i < length (slots us) → UnitOk (get_or l i d)
    each_read d h = mapped-read e.places d h

    pub each_next : (d : Slot) {x : Slot} → i < length (slots us)
        → UnitIs x (λ g. f (view_unit g (get_or l i d))) (p (get_or l i d).place)
        → Each f p (slots us) (set l i x) (i + 1)
    each_next d h m =
        record {
          is = λ g. mapped_next (e.is g) d h (record { is = m.is g; ok = m.ok });
          places = mapped_next e.places d h (record { is = m.place; ok = m.ok });
        }

    -- The units that are not among the first `len` stand behind them.
    pub each_last : length (slots us) ≤ i
        → UnitsAre (record { items = l ++ drop us.len us.items; len = us.len }) (λ g. map f (view_units g us)) (map p (places us))
    unfolding view_units places slots
    each_last h =
        record {
          is = λ g. whole (view_unit g) f (e.is g).is;
          places = whole (λ (u : Slot). u.place) p e.places.is;
          ok = record {
            few = ok.few;
            size = simp (length-append, length-drop) (omega (arith, ok.size, ok.few, count));
            each = All-append UnitOk l (drop us.len us.items) e.places.array.each (All-drop UnitOk us.len us.items ok.each);
          };
        }
      where
        count : length l ≡ us.len
        count = e.places.array.size ∙ length-take-le us.len us.items (room ok)

        whole : {B : Type 0} (v : Slot → B) (q : B → B) → Changed (λ j. q) (map v (take us.len us.items)) (map v l) (length (take us.len us.items)) i
            → take us.len (map v (l ++ drop us.len us.items)) ≡ map q (take us.len (map v us.items))
        whole v q c =
            let n : ℕ = length (take us.len us.items) in
            take-map v us.len (l ++ drop us.len us.items)
            ∙ ap (map v) (take_at l (drop us.len us.items) us.len count)
            ∙ sym (take_all n (map v l) (omega (arith, length-of v l, e.places.array.size)))
            ∙ changed-map c h
            ∙ ap (map q) (take_all n (map v (take us.len us.items)) (omega (arith, length-of v (take us.len us.items))) ∙ sym (take-map v us.len us.items))

-- No unit has a place.
pub places-none : {us : Units} → UnitsOk us → map {B = ℕ} (λ (p : ℕ). 80) (places us) ≡ replicate us.len 80
places-none {us} ok = all_one (places us) ∙ ap (λ n. replicate n 80) (places-length ok)
  where
    all_one : (l : List ℕ) → map {B = ℕ} (λ (p : ℕ). 80) l ≡ replicate (length l) 80
    all_one [] = refl
    all_one (x ∷ xs) = ap (λ t. 80 ∷ t) (all_one xs)

-- The three steps of a unit in a cycle, of each unit.
abbrev pub step : FunctionalUnit → FunctionalUnit
step u = read_one (begin (tick u))

pub steps : (l : List FunctionalUnit) → map read_one (map begin (map tick l)) ≡ map step l
steps l = ap (map read_one) (map-map begin tick l) ∙ map-map read_one (λ u. begin (tick u)) l
