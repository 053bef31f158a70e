-- The table of names: read at a place, and with one name more.
use Rattle.op.specs.declared.chars.Chars.{Chars}
use Prim.Native.Nat.{ℕ, zero, suc, ◌+◌, ◌≤◌, ◌<◌, min}
use mathlib.Core.Path.{◌≡◌, refl, sym, subst, ap, ap₂, ◌∙◌}
use mathlib.Core.Bool.{Bool, true, false, cond}
use mathlib.Core.Logic.{⊎_elim}
use Rattle.std.specs.Prelude.{Option, None, Some, slice_get}
use Rattle.std.specs.List.{position_from}
use mathlib.Core.List.{List, [], ◌∷◌, ◌++◌, map}
use native.Mathlib.Omega.{arith}
use native.Mathlib.Numerals.{add-one}
use lib.Dec.{lit≤}
use lib.ListN.{length, get_or, take, drop, set, replicate, length-set, length-take, length-replicate, length-append}
use lib.Seq.{drop-nil, take-take, take-set-le}
use borrow.Author.Tests.{lt-ltb, le-ltb}
use Rattle.laws.specs.Means.{Means}
use Rattle.laws.specs.Optional.{value_or, when_some}
use Rattle.laws.specs.Texts.{Text, same, bytes}
use Rattle.laws.proofs.Tests.{lt-or-ge, not_yes, not-no}
use Rattle.laws.proofs.Choices.{none-some, some_inj}
use Rattle.laws.proofs.Slices.{seen-nth, view-next, view-length, map-set, nth-take, nth_end, All-get_or, All-set, All-take, All-drop, All-replicate}
use Rattle.laws.proofs.Shift.{view-pushed}
use Rattle.model.specs.Registers.{interned, intern, get, name_of}
use Rattle.runs.proofs.Names.{Apart, Distinct}
use Rattle.op.specs.Chars.{view_text}
use Rattle.op.proofs.Firsts.{take-least}
use Rattle.op.proofs.Texts.{shown-long, shown-short}
use Rattle.registers.specs.declared.RegisterTable.{RegisterTable}
use Rattle.registers.specs.View.{view_known, view_held, table_of, view_table, NameOk, TableOk}
use Rattle.registers.specs.Hints.{bucket_of, Empty}
use Rattle.registers.specs.Promises.{InternedTo}
use Rattle.registers.proofs.Hints.{grown_none, grown_push}
use Rattle.registers.proofs.Interning.{same-yes, intern-here, intern-behind, number-most, names-held, names-new, get-held, get-new, intern-distinct}

-- What a read past the end would give.
abbrev pub spare : (Chars 16)
spare = record { bytes = []; len = 0 }

-- The count of a name within its limits, and back.
module _ (x : Chars 16) where
  pub name-count : NameOk x → x.len ≤ 16
  unfolding view_text
  name-count ok =
      ⊎_elim (λ h. absurd (let z : ⊥ = omega (arith, ok, ap length (shown-long 16 x.len x.bytes h), length-replicate {A = ℕ} x.len 0) in z)) (λ h. h)
      (lt-or-ge 16 x.len)

  pub name-ok : x.len ≤ 16 → NameOk x
  unfolding view_text
  name-ok h = rw (shown-short 16 x.len x.bytes h, length-take) (omega arith)

module _ {t : RegisterTable} (ok : TableOk t) where
  room : t.held ≤ length t.names
  room = omega (arith, ok.size, ok.held)

  pub held-read : {i : ℕ} → i < t.held → NameOk (get_or t.names i spare)
  held-read h = All-get_or NameOk t.names spare ok.each (omega (arith, room))

  pub held-length : length (view_held t) ≡ t.held
  unfolding view_held
  held-length = view-length view_text t.names room

  pub table-most : (ms : List Text) → view_held t ≡ ms → length ms ≤ 256
  table-most ms e = omega (arith, ap length e, held-length, ok.held)

  pub known-length : length (view_known t) ≡ t.known
  unfolding view_known
  known-length = view-length view_text t.names (omega (arith, room, ok.known))

  -- The names known are the first of those held.
  pub known-held : view_known t ≡ take t.known (view_held t)
  unfolding view_known view_held
  known-held = sym (take-take t.known t.held (map view_text t.names) ok.known)

  -- A register that is known has one name in both.
  pub name-known : {r : ℕ} → r < t.known → name_of (view_known t) r ≡ name_of (view_held t) r
  unfolding name_of
  name-known {r} h = ap (value_or (bytes "?")) (ap (λ l. slice_get l r) known-held ∙ nth-take (view_held t) h)

  pub named : {r : ℕ} → r < t.held → Means view_text NameOk (get_or t.names r spare) (name_of (view_held t) r)
  unfolding name_of view_held
  named h = record { is = sym (ap (value_or (bytes "?")) (seen-nth (view-next view_text t.names spare room h))); ok = held-read h }

  pub unnamed : {r : ℕ} {x : Chars 16} → t.held ≤ r → view_text x ≡ bytes "?" → Means view_text NameOk x (name_of (view_held t) r)
  unfolding name_of bytes
  unnamed h e = record { is = e ∙ sym (ap (value_or (bytes "?")) (nth_end (view_held t) (omega (arith, held-length)))); ok = rw e (lit≤ tt) }

-- No name yet.
pub empty-table : (x : Chars 16) → view_text x ≡ [] → Empty (record { names = replicate 256 x; hints = replicate 1024 0; known = 0; held = 0 })
unfolding view_known view_held
empty-table x e =
    record {
      is = refl;
      ok = record { known = omega arith; held = omega arith; size = refl; hints = refl; each = All-replicate NameOk 256 x (rw e (lit≤ tt)); distinct = tt };
      hints = refl;
    }

-- ── The search ────────────────────────────────────────────────────────────────

abbrev one_more : Option ℕ → Option ℕ
one_more o = when_some o None (λ (k : ℕ). Some (suc k))

more-here : (b : Bool) (i : ℕ) (o p : Option ℕ) → o ≡ one_more p → cond b (Some (i + 1)) o ≡ one_more (cond b (Some i) p)
more-here true i o p e = ap Some (add-one i)
more-here false i o p e = e

position-more : (p : Chars 16 → Bool) (i : ℕ) (l : List (Chars 16)) → position_from p (i + 1) l ≡ one_more (position_from p i l)
position-more p i [] = refl
position-more p i (x ∷ xs) = more-here (p x) i (position_from p (i + 1 + 1) xs) (position_from p (i + 1) xs) (position-more p (i + 1) xs)

-- As a search of the array.
pub get_position : (a : Text) (n : ℕ) (l : List (Chars 16)) → get (take n (map view_text l)) a ≡ position_from (λ x. same (view_text x) a) 0 (take n l)
unfolding get
get_position a zero l = refl
get_position a (suc n) [] = refl
get_position a (suc n) (x ∷ xs) =
    ap (λ o. cond (same (view_text x) a) (Some 0) (one_more o)) (get_position a n xs)
    ∙ ap (λ o. cond (same (view_text x) a) (Some 0) o) (sym (position-more (λ y. same (view_text y) a) 0 (take n xs)))

module _ (ns : List Text) (a : Text) where
  -- A name that is there.
  pub get-some : {k : ℕ} → get ns a ≡ Some k → (k < length ns) × (interned k ns ≡ intern ns a)
  get-some {k} e =
      ⊎_elim
      (λ h.
      let q : k ≡ (intern ns a).number = some_inj k (intern ns a).number (sym e ∙ get-held a ns h) in
      (omega (arith, h, q), ap₂ interned q (sym (names-held a ns h))))
      (λ h. absurd (none-some k (sym (get-new a ns h) ∙ e))) (lt-or-ge (intern ns a).number (length ns))

  -- A new one goes to the end.
  pub get_none : get ns a ≡ None → intern ns a ≡ interned (length ns) (ns ++ a ∷ [])
  get_none e =
      ⊎_elim (λ h. absurd (none-some (intern ns a).number (sym e ∙ get-held a ns h)))
      (λ h. let q : (intern ns a).number ≡ length ns = omega (arith, number-most a ns, h) in ap₂ interned q (names-new a ns h))
      (lt-or-ge (intern ns a).number (length ns))

-- ── A hint ──────────────────────────────────────────────────────────────────

apart-drop : (x v : Text) (xs : List Text) (k : ℕ) {rest : List Text} → Apart x xs → drop k xs ≡ v ∷ rest → same x v ≡ false
apart-drop x v xs k d p = (subst (Apart x) p (All-drop (λ (y : Text). same x y ≡ false) k xs d)).0

-- In a table of distinct names the place of a name is its number.
only-place : (a v : Text) (ns : List Text) (k : ℕ) {rest : List Text} → Distinct ns → drop k ns ≡ v ∷ rest → same v a ≡ true
    → k ≡ (intern ns a).number
only-place a v [] k {rest} d p e =
    let z : ◌≡◌ {A = ℕ} 0 (suc (length rest)) = ap length (sym (drop-nil {A = Text} k) ∙ p) in absurd (let y : ⊥ = omega arith in y)
only-place a v (x ∷ xs) zero d p e =
    let q : x ≡ v = ap (λ (l : List Text). get_or l 0 x) p in
    sym (ap (λ r. r.number) (intern-here a x xs (subst (λ y. same y a ≡ true) (sym q) e)))
only-place a v (x ∷ xs) (suc k) d p e =
    let f : same x a ≡ false = subst (λ y. same x y ≡ false) (same-yes v a e) (apart-drop x v xs k d.0 p) in
    ap suc (only-place a v xs k d.1 p e) ∙ sym (ap (λ r. r.number) (intern-behind a x xs f))

module _ {t : RegisterTable} (ok : TableOk t) where
  -- A hint is right where the name stands there.
  pub hint_right : (a : Text) {h : ℕ} → h < t.held → same (view_text (get_or t.names h spare)) a ≡ true
      → position_from (λ x. same (view_text x) a) 0 (take t.held t.names) ≡ Some h
  unfolding view_held
  hint_right a {h} l e =
      let s = view-next view_text t.names spare (room ok) l in
      sym (get_position a t.held t.names)
      ∙ get-held a (view_held t) (omega (arith, only-place a _ (view_held t) h ok.distinct s.is e, held-length ok, l))
      ∙ ap Some (sym (only-place a _ (view_held t) h ok.distinct s.is e))

-- ── One name more ─────────────────────────────────────────────────────────────

-- At a place, with a hint at a number in a bucket.
abbrev put : RegisterTable → Chars 16 → ℕ → ℕ → ℕ → RegisterTable
put t x i b k = record { names = set t.names i x; hints = set t.hints b k; known = t.known; held = t.held + 1 }

module _ {t : RegisterTable} (ok : TableOk t) where
  pub interned-held : (a : Text) {k : ℕ} → get (view_held t) a ≡ Some k → InternedTo t a t (Some k)
  interned-held a {k} e =
      let q = (get-some (view_held t) a e).1 in
      record {
        fits = sym (not_yes (le-ltb 256 _ (table-most ok (intern (view_held t) a).names (ap (λ r. r.names) q))));
        is = λ j p. rw (sym (some_inj k j p)) q;
        same = λ p. refl;
        known = refl;
        grown = grown_none (held-length ok);
        ok = ok;
      }

  module _ (x : Chars 16) (e : get (view_held t) (view_text x) ≡ None) where
    longer : length (intern (view_held t) (view_text x)).names ≡ t.held + 1
    longer = ap (λ r. length r.names) (get_none (view_held t) (view_text x) e) ∙ length-append (view_held t) (view_text x ∷ []) ∙ ap (λ n. n + 1) (held-length ok)

    pub interned-full : 256 ≤ t.held → InternedTo t (view_text x) t None
    interned-full h =
        record {
          fits = sym (not-no (lt-ltb 256 (length (intern (view_held t) (view_text x)).names) (omega (arith, longer, h))));
          is = λ j p. absurd (none-some j p);
          same = λ p. refl;
          known = refl;
          grown = grown_none (held-length ok);
          ok = ok;
        }

    -- Behind the others.
    put-last : NameOk x → t.held < 256 → InternedTo t (view_text x) (put t x t.held (bucket_of (view_text x)) t.held) (Some t.held)
    unfolding view_held view_known
    put-last fits h =
        record {
          fits = sym (not_yes (le-ltb 256 (length (intern (view_held t) (view_text x)).names) (omega (arith, longer, h, ok.held))));
          is = λ j p. ap₂ interned (sym (some_inj t.held j p)) held ∙ sym (get_none (view_held t) (view_text x) e ∙ ap (λ n. interned n (view_held t ++ view_text x ∷ [])) (held-length ok));
          same = λ p. absurd (none-some t.held (sym p));
          known = ap (take t.known) (map-set view_text t.names t.held x) ∙ take-set-le t.known (map view_text t.names) t.held (view_text x) ok.known;
          grown = grown_push (held-length ok) (view_text x) held refl;
          ok =
              record {
                known = omega (arith, ok.known);
                held = omega (arith, h, ok.held);
                size = length-set t.names t.held x ∙ ok.size;
                hints = length-set t.hints (bucket_of (view_text x)) t.held ∙ ok.hints;
                each = All-set NameOk t.names t.held x ok.each fits;
                distinct =
                    subst Distinct (ap (λ r. r.names) (get_none (view_held t) (view_text x) e) ∙ sym held)
                    (intern-distinct (view_held t) (view_text x) ok.distinct);
              };
        }
      where
        held : view_held (put t x t.held (bucket_of (view_text x)) t.held) ≡ view_held t ++ view_text x ∷ []
        held = view-pushed view_text t.names t.held x (omega (arith, ok.size, ok.held, h))

    pub interned-new : {i b k : ℕ} → i ≡ t.held → b ≡ bucket_of (view_text x) → k ≡ t.held → NameOk x → t.held < 256
        → InternedTo t (view_text x) (put t x i b k) (Some t.held)
    interned-new {i} {b} {k} p q r fits h =
        subst (λ j. InternedTo t (view_text x) (put t x j b k) (Some t.held)) (sym p)
        (subst (λ j. InternedTo t (view_text x) (put t x t.held j k) (Some t.held)) (sym q)
        (subst (λ j. InternedTo t (view_text x) (put t x t.held (bucket_of (view_text x)) j) (Some t.held)) (sym r) (put-last fits h)))

-- ── The counts ────────────────────────────────────────────────────────────────

distinct-take : (n : ℕ) (ns : List Text) → Distinct ns → Distinct (take n ns)
distinct-take zero ns d = tt
distinct-take (suc n) [] d = tt
distinct-take (suc n) (x ∷ xs) d = (All-take (λ (y : Text). same x y ≡ false) n xs d.0, distinct-take n xs d.1)

module _ {t : RegisterTable} (ok : TableOk t) where
  -- The first n of the names held are known.
  pub raised : (n : ℕ) {k : ℕ} → k ≡ min n t.held
      → Means view_table TableOk (record { names = t.names; hints = t.hints; known = k; held = t.held }) (table_of (take n (view_held t)) (view_held t))
  unfolding view_known view_held
  raised n {k} e =
      record {
        is =
            ap (λ l. table_of l (view_held t))
            (sym (take-take k t.held (map view_text t.names) (omega arith))
            ∙ take-least (view_held t) n {k = k} (rw (held-length ok) e));
        ok = record { known = omega arith; held = ok.held; size = ok.size; hints = ok.hints; each = ok.each; distinct = ok.distinct };
      }

  -- Only the names known are held.
  pub lowered : Means view_table TableOk (record { names = t.names; hints = t.hints; known = t.known; held = t.known }) (table_of (view_known t) (view_known t))
  unfolding view_known view_held
  lowered =
      record {
        is = refl;
        ok =
            record {
              known = omega arith;
              held = omega (arith, ok.known, ok.held);
              size = ok.size;
              hints = ok.hints;
              each = ok.each;
              distinct = subst Distinct (sym (known-held ok)) (distinct-take t.known (view_held t) ok.distinct);
            };
      }
