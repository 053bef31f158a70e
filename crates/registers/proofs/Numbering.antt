-- The loop that numbers a list of names.
use Rattle.op.specs.declared.chars.Chars.{Chars}
use Prim.Native.Nat.{ℕ, zero, suc, ◌+◌, ◌<◌}
use mathlib.Core.Path.{◌≡◌, refl, sym, subst, ap, ◌∙◌}
use mathlib.Core.List.{List, [], ◌∷◌, ◌++◌, map, append-nil}
use native.Mathlib.Nat.{le_refl, not-suc-le-zero, le_of_suc-le-suc}
use native.Mathlib.Omega.{arith}
use lib.ListN.{length, get_or, take, drop, set, length-map}
use lib.Seq.{append_snoc}
use borrow.Author.Tests.{lt-ltb, le-ltb, ltb-true, not-false}
use Rattle.std.specs.Prelude.{Option, None, Some, is_some, IfSome}
use Rattle.std.proofs.lemmas.List.{drop_all, take_more_set}
use Rattle.laws.specs.Lists.{All}
use Rattle.laws.specs.Texts.{Text}
use Rattle.laws.proofs.Tests.{not_yes, not-no}
use Rattle.laws.proofs.Choices.{none-some, some_inj}
use Rattle.laws.proofs.Slices.{list-next, view-seen}
use Rattle.model.specs.Registers.{interned, intern, numbered, number_first, intern_all}
use Rattle.op.specs.Chars.{view_text}
use Rattle.registers.specs.declared.RegisterTable.{RegisterTable}
use Rattle.registers.specs.View.{view_known, view_held, Short, NameOk, TableOk}
use Rattle.registers.specs.Hints.{Grown}
use Rattle.registers.specs.Promises.{InternedTo, NumberedTo}
use Rattle.registers.proofs.Interning.{all-grows}
use Rattle.registers.proofs.Hints.{grown_more}
use Rattle.registers.proofs.NameTable.{held-length, table-most}

-- Of the names the first i have their numbers in ks; ns are the names then, ns₀ those at the start.
pub record Numbering (ns₀ : List Text) (names : List (Chars 16)) (ns : List Text) (ks : List ℕ) (i : ℕ) : Type 0 where
  pub is : numbered (take i ks ++ (intern_all ns (drop i (map view_text names))).numbers) (intern_all ns (drop i (map view_text names))).names
      ≡ intern_all ns₀ (map view_text names)

pub numbering-first : {ns : List Text} {names : List (Chars 16)} {ks : List ℕ} → Numbering ns names ns ks 0
numbering-first = record { is = refl }

module _ {ns₀ ns : List Text} {names : List (Chars 16)} {ks : List ℕ} {i : ℕ} (e : Numbering ns₀ names ns ks i) where
  module _ (d : Chars 16) (h : i < length names) where
    -- From the next name on.
    from : intern_all ns (drop i (map view_text names))
        ≡ number_first (intern ns (view_text (get_or names i d))).number
        (intern_all (intern ns (view_text (get_or names i d))).names (drop (i + 1) (map view_text names)))
    unfolding intern_all
    from = ap (intern_all ns) (view-seen view_text names d (list-next (map view_text names) (view_text d) (rw length-map h))).is

    -- It gets k, and ls are the names then.
    pub numbering-next : {k : ℕ} {ls : List Text} → i < length ks → interned k ls ≡ intern ns (view_text (get_or names i d))
        → Numbering ns₀ names ls (set ks i k) (i + 1)
    numbering-next {k} {ls} room p =
        let rest = drop (i + 1) (map view_text names) in
        record {
          is =
              ap (λ l. numbered (l ++ (intern_all ls rest).numbers) (intern_all ls rest).names) (take_more_set ks i k room)
              ∙ ap (λ l. numbered l (intern_all ls rest).names) (append_snoc (take i ks) k (intern_all ls rest).numbers)
              ∙ ap (λ r. numbered (take i ks ++ (r.number ∷ (intern_all r.names rest).numbers)) (intern_all r.names rest).names) p
              ∙ ap (λ r. numbered (take i ks ++ r.numbers) r.names) (sym from)
              ∙ e.is;
        }

    -- Where one name more is too many, so are they all.
    pub numbering-full : 256 < length (intern ns (view_text (get_or names i d))).names → 256 < length (intern_all ns₀ (map view_text names)).names
    numbering-full more =
        omega (
          arith,
          all-grows (intern ns (view_text (get_or names i d))).names (drop (i + 1) (map view_text names)),
          ap (λ r. length r.names) from,
          ap (λ r. length r.names) e.is,
        )

  -- All have their numbers.
  all-numbered : length names ≡ i → numbered (take (length (map view_text names)) ks) ns ≡ intern_all ns₀ (map view_text names)
  unfolding intern_all
  all-numbered h =
      ap (λ n. numbered (take n ks) ns) (length-map names view_text ∙ h)
      ∙ ap (λ l. numbered l ns) (sym (append-nil (take i ks)))
      ∙ ap (λ l. numbered (take i ks ++ (intern_all ns l).numbers) (intern_all ns l).names) (sym (drop_all i (map view_text names) (rw (length-map, h) (le_refl i))))
      ∙ e.is

  pub numbering-last : length names ≡ i → (ls : List ℕ) → Some ks ≡ Some ls
      → numbered (take (length (map view_text names)) ls) ns ≡ intern_all ns₀ (map view_text names)
  numbering-last h ls q = subst (λ l. numbered (take (length (map view_text names)) l) ns ≡ intern_all ns₀ (map view_text names)) (some_inj ks ls q) (all-numbered h)

-- ── By a table ────────────────────────────────────────────────────────────────

pub short-at : (names : List (Chars 16)) (i : ℕ) (d : Chars 16) → All Short (map view_text names) → i < length names → NameOk (get_or names i d)
short-at [] i d a h = absurd (not-suc-le-zero h)
short-at (x ∷ xs) zero d a h = a.0
short-at (x ∷ xs) (suc i) d a h = short-at xs i d a.1 (le_of_suc-le-suc h)

-- s is the table then, t the one at the start.
module _ {t s : RegisterTable} {names : List (Chars 16)} {ks : List ℕ} {i : ℕ} (known : view_known s ≡ view_known t)
    (grown : Grown t s)
    (e : Numbering (view_held t) names (view_held s) ks i) (n : ℕ) where
  pub numbered-none : TableOk t → TableOk s → {u : RegisterTable} {r : Option ℕ} {q : Option (List ℕ)} (d : Chars 16) → i < length names → InternedTo s (view_text (get_or names i d)) u r → r ≡ None → q ≡ None
      → NumberedTo t n (map view_text names) u q
  numbered-none first now {u} {r} {q} d h f p z =
      let more = ltb-true 256 _ (not-false _ (sym f.fits ∙ ap is_some p)) in
      record {
        fits = ap is_some z ∙ sym (not-no (lt-ltb 256 _ (numbering-full e d h more)));
        is = λ ls y. absurd (none-some ls (sym z ∙ y));
        known = f.known ∙ known;
        grown = grown_more (held-length first) (held-length now) grown f.grown;
        size = subst (λ o. IfSome o (λ (l : List ℕ). length l ≡ n)) (sym z) tt;
        ok = f.ok;
      }

  pub numbered-all : TableOk s → length ks ≡ n → length names ≡ i → NumberedTo t n (map view_text names) s (Some ks)
  numbered-all ok size h =
      record {
        fits = sym (not_yes (le-ltb 256 _ (table-most ok _ (ap (λ r. r.names) (all-numbered e h)))));
        is = numbering-last e h;
        known = known;
        grown = grown;
        size = size;
        ok = ok;
      }
