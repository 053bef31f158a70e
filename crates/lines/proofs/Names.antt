-- The names of a list, one by one.
use Prim.Native.Nat.{ℕ, ◌+◌, ◌≤◌, ◌<◌}
use mathlib.Core.Path.{◌≡◌, refl, sym, ap, ap₂, ◌∙◌}
use mathlib.Core.Logic.{⊎_elim}
use mathlib.Core.Bool.{Bool, true, false, cond}
use Rattle.std.specs.Prelude.{Option, None, Some}
use mathlib.Core.List.{List, [], ◌∷◌}
use native.Mathlib.Omega.{arith}
use lib.ListN.{length, take, drop}
use lib.Seq.{drop-drop}
use Rattle.laws.specs.Lists.{is_empty}
use Rattle.std.specs.List.{list_any}
use Rattle.laws.specs.Texts.{Text, bytes, same, beyond, pieces}
use Rattle.laws.proofs.Tests.{cond_yes, cond_no, true-or-false, lt-or-ge, or-next, or-neither}
use Rattle.model.specs.Op.{Given}
use Rattle.model.specs.Forecast.{list_in}
use Rattle.lines.specs.Cut.{Cut}
use Rattle.lines.specs.Held.{with_name, with_names, read_name, read_names, read_list}
use Rattle.lines.proofs.Cut.{left, left-drop, left-length, cut-there, cut-nowhere}
use Rattle.lines.proofs.Pieces.{pieces-there, pieces-nowhere}

-- ── One name ──────────────────────────────────────────────────────────────────

pub empty_name : (w : Bool) (n : Text) (o : Option Given) → is_empty n ≡ true → read_name w n o ≡ None
unfolding read_name
empty_name w n None h = refl
empty_name w n (Some g) h = cond_yes None (Some (with_name w n g)) h

-- `b` says whether the line is of the form so far.
pub some-name : (w : Bool) (n : Text) (b : Bool) (g h : Given) → is_empty n ≡ false → h ≡ with_name w n g
    → cond b (Some h) None ≡ read_name w n (cond b (Some g) None)
unfolding read_name
some-name w n true g h e q = ap Some q ∙ sym (cond_no None (Some (with_name w n g)) e)
some-name w n false g h e q = refl

-- Once the line is not of the form it stays so.
no_names : (w : Bool) (ns : List Text) → read_names w ns None ≡ None
unfolding read_names read_name
no_names w [] = refl
no_names w (n ∷ ns) = no_names w ns

-- ── The names between the commas ──────────────────────────────────────────────

-- Those before place `at` have been read.
pub record Naming (w : Bool) (t : Text) (o₀ o : Option Given) (at : ℕ) : Type 0 where
  pub most : at ≤ length t
  pub is : read_names w (pieces 44 t) o₀ ≡ read_names w (pieces 44 (drop at t)) o

pub naming-first : (w : Bool) (t : Text) (o : Option Given) → Naming w t o o 0
naming-first w t o = record { most = omega arith; is = refl }

-- The next one ends at place n of what is left.
module _ {w : Bool} {t : Text} {o₀ o p : Option Given} {at n : ℕ} (e : Naming w t o₀ o at) (k : Cut 44 (left t at) n)
    (q : p ≡ read_name w (take n (left t at)) o) where
  pub naming-last : length (left t at) ≤ n → p ≡ read_names w (pieces 44 t) o₀
  unfolding read_names
  naming-last h =
      q ∙ ap (λ u. read_name w u o) k.front
      ∙ sym (e.is ∙ ap (λ u. read_names w (pieces 44 u) o) (sym (left-drop t at))
      ∙ ap (λ u. read_names w u o) (pieces-nowhere 44 (left t at) (cut-nowhere k h)))

  pub naming-next : n < length (left t at) → Naming w t o₀ p (at + n + 1)
  unfolding read_names
  naming-next h =
      let j : at + (n + 1) ≡ at + n + 1 = omega arith in
      let rest : beyond 44 (left t at) ≡ drop (at + n + 1) t =
      sym k.back ∙ ap (drop (n + 1)) (left-drop t at) ∙ drop-drop (n + 1) at t ∙ ap (λ i. drop i t) j in
      record {
        most = omega (arith, left-length t at, e.most);
        is =
            e.is ∙ ap (λ u. read_names w (pieces 44 u) o) (sym (left-drop t at)) ∙ ap (λ u. read_names w u o) (pieces-there 44 (left t at) (cut-there k h))
            ∙ ap₂ (λ u v. read_names w (pieces 44 u) v) rest (sym (q ∙ ap (λ u. read_name w u o) k.front));
      }

  pub naming-none : p ≡ None → None ≡ read_names w (pieces 44 t) o₀
  naming-none z =
      ⊎_elim
      (λ (h : n < length (left t at)).
      sym ((naming-next h).is ∙ ap (read_names w (pieces 44 (drop (at + n + 1) t))) z ∙ no_names w (pieces 44 (drop (at + n + 1) t))))
      (λ (h : length (left t at) ≤ n). sym z ∙ naming-last h)
      (lt-or-ge n (length (left t at)))

-- ── A list ────────────────────────────────────────────────────────────────────

-- With an empty one among them it is not of the form.
empty-names : (w : Bool) (ns : List Text) (o : Option Given) → list_any is_empty ns ≡ true → read_names w ns o ≡ None
unfolding read_names
empty-names w [] o h = absurd (let z : ◌≡◌ {A = ℕ} 0 1 = cc in omega arith)
empty-names w (n ∷ ns) o h =
    ⊎_elim
    (λ e. ap (read_names w ns) (empty_name w n o e) ∙ no_names w ns)
    (λ e. empty-names w ns (read_name w n o) (sym (or-next (list_any is_empty ns) e) ∙ h))
    (true-or-false (is_empty n))

some-names : (w : Bool) (ns : List Text) (g : Given) → list_any is_empty ns ≡ false → read_names w ns (Some g) ≡ Some (with_names w ns g)
unfolding read_names read_name with_names
some-names w [] g h = refl
some-names w (n ∷ ns) g h =
    let k = or-neither (is_empty n) (list_any is_empty ns) h in
    ap (read_names w ns) (cond_no None (Some (with_name w n g)) k.0) ∙ some-names w ns (with_name w n g) k.1

module _ (w : Bool) (t : Text) where
  pub dash-list : (o : Option Given) → same t (45 ∷ []) ≡ true → o ≡ read_list w (list_in t) o
  unfolding list_in read_list with_names bytes
  dash-list o h = dash o ∙ sym (ap (λ l. read_list w l o) (cond_yes (Some []) (cond (list_any is_empty (pieces 44 t)) None (Some (pieces 44 t))) h))
    where
      dash : (p : Option Given) → p ≡ read_list w (Some []) p
      dash None = refl
      dash (Some g) = refl

  pub names-list : (o : Option Given) → same t (45 ∷ []) ≡ false → read_names w (pieces 44 t) o ≡ read_list w (list_in t) o
  unfolding list_in read_list bytes
  names-list o h = names o (pieces 44 t) ∙ sym (ap (λ l. read_list w l o) (cond_no (Some []) (cond (list_any is_empty (pieces 44 t)) None (Some (pieces 44 t))) h))
    where
      none_list : (p : Option Given) → read_list w None p ≡ None
      none_list None = refl
      none_list (Some g) = refl

      full : (p : Option Given) (ns : List Text) → list_any is_empty ns ≡ false → read_names w ns p ≡ read_list w (Some ns) p
      full None ns e = no_names w ns
      full (Some g) ns e = some-names w ns g e

      names : (p : Option Given) (ns : List Text) → read_names w ns p ≡ read_list w (cond (list_any is_empty ns) None (Some ns)) p
      names p ns =
          ⊎_elim
          (λ e. empty-names w ns p e ∙ sym (ap (λ l. read_list w l p) (cond_yes None (Some ns) e) ∙ none_list p))
          (λ e. full p ns e ∙ sym (ap (λ l. read_list w l p) (cond_no None (Some ns) e)))
          (true-or-false (list_any is_empty ns))
