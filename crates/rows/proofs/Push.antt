-- The rows together: a cell for one of them, by the slots that they use.
use Prim.Native.Nat.{ℕ, zero, suc, ◌+◌, ◌-◌, ◌*◌, ◌%◌, ◌≤◌, ◌<◌}
use native.Mathlib.Omega.{arith}
use mathlib.Core.Path.{◌≡◌, refl, sym, ◌∙◌, ap, subst}
use mathlib.Core.Bool.{Bool, true, false, cond}
use mathlib.Core.List.{List, [], ◌∷◌, ◌++◌}
use lib.Dec.{eqb, ltb}
use lib.ListN.{length, drop, length-append}
use borrow.Author.Tests.{ltb-true, ltb-false}
use Rattle.laws.specs.Lists.{All, All2, more2, none2, rest}
use Rattle.model.specs.Timeline.{Row, add_cell, next_place, push, push_writes, splice, timeline, write_all}
use Rattle.model.specs.RustTimeline.{RustCell, RustRow, rust_timeline, rust_add, rust_open, rust_push}
use Rattle.rows.proofs.Places.{rest-drop}
use Rattle.rows.proofs.Bytes.{Inside, apart, Agrees, write-agrees}
use Rattle.rows.proofs.Row.{RowShown, shown-agrees, slot-room, add-shown}

-- Row ids are consecutive, from b.
abbrev pub Ids : ℕ → List Row → Type 0
Ids b [] = Unit {0}
Ids b (r ∷ rs) = (r.id ≡ b) × Ids (suc b) rs

-- No held row uses slot k.
abbrev pub SlotFree : ℕ → ℕ → List Row → Type 0
SlotFree history k rows = All (λ (r : Row). r.id % history ≡ k → ⊥) rows

-- What touches slot j alone leaves rows of other slots as they were shown.
pub rest-shown
    : (h j : ℕ) (m m' : List ℕ) (b : ℕ) (rs : List Row) (xs : List RustRow) → ((k : ℕ) → (k ≡ j % h → ⊥) → Agrees k m m')
    → ((x : ℕ) → b ≤ x → x < b + length rs → x % h ≡ j % h → ⊥) → Ids b rs → All2 (RowShown h m) rs xs → All2 (RowShown h m') rs xs
rest-shown h j m m' b rs xs a f i none2 = none2
rest-shown h j m m' b rs xs a f i (more2 {a = r} {b = y} {as' = rs'} {bs = ys} s ss) =
    more2 (shown-agrees h r y m m' (a (r.id % h) (f r.id (omega (arith, i.0)) (omega (arith, i.0)))) s)
    (rest-shown h j m m' (suc b) rs' ys a (λ x l g. f x (omega arith) (omega arith)) i.1 ss)

pub push-ids : (i b : ℕ) (rs : List Row) → Ids b rs → Ids b (push i rs)
unfolding timeline
push-ids i b [] h = tt
push-ids i b (r ∷ rs) h = go (eqb r.id i) (push-ids i (suc b) rs h.1)
  where
    go : (t : Bool) → Ids (suc b) (push i rs) → Ids b (cond t (add_cell r ∷ rs) (r ∷ push i rs))
    go true x = h
    go false x = (h.0, x)

pub push-length : (i : ℕ) (rs : List Row) → length (push i rs) ≡ length rs
unfolding timeline
push-length i [] = refl
push-length i (r ∷ rs) = go (eqb r.id i) (push-length i rs)
  where
    go : (t : Bool) → length (push i rs) ≡ length rs → length (cond t (add_cell r ∷ rs) (r ∷ push i rs)) ≡ suc (length rs)
    go true x = refl
    go false x = ap suc x

pub push-inside : (h i c : ℕ) (rs : List Row) → 1 ≤ h → Inside (h * 200) (push_writes h i c rs)
unfolding timeline rust_timeline
push-inside h i c [] l = tt
push-inside h i c (r ∷ rs) l = go (eqb r.id i) (push-inside h i c rs l)
  where
    go
        : (t : Bool) → Inside (h * 200) (push_writes h i c rs)
        → Inside (h * 200) (cond t ((next_place h r, c ∷ []) ∷ []) (push_writes h i c rs))
    go true x = (let z = slot-room h r.id l in omega arith, tt)
    go false x = x

-- A cell for one of the rows leaves the slot of an older row j.
push-agrees
    : (h i c j b : ℕ) (rs : List Row) (m : List ℕ) → Ids b rs → j < b → b + length rs ≤ j + h
    → Agrees (j % h) m (write_all (push_writes h i c rs) m)
unfolding timeline rust_timeline
push-agrees h i c j b [] m ids l g = λ q z. refl
push-agrees h i c j b (r ∷ rs) m ids l g =
    go (eqb r.id i) (push-agrees h i c j (suc b) rs m ids.1 (omega arith) (omega arith))
  where
    go
        : (t : Bool) → Agrees (j % h) m (write_all (push_writes h i c rs) m)
        → Agrees (j % h) m (write_all (cond t ((next_place h r, c ∷ []) ∷ []) (push_writes h i c rs)) m)
    go true x =
        write-agrees (j % h) (r.id % h) (next_place h r) (c ∷ []) m (apart h j r.id (omega (arith, ids.0)) (omega (arith, ids.0)))
        (omega arith) (omega arith)
    go false x = x

-- A cell for one of the rows leaves a slot that none of them uses.
pub push-leaves
    : (h i c k : ℕ) (rs : List Row) (m : List ℕ) → SlotFree h k rs → Agrees k m (write_all (push_writes h i c rs) m)
unfolding timeline rust_timeline
push-leaves h i c k [] m f = λ q z. refl
push-leaves h i c k (r ∷ rs) m f = go (eqb r.id i) (push-leaves h i c k rs m f.1)
  where
    go
        : (t : Bool) → Agrees k m (write_all (push_writes h i c rs) m)
        → Agrees k m (write_all (cond t ((next_place h r, c ∷ []) ∷ []) (push_writes h i c rs)) m)
    go true x =
        write-agrees k (r.id % h) (next_place h r) (c ∷ []) m (λ e. f.0 (sym e)) (omega arith) (omega arith)
    go false x = x

pub free-pushed : (h i k : ℕ) (rs : List Row) → SlotFree h k (push i rs) → SlotFree h k rs
unfolding timeline
free-pushed h i k [] f = tt
free-pushed h i k (r ∷ rs) f = go (eqb r.id i) f (free-pushed h i k rs)
  where
    go
        : (t : Bool) → SlotFree h k (cond t (add_cell r ∷ rs) (r ∷ push i rs)) → (SlotFree h k (push i rs) → SlotFree h k rs)
        → SlotFree h k (r ∷ rs)
    go true f g = f
    go false f g = (f.0, g f.1)

-- Rows that were dropped used other slots too.
pub free-undropped
    : (h j k b : ℕ) (rs : List Row) → Ids b rs → ((x : ℕ) → b ≤ x → x < b + j → x % h ≡ k → ⊥) → SlotFree h k (drop j rs)
    → SlotFree h k rs
free-undropped h zero k b rs i d f = f
free-undropped h (suc j) k b [] i d f = tt
free-undropped h (suc j) k b (r ∷ rs) i d f =
    (d r.id (omega (arith, i.0)) (omega (arith, i.0)), free-undropped h j k (suc b) rs i.1 (λ x l g. d x (omega arith) (omega arith)) f)

pub free-last : (h k : ℕ) (rs : List Row) (x : Row) → SlotFree h k (rs ++ (x ∷ [])) → SlotFree h k rs × (x.id % h ≡ k → ⊥)
free-last h k [] x f = (tt, f.0)
free-last h k (r ∷ rs) x f = let g = free-last h k rs x f.1 in ((f.0, g.0), g.1)

pub push-shown
    : (h i : ℕ) (c : RustCell) (m : List ℕ) (b : ℕ) (rs : List Row) (xs : List RustRow) → 1 ≤ h → h * 200 ≤ length m → Ids b rs → length rs ≤ h
    → All2 (RowShown h m) rs xs → All2 (RowShown h (write_all (push_writes h i c.byte rs) m)) (push i rs) (rust_push i c xs)
unfolding timeline rust_timeline
push-shown h i c m b rs xs one room ids few none2 = none2
push-shown h i c m b rs xs one room ids few (more2 {a = r} {b = y} {as' = rs'} {bs = ys} s ss) =
    subst
    (λ (n : ℕ).
    All2 (RowShown h (write_all (push_writes h i c.byte (r ∷ rs')) m)) (push i (r ∷ rs')) (cond (eqb n i) (rust_add c y ∷ ys) (y ∷ rust_push i c ys)))
    s.same_id (go (eqb r.id i) (push-shown h i c m (suc b) rs' ys one room ids.1 (omega arith) ss))
  where
    go
        : (t : Bool) → All2 (RowShown h (write_all (push_writes h i c.byte rs') m)) (push i rs') (rust_push i c ys)
        → All2 (RowShown h (write_all (cond t ((next_place h r, c.byte ∷ []) ∷ []) (push_writes h i c.byte rs')) m))
        (cond t (add_cell r ∷ rs') (r ∷ push i rs')) (cond t (rust_add c y ∷ ys) (y ∷ rust_push i c ys))
    go true z =
        more2 (add-shown h c r y m one room s)
        (rest-shown h r.id m (splice (next_place h r) (c.byte ∷ []) m) (suc b) rs' ys
        (λ k n. write-agrees k (r.id % h) (next_place h r) (c.byte ∷ []) m n (omega arith) (omega arith))
        (λ x l g e. apart h r.id x (omega (arith, ids.0)) (omega (arith, ids.0)) (sym e)) ids.1 ss)
    go false z =
        more2
        (shown-agrees h r y m (write_all (push_writes h i c.byte rs') m)
        (push-agrees h i c.byte r.id (suc b) rs' m ids.1 (omega (arith, ids.0)) (omega (arith, ids.0))) s)
        z

pub ids-drop : (k b : ℕ) (rs : List Row) → k ≤ length rs → Ids b rs → Ids (b + k) (drop k rs)
ids-drop zero b rs l h = subst (λ (n : ℕ). Ids n rs) (omega arith) h
ids-drop (suc k) b [] l h = absurd (omega arith)
ids-drop (suc k) b (r ∷ rs) l h = subst (λ (n : ℕ). Ids n (drop k rs)) (omega arith) (ids-drop k (suc b) rs (omega arith) h.1)

pub ids-last : (b : ℕ) (rs : List Row) (x : Row) → x.id ≡ b + length rs → Ids b rs → Ids b (rs ++ (x ∷ []))
ids-last b [] x e h = (omega arith, tt)
ids-last b (r ∷ rs) x e h = (h.0, ids-last (suc b) rs x (omega arith) h.1)

module _ {A B : Type 0} (P : A → B → Type 0) where
  pub all_drop : (k : ℕ) (xs : List A) (ys : List B) → All2 P xs ys → All2 P (drop k xs) (drop k ys)
  all_drop zero xs ys h = h
  all_drop (suc k) xs ys none2 = none2
  all_drop (suc k) xs ys (more2 {as' = xs'} {bs = ys'} p h) = all_drop k xs' ys' h

  pub all-last : (xs : List A) (ys : List B) (x : A) (y : B) → All2 P xs ys → P x y → All2 P (xs ++ (x ∷ [])) (ys ++ (y ∷ []))
  all-last xs ys x y none2 p = more2 p none2
  all-last xs ys x y (more2 {as' = xs'} {bs = ys'} q h) p = more2 q (all-last xs' ys' x y h p)

  pub all-length : (xs : List A) (ys : List B) → All2 P xs ys → length xs ≡ length ys
  all-length xs ys none2 = refl
  all-length xs ys (more2 {as' = xs'} {bs = ys'} q h) = ap suc (all-length xs' ys' h)

-- Removing the first is dropping what is over, where at most one is.
pub open-as-drop : (h : ℕ) (x : RustRow) (xs : List RustRow) → length xs ≤ h → rust_open h x xs ≡ drop (length (xs ++ (x ∷ [])) - h) (xs ++ (x ∷ []))
unfolding rust_timeline
open-as-drop h x xs l = go (ltb h (length (xs ++ (x ∷ [])))) refl
  where
    go
        : (b : Bool) → ltb h (length (xs ++ (x ∷ []))) ≡ b
        → cond b (rest (xs ++ (x ∷ []))) (xs ++ (x ∷ [])) ≡ drop (length (xs ++ (x ∷ [])) - h) (xs ++ (x ∷ []))
    go true e =
        let over = ltb-true h (length (xs ++ (x ∷ []))) e in
        let one : 1 ≡ length (xs ++ (x ∷ [])) - h = omega (arith, length-append xs (x ∷ [])) in
        rest-drop (xs ++ (x ∷ [])) ∙ ap (λ (n : ℕ). drop n (xs ++ (x ∷ []))) one
    go false e =
        let under = ltb-false h (length (xs ++ (x ∷ []))) e in
        let none_over : 0 ≡ length (xs ++ (x ∷ [])) - h = omega arith in
        ap (λ (n : ℕ). drop n (xs ++ (x ∷ []))) none_over
