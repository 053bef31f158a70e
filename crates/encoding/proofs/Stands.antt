-- Parts that stand one after the other from a place of a list on: what each place's reader makes of them, and their sizes.
use Prim.Native.Nat.{ℕ, ◌+◌, ◌*◌, ◌<◌}
use native.Mathlib.Nat.{add_assoc, add-zero, suc-mul, zero-mul, add_comm}
use mathlib.Core.Path.{◌≡◌, refl, sym, ap, ap₂, ◌∙◌}
use mathlib.Core.Bool.{Bool, true}
use mathlib.Core.List.{List, [], ◌∷◌, ◌++◌, map, flatten, append-nil, append_assoc}
use lib.Dec.{ltb}
use lib.ListN.{length, get_or, take, drop, length-append}
use lib.Seq.{take_at, drop_at, drop-drop, get_or-drop}
use borrow.Author.Tests.{lt-ltb}
use Rattle.laws.specs.Lists.{All}
use Rattle.std.specs.List.{list_all}
use Rattle.laws.proofs.Search.{all-miss}
use Rattle.laws.proofs.Slices.{All-append}
use Rattle.decoding.specs.Bytes.{byte_at, places, parts_at, below}
use Rattle.encoding.specs.Limits.{Byte}

pub record Stands (ps : List (List ℕ)) (l : List ℕ) (at : ℕ) : Type 0 where
  pub rest : List ℕ
  pub is : drop at l ≡ flatten ps ++ rest

-- The whole list, at its front.
pub stands-whole : (ps : List (List ℕ)) → Stands ps (flatten ps) 0
stands-whole ps = record { rest = []; is = sym (append-nil (flatten ps)) }

module _ {l : List ℕ} {at : ℕ} where
  -- A part that consists of two.
  pub stands-two : (a b : List ℕ) {ps : List (List ℕ)} → Stands ((a ++ b) ∷ ps) l at → Stands (a ∷ b ∷ ps) l at
  unfolding flatten
  stands-two a b {ps} s = record { rest = s.rest; is = s.is ∙ ap (λ t. t ++ s.rest) (append_assoc a b (flatten ps)) }

  pub stands-joined : (a b : List ℕ) {ps : List (List ℕ)} → Stands (a ∷ b ∷ ps) l at → Stands ((a ++ b) ∷ ps) l at
  unfolding flatten
  stands-joined a b {ps} s = record { rest = s.rest; is = s.is ∙ ap (λ t. t ++ s.rest) (sym (append_assoc a b (flatten ps))) }

  module _ {a : List ℕ} {ps : List (List ℕ)} (s : Stands (a ∷ ps) l at) where
    split : drop at l ≡ a ++ (flatten ps ++ s.rest)
    unfolding flatten
    split = s.is ∙ append_assoc a (flatten ps) s.rest

    pub stands-next : {n : ℕ} → length a ≡ n → Stands ps l (at + n)
    stands-next {n} e =
        record { rest = s.rest; is = sym (drop-drop n at l) ∙ ap (drop n) split ∙ drop_at a (flatten ps ++ s.rest) n e }

    pub stands-take : {n : ℕ} → length a ≡ n → take n (drop at l) ≡ a
    stands-take {n} e = ap (take n) split ∙ take_at a (flatten ps ++ s.rest) n e

  -- A part that consists of several.
  pub stands-in : (qs : List (List ℕ)) {ps : List (List ℕ)} → Stands (flatten qs ∷ ps) l at → Stands qs l at
  stands-in qs {ps} s = record { rest = flatten ps ++ s.rest; is = split s }

  pub stands-byte : {x : ℕ} {a : List ℕ} {ps : List (List ℕ)} → Stands ((x ∷ a) ∷ ps) l at → byte_at l at ≡ x
  unfolding byte_at
  stands-byte s = ap (λ k. get_or l k 0) (sym (add-zero at)) ∙ sym (get_or-drop at l 0 0) ∙ ap (λ t. get_or t 0 0) (split s)

-- ---- what holds of all

pub all_so : {A : Type 0} (P Q : A → Type 0) → ((x : A) → P x → Q x) → (l : List A) → All P l → All Q l
all_so P Q h [] a = tt
all_so P Q h (x ∷ xs) a = (h x a.0, all_so P Q h xs a.1)

pub always : {A : Type 0} (P : A → Type 0) → ((x : A) → P x) → (l : List A) → All P l
always P h [] = tt
always P h (x ∷ xs) = (h x, always P h xs)

all_true : {A : Type 0} (p : A → Bool) (l : List A) → All (λ x. p x ≡ true) l → list_all p l ≡ true
all_true p [] a = refl
all_true p (x ∷ xs) a = all-miss p a.0 xs ∙ all_true p xs a.1

pub stands-below : {a l : List ℕ} {ps : List (List ℕ)} {at n : ℕ} (most : ℕ) → Stands (a ∷ ps) l at → length a ≡ n → All (λ b. b < most) a
    → below most n l at ≡ true
unfolding below
stands-below {a} most s e h = ap (list_all (λ (b : ℕ). ltb b most)) (stands-take s e) ∙ all_true (λ b. ltb b most) a tests
  where
    tests : All (λ b. ltb b most ≡ true) a
    tests = all_so (λ b. b < most) (λ b. ltb b most ≡ true) (λ b k. lt-ltb b most k) a h

-- Of each byte of each part.
pub all-parts : {A : Type 0} (P : ℕ → Type 0) (f : A → List ℕ) → ((a : A) → All P (f a)) → (l : List A) → All P (flatten (map f l))
unfolding flatten
all-parts P f h [] = tt
all-parts P f h (x ∷ xs) = All-append P (f x) (flatten (map f xs)) (h x) (all-parts P f h xs)

-- ---- so many bytes

pub record Form (n : ℕ) (part : List ℕ) : Type 0 where
  pub size : length part ≡ n
  pub bytes : All Byte part

pub form-two : {m n : ℕ} {a b : List ℕ} → Form m a → Form n b → Form (m + n) (a ++ b)
form-two {a = a} {b = b} f g =
    record { size = length-append a b ∙ ap₂ ◌+◌ f.size g.size; bytes = All-append Byte a b f.bytes g.bytes }

pub record Forms (n : ℕ) (ps : List (List ℕ)) : Type 0 where
  pub whole : Form n (flatten ps)

pub forms-end : Forms 0 []
unfolding flatten
forms-end = record { whole = record { size = refl; bytes = tt } }

pub forms-next : {m n : ℕ} {a : List ℕ} {ps : List (List ℕ)} → Form m a → Forms n ps → Forms (m + n) (a ∷ ps)
unfolding flatten
forms-next f g = record { whole = form-two f g.whole }

-- ---- a part that a reader reads, wherever it stands

pub record Codes {A : Type 0} (f : A → List ℕ) (g : List ℕ → ℕ → A) (n : ℕ) (a : A) : Type 0 where
  pub form : Form n (f a)
  pub reads : {ps : List (List ℕ)} {l : List ℕ} {at : ℕ} → Stands (f a ∷ ps) l at → g l at ≡ a

-- A part that passes a test, wherever it stands.
pub record Passes {A : Type 0} (f : A → List ℕ) (ok : List ℕ → ℕ → Bool) (a : A) : Type 0 where
  pub pass : {ps : List (List ℕ)} {l : List ℕ} {at : ℕ} → Stands (f a ∷ ps) l at → ok l at ≡ true

module _ {A : Type 0} {f : A → List ℕ} {g : List ℕ → ℕ → A} {n : ℕ} {a : A} (c : Codes f g n a) {ps : List (List ℕ)} {l : List ℕ} where
  pub after : {at : ℕ} → Stands (f a ∷ ps) l at → Stands ps l (at + n)
  after s = stands-next s c.form.size

  -- k bytes on from where the record starts
  pub next : (at k : ℕ) → Stands (f a ∷ ps) l (at + k) → Stands ps l (at + (k + n))
  next at k s = rw add_assoc at (after s)

-- ---- parts of one kind, one after the other

module _ {A : Type 0} (f : A → List ℕ) (g : List ℕ → ℕ → A) (n : ℕ) where
  pub parts-form : (as' : List A) → All (Codes f g n) as' → Forms (length as' * n) (map f as')
  parts-form [] c = rw (zero-mul n) forms-end
  parts-form (a ∷ as') c = rw (suc-mul (length as') n, add_comm (length as' * n) n) (forms-next c.0.form (parts-form as' c.1))

  parts-read : {l : List ℕ} {ps : List (List ℕ)} (as' : List A) (at : ℕ) → All (Codes f g n) as' → Stands (flatten (map f as') ∷ ps) l at
      → map (g l) (places n (length as') at) ≡ as'
  unfolding flatten places
  parts-read [] at c s = refl
  parts-read (a ∷ as') at c s =
      let t = stands-two (f a) (flatten (map f as')) s in
      ap₂ {B = List A} ◌∷◌ (c.0.reads t) (parts-read as' (at + n) c.1 (after c.0 t))

  pub codes-parts : {k : ℕ} {as' : List A} → length as' ≡ k → All (Codes f g n) as'
      → Codes (λ l. flatten (map f l)) (parts_at g n k) (k * n) as'
  unfolding parts_at
  codes-parts {as'} e c =
      record {
        form = rw (ap (λ m. m * n) e) at (parts-form as' c).whole;
        reads = λ {ps} {l} {at} s. ap (λ m. map (g l) (places n m at)) (sym e) ∙ parts-read as' at c s;
      }

  -- A test that each part passes, at each part's place.
  pub parts-pass : (ok : List ℕ → ℕ → Bool) {l : List ℕ} {ps : List (List ℕ)} (as' : List A) (at : ℕ)
      → All (λ a. Codes f g n a × Passes f ok a) as' → Stands (flatten (map f as') ∷ ps) l at
      → list_all (ok l) (places n (length as') at) ≡ true
  unfolding flatten places
  parts-pass ok [] at c s = refl
  parts-pass ok {l} (a ∷ as') at c s =
      let t = stands-two (f a) (flatten (map f as')) s in
      all-miss (ok l) (c.0.1.pass t) (places n (length as') (at + n)) ∙ parts-pass ok as' (at + n) c.1 (after c.0.0 t)
