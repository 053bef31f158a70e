-- Each kind of part is read as what it was written for.
use Prim.Native.Nat.{ℕ, zero, suc, ◌+◌, ◌*◌, ◌-◌, ◌/◌, ◌^◌, ◌≤◌, ◌<◌}
use native.Mathlib.Nat.{pow-suc}
use native.Mathlib.Omega.{arith}
use mathlib.Core.Path.{◌≡◌, refl, ap, ap₂, ◌∙◌}
use mathlib.Core.Bool.{Bool, true, false, cond}
use Rattle.std.specs.Prelude.{Option, None, Some}
use mathlib.Core.List.{List, ◌∷◌, ◌++◌, map, flatten, append-nil}
use lib.Dec.{eqb}
use lib.ListN.{length, take, replicate, length-append, length-replicate}
use lib.Seq.{take-append_seam}
use Rattle.laws.specs.Optional.{value_or}
use Rattle.std.specs.Prelude.{is_some}
use Rattle.laws.specs.Lists.{All}
use Rattle.laws.specs.Texts.{Text}
use Rattle.laws.proofs.Tests.{cond-ge}
use Rattle.laws.proofs.Slices.{All-append, All-replicate}
use Rattle.capability.specs.declared.PipelineInstructionClass.{PipelineInstructionClass}
use Rattle.capability.specs.declared.PipelineInstructionClass.TheVariants.{Unknown}
use Rattle.capability.specs.declared.PipelineStageRole.{PipelineStageRole}
use Rattle.capability.specs.declared.PipelineStageRole.TheVariants.{Other}
use Rattle.capability.specs.Numbers.{class_number, role_number}
use Rattle.capability.specs.Cases.{class_of, role_of}
use Rattle.capability.proofs.Numbered.{classes-numbered, roles-numbered}
use Rattle.op.specs.Chars.{shown}
use Rattle.decoding.specs.Bytes.{byte_at, little, number_at, flag_at, class_at, role_at, text_at, optional_at, parts_at, below}
use Rattle.encoding.specs.Parts.{byte, low_bytes, number_bytes, flag_bytes, class_bytes, role_bytes, filled, text_bytes, optional_bytes, parts_bytes}
use Rattle.encoding.specs.Limits.{Number, Byte, Short, Few, Where}
use Rattle.encoding.proofs.Stands.{Stands, stands-two, stands-joined, stands-next, stands-take, stands-byte, stands-below, all_so, all-parts, Form, form-two, Codes, after, codes-parts}

-- ---- numbers

form-byte : {k x : ℕ} {t : List ℕ} → Byte x → Form k t → Form (suc k) (x ∷ t)
form-byte h f = record { size = ap suc f.size; bytes = (h, f.bytes) }

low-form : (k n : ℕ) → Form k (low_bytes k n)
unfolding low_bytes
low-form zero n = record { size = refl; bytes = tt }
low-form (suc k) n = form-byte (omega arith) (low-form k _)

low_value : (k n : ℕ) → n < 256 ^ k → little (low_bytes k n) ≡ n
unfolding low_bytes little
low_value zero n h = omega arith
low_value (suc k) n h = omega (arith, low_value k (n / 256) (omega (arith, h, pow-suc 256 k)))

pub codes-number : {n : ℕ} → Number n → Codes number_bytes number_at 8 n
unfolding number_bytes number_at
codes-number {n} h =
    record {
      form = low-form 8 n;
      reads = λ s. ap little (stands-take s (low-form 8 n).size) ∙ low_value 8 n (omega arith);
    }

-- ---- one byte

module _ {A : Type 0} (number : A → ℕ) (of : ℕ → A) where
  codes-byte : {a : A} → number a ≤ 255 → of (number a) ≡ a → Codes (λ x. byte (number x)) (λ l at. of (byte_at l at)) 1 a
  codes-byte h e = record { form = record { size = refl; bytes = (h, tt) }; reads = λ s. ap of (stands-byte s) ∙ e }

pub codes-count : (n : ℕ) → Byte n → Codes byte byte_at 1 n
codes-count n h = codes-byte (λ n. n) (λ n. n) h refl

pub codes-flag : (b : Bool) → Codes flag_bytes flag_at 1 b
unfolding flag_bytes flag_at
codes-flag true = codes-byte (λ b. cond b 1 0) (λ n. eqb n 1) (omega arith) refl
codes-flag false = codes-byte (λ b. cond b 1 0) (λ n. eqb n 1) (omega arith) refl

pub codes-class : (c : PipelineInstructionClass) → Codes class_bytes class_at 1 c
unfolding class_bytes class_at
codes-class c =
    codes-byte class_number (λ n. value_or Unknown (class_of n)) (omega (arith, classes-numbered.below c))
    (ap (value_or Unknown) (classes-numbered.back c))

pub codes-role : (r : PipelineStageRole) → Codes role_bytes role_at 1 r
unfolding role_bytes role_at
codes-role r =
    codes-byte role_number (λ n. value_or Other (role_of n)) (omega (arith, roles-numbered.below r))
    (ap (value_or Other) (roles-numbered.back r))

-- ---- flags, classes and roles are of their form

flag-below : (b : Bool) → cond b 1 0 < 2
flag-below true = omega arith
flag-below false = omega arith

module _ {ps : List (List ℕ)} {l : List ℕ} {at : ℕ} where
  pub flag-formed : (b : Bool) → Stands (flag_bytes b ∷ ps) l at → below 2 1 l at ≡ true
  unfolding flag_bytes
  flag-formed b s = stands-below 2 s refl (flag-below b, tt)

  pub flags-formed : {n : ℕ} (bs : List Bool) → length (flatten (map flag_bytes bs)) ≡ n → Stands (flatten (map flag_bytes bs) ∷ ps) l at
      → below 2 n l at ≡ true
  unfolding flag_bytes
  flags-formed bs e s = stands-below 2 s e (all-parts (λ b. b < 2) flag_bytes (λ b. (flag-below b, tt)) bs)

  pub both-formed : (b c : Bool) → Stands (flag_bytes b ∷ flag_bytes c ∷ ps) l at → below 2 2 l at ≡ true
  unfolding flag_bytes
  both-formed b c s = stands-below 2 (stands-joined (flag_bytes b) (flag_bytes c) s) refl (flag-below b, (flag-below c, tt))

  pub role-formed : {n : ℕ} (rs : List PipelineStageRole) → length (flatten (map role_bytes rs)) ≡ n → Stands (flatten (map role_bytes rs) ∷ ps) l at
      → below 8 n l at ≡ true
  unfolding role_bytes
  role-formed rs e s = stands-below 8 s e (all-parts (λ b. b < 8) role_bytes (λ r. (roles-numbered.below r, tt)) rs)

  pub class-formed : (c : PipelineInstructionClass) → Stands (class_bytes c ∷ ps) l at → below 10 1 l at ≡ true
  unfolding class_bytes
  class-formed c s = stands-below 10 s refl (classes-numbered.below c, tt)

-- ---- `most` entries

module _ {A : Type 0} (most : ℕ) (spare : A) (l : List A) (h : length l ≤ most) where
  pub filled-length : length (filled most spare l) ≡ most
  unfolding filled
  filled-length = length-append l _ ∙ ap (λ k. length l + k) (length-replicate (most - length l) spare) ∙ omega arith

  pub filled-front : take (length l) (filled most spare l) ≡ l
  unfolding filled
  filled-front = take-append_seam l _

  pub filled-all : (P : A → Type 0) → P spare → All P l → All P (filled most spare l)
  unfolding filled
  filled-all P p a = All-append P l (replicate (most - length l) spare) a (All-replicate P (most - length l) spare p)

-- ---- texts

pub codes-text : {most : ℕ} {t : Text} → Byte most → Short most t → Codes (text_bytes most) (text_at most) (suc most) t
unfolding text_bytes text_at shown
codes-text {most} {t} m h =
    record {
      form = record { size = ap suc size; bytes = (omega (arith, h.0), filled-all most 0 t h.0 Byte (omega arith) h.1) };
      reads = λ s.
          let b = stands-next (stands-two (byte (length t)) (filled most 0 t) s) refl in
          ap₂ (shown most) (stands-byte s) (stands-take b size)
          ∙ cond-ge (replicate (length t) 0) (take (length t) (filled most 0 t)) h.0
          ∙ filled-front most 0 t h.0;
    }
  where
    size : length (filled most 0 t) ≡ most
    size = filled-length most 0 t h.0

-- ---- what may be missing

pub optional-formed : {A : Type 0} (f : A → List ℕ) (spare : A) (o : Option A) {ps : List (List ℕ)} {l : List ℕ} {at : ℕ}
    → Stands (optional_bytes f spare o ∷ ps) l at → below 2 1 l at ≡ true
unfolding optional_bytes
optional-formed f spare o s = flag-formed (is_some o) (stands-two (flag_bytes (is_some o)) (f (value_or spare o)) s)

module _ {A : Type 0} {f : A → List ℕ} {g : List ℕ → ℕ → A} {n : ℕ} {P : A → Type 0} (codes : (a : A) → P a → Codes f g n a) where
  -- The flag and what follows it.
  flagged-part : (b : Bool) {a : A} {r : Option A} → P a → cond b (Some a) None ≡ r → {l : List ℕ} {at : ℕ} {ps : List (List ℕ)}
      → Stands ((flag_bytes b ++ f a) ∷ ps) l at → optional_at g l at ≡ r
  unfolding optional_at
  flagged-part b {a} w e s =
      let t = stands-two (flag_bytes b) (f a) s in
      ap₂ (λ c v. cond c (Some v) None) ((codes-flag b).reads t) ((codes a w).reads (after (codes-flag b) t)) ∙ e

  pub codes-optional : (spare : A) → P spare → (o : Option A) → Where P o → Codes (optional_bytes f spare) (optional_at g) (1 + n) o
  unfolding optional_bytes
  codes-optional spare p None w = record { form = form-two (codes-flag false).form (codes spare p).form; reads = flagged-part false p refl }
  codes-optional spare p (Some a) w = record { form = form-two (codes-flag true).form (codes a w).form; reads = flagged-part true w refl }

  -- `most` entries, of which so many are taken as there were before they were filled up.
  module _ (most : ℕ) (spare x : A) (as' : List A) (p : P spare) (w : Few most P as') where
    codes-filled : Codes (λ l. flatten (map f l)) (parts_at g n most) (most * n) (filled most spare as')
    codes-filled =
        let all = filled-all most spare as' w.0 P p w.1 in
        codes-parts f g n (filled-length most spare as' w.0) (all_so P (Codes f g n) codes (filled most spare as') all)

    pub codes-few
        : Codes (parts_bytes f most spare) (λ l at. take (length as') (parts_at g n most l at) ++ replicate (length as' - most) x) (most * n) as'
    unfolding parts_bytes
    codes-few =
        let None : length as' - most ≡ 0 = omega (arith, w.0) in
        record {
          form = codes-filled.form;
          reads = λ s.
              ap₂ (λ t k. take (length as') t ++ replicate k x) (codes-filled.reads s) None
              ∙ append-nil (take (length as') (filled most spare as')) ∙ filled-front most spare as' w.0;
        }
