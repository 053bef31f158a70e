-- Texts laid over a lent buffer.
use Prim.Native.Nat.{ℕ, zero, suc, ◌+◌, ◌-◌, ◌^◌, ◌≤◌, ◌<◌}
use mathlib.Core.Path.{◌≡◌, refl, sym, ap, ap₂, ◌∙◌}
use mathlib.Core.Bool.{Bool, cond}
use Rattle.std.specs.Prelude.{None, Some, Ok, Err}
use mathlib.Core.List.{List, [], ◌∷◌, ◌++◌, append-nil}
use native.Mathlib.Nat.{not-suc-le-zero, le_of_suc-le-suc, zero-add, suc-add, pow-le-pow_left}
use native.Mathlib.Omega.{arith}
use lib.ListN.{length, get_or, take, drop, length-append}
use native.Mathlib.Numerals.{add-one}
use Rattle.std.proofs.lemmas.List.Concat.{flat_map-append}
use lib.Seq.{take-suc, take_at, take_all}
use borrow.Author.Tests.{lt-ltb, le-ltb}
use Rattle.laws.specs.Optional.{when_some}
use Rattle.laws.specs.Texts.{Text, digits_before, hexadecimal}
use Rattle.laws.proofs.Digits.{digits-by, digits-end, digits_more}
use Rattle.laws.proofs.Tests.{cond-lt, cond-ge}
use Rattle.model.specs.Timeline.{overlay, splice}
use Rattle.model.specs.Requests.{short_for, buffer_with}
use Rattle.model.specs.Calls.{Answer, refused, shown_text, first_of}
use Rattle.capability.specs.declared.Refusal.TheVariants.{ShortMemory}
use Rattle.std.specs.List.{flat_map}
use Rattle.traces.specs.declared.texts.Digits.{Digits}
use Rattle.traces.specs.Texts.{Laid, Written, written, text_answer, text_reply, Wrote}
use Rattle.timeline.proofs.Memory.{overlay-parts, splice-append, splice-length}

-- ── The answer ──────────────────────────────────────────────────────────────

-- by whether it is refused
abbrev reply-by : Answer → Bool → Answer
reply-by a b = when_some (cond b (Some 13) None) a refused

pub wrote_none : (lent : List ℕ) → Wrote None lent lent (Ok None)
unfolding written text_answer text_reply first_of short_for buffer_with overlay
wrote_none lent = record { is = refl; buffer = refl; answer = refl }

module _ (t : Text) (lent : List ℕ) where
  pub wrote-short : length lent < length t → Wrote (Some t) lent lent (Err ShortMemory)
  unfolding written text_answer text_reply first_of short_for
  wrote-short h =
      record {
        is = sym (cond-lt _ _ h);
        buffer = sym (cond-lt _ _ h);
        answer = sym (ap (reply-by (shown_text (Some t))) (lt-ltb (length lent) (length t) h));
      }

  pub wrote-whole : length t ≤ length lent → {out : List ℕ} {n : ℕ} → out ≡ overlay t lent → n ≡ length t → Wrote (Some t) lent out (Ok (Some n))
  unfolding written text_answer text_reply first_of short_for buffer_with
  wrote-whole h {out} {n} e q =
      let front : take n out ≡ t = ap (take n) (e ∙ overlay-parts t lent h) ∙ take_at t (drop (length t) lent) n (sym q) in
      record {
        is = ap (λ k. Ok (Some k)) q ∙ sym (cond-ge _ _ h);
        buffer = e ∙ sym (cond-ge _ _ h);
        answer = ap (λ s. shown_text (Some s)) front ∙ sym (ap (reply-by (shown_text (Some t))) (le-ltb (length lent) (length t) h));
      }

-- ── Part by part ────────────────────────────────────────────────────────────

pub laid-room : {p : ℕ} {s : Text} {m out : List ℕ} {n : ℕ} → Laid p s m out n → (k : ℕ) → p + length s + k ≤ length m → n + k ≤ length out
laid-room {p} {s} {m} l k h = omega (arith, l.end, ap length l.is, splice-length p s m)

pub laid_next : {p : ℕ} {s t : Text} {m out out' : List ℕ} {n n' : ℕ} → Laid p s m out n → Laid n t out out' n' → Laid p (s ++ t) m out' n'
laid_next {p} {s} {t} {m} l k =
    record {
      end = omega (arith, k.end, l.end, length-append s t);
      is = k.is ∙ ap₂ (λ i o. splice i t o) l.end l.is ∙ sym (splice-append p s t m);
    }

-- All of it laid from the front on.
pub wrote-laid : {t : Text} {lent out : List ℕ} {n : ℕ} → length t ≤ length lent → Laid 0 t lent out n → Wrote (Some t) lent out (Ok (Some n))
unfolding splice
wrote-laid {t} {lent} h l = wrote-whole t lent h l.is (l.end ∙ zero-add (length t))

-- ── A list of parts ─────────────────────────────────────────────────────────

module _ {A : Type 0} (f : A → Text) where
  -- The parts before place i and the one at it are no longer than all.
  pub part-within : (xs : List A) (i : ℕ) (d : A) → i < length xs → length (flat_map f (take i xs)) + length (f (get_or xs i d)) ≤ length (flat_map f xs)
  part-within [] i d h = absurd (not-suc-le-zero h)
  part-within (x ∷ xs) zero d h = omega (arith, length-append (f x) (flat_map f xs))
  part-within (x ∷ xs) (suc i) d h =
      omega (arith, part-within xs i d (le_of_suc-le-suc h), length-append (f x) (flat_map f xs), length-append (f x) (flat_map f (take i xs)))

  part-next : (xs : List A) (i : ℕ) (d : A) → i < length xs → flat_map f (take (i + 1) xs) ≡ flat_map f (take i xs) ++ f (get_or xs i d)
  part-next xs i d h =
      ap (flat_map f) (rw add-one (take-suc xs i d h)) ∙ flat_map-append f (take i xs) (get_or xs i d ∷ [])
      ∙ ap (λ t. flat_map f (take i xs) ++ t) (append-nil (f (get_or xs i d)))

  -- The first loop: n is the room that is left behind the parts before place i.
  pub record Rooms (xs : List A) (lent : List ℕ) (n i : ℕ) : Type 0 where
    pub left : n + length (flat_map f (take i xs)) ≡ length lent

  -- The second: those parts stand at the front, and there is room for all.
  pub record Front (xs : List A) (lent out : List ℕ) (at i : ℕ) : Type 0 where
    pub laid : Laid 0 (flat_map f (take i xs)) lent out at
    pub room : length (flat_map f xs) ≤ length lent

  module _ (xs : List A) (lent : List ℕ) where
    pub rooms_first : Rooms xs lent (length lent) 0
    rooms_first = record { left = omega arith }

    pub rooms_next : (n i : ℕ) (d : A) → Rooms xs lent n i → i < length xs → length (f (get_or xs i d)) ≤ n
        → Rooms xs lent (n - length (f (get_or xs i d))) (i + 1)
    rooms_next n i d r h k =
        record {
          left = omega (arith, r.left, ap length (part-next xs i d h), length-append (flat_map f (take i xs)) (f (get_or xs i d)));
        }

    pub rooms_short : (n i : ℕ) (d : A) → Rooms xs lent n i → i < length xs → n < length (f (get_or xs i d))
        → Wrote (Some (flat_map f xs)) lent lent (Err ShortMemory)
    rooms_short n i d r h k = wrote-short (flat_map f xs) lent (omega (arith, part-within xs i d h, r.left))

    pub front_first : (n i : ℕ) → Rooms xs lent n i → length xs ≤ i → Front xs lent lent 0 0
    unfolding overlay splice
    front_first n i r h =
        record {
          laid = record { end = refl; is = refl };
          room = omega (arith, r.left, ap (λ l. length (flat_map f l)) (take_all i xs h));
        }

    module _ {out : List ℕ} {at i : ℕ} (r : Front xs lent out at i) where
      pub front-room : (d : A) → i < length xs → at + length (f (get_or xs i d)) ≤ length out
      front-room d h = laid-room r.laid _ (omega (arith, part-within xs i d h, r.room))

      pub front-next : (d : A) {out' : List ℕ} {n : ℕ} → i < length xs → Laid at (f (get_or xs i d)) out out' n → Front xs lent out' n (i + 1)
      front-next d h l = record { laid = rw (part-next xs i d h) (laid_next r.laid l); room = r.room }

      pub front-last : length xs ≤ i → Wrote (Some (flat_map f xs)) lent out (Ok (Some at))
      front-last h = wrote-laid r.room (rw (take_all i xs h) at r.laid)

-- ── Another way to write the text ───────────────────────────────────────────

pub wrote_as : {t u : Text} {lent out : List ℕ} {r : Written} → t ≡ u → Wrote (Some t) lent out r → Wrote (Some u) lent out r
wrote_as e w = rw e at w

-- ── Digits ──────────────────────────────────────────────────────────────────

-- 20 digits are enough in every base from 10 on.
pub twenty-digits : {base n : ℕ} → 10 ≤ base → n < 18446744073709551616 → n < base ^ 20
twenty-digits {base} {n} h k = omega (arith, pow-le-pow_left h 20)

-- More fuel than it takes gives the same digits.
pub more-fuel : {base : ℕ} → 1 < base → (k fuel n : ℕ) (tail : Text) → n < base ^ suc fuel
    → digits_before base (fuel + k) n tail ≡ digits_before base fuel n tail
more-fuel {base} pos k =
    digits-by pos
    (λ fuel n tail out. digits_before base (fuel + k) n tail ≡ out)
    (λ fuel n tail h. digits-end (fuel + k) tail h)
    (λ fuel n tail out h q. ap (λ j. digits_before base j n tail) (suc-add fuel k) ∙ digits_more (fuel + k) tail h ∙ q)

pub hexadecimal-digits : (n : ℕ) → n < 18446744073709551616 → digits_before 16 19 n [] ≡ hexadecimal n
unfolding hexadecimal
hexadecimal-digits n h = let sixteen : 1 < 16 = omega arith in more-fuel sixteen 4 15 n [] (omega arith)
