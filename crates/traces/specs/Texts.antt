-- A text written to a lent buffer.
use Rattle.std.specs.Prelude.{ℕ, ◌+◌, ◌≤◌, ◌≡◌, cond, List, [], ◌∷◌, ltb, length, take, drop, Option, None, Some, Result, Ok, Err}
use Rattle.laws.specs.Optional.{when_some}
use Rattle.laws.specs.Texts.{Text}
use Rattle.model.specs.Timeline.{splice}
use Rattle.model.specs.Requests.{short_for, buffer_with}
use Rattle.model.specs.Calls.{Answer, refused, shown_text, first_of}
use Rattle.capability.specs.declared.Refusal.{Refusal}
use Rattle.capability.specs.declared.Refusal.TheVariants.{ShortMemory}
use Rattle.capability.specs.Refusals.{refusal_number}
use Rattle.traces.specs.declared.texts.Digits.{Digits}

-- s stands in the buffer from place p on, and ends at n.
pub record Laid (p : ℕ) (s : Text) (lent out : List ℕ) (n : ℕ) : Type 0 where
  pub end : n ≡ p + length s
  pub is : out ≡ splice p s lent

-- How many bytes were written, none where there is no such text, or a refusal.
abbrev pub Written : Type 0
Written = Result (Option ℕ) Refusal

-- What the code answers, of a text and the room for it.
unfoldable pub written : ℕ → Option Text → Written
written room None = Ok None
written room (Some t) = cond (ltb room (length t)) (Err ShortMemory) (Ok (Some (length t)))

-- A text request, as the model answers it: the text is read off the buffer.
unfoldable pub text_answer : Written → List ℕ → Answer
text_answer (Ok (Some n)) out = shown_text (Some (take n out))
text_answer (Ok None) out = shown_text None
text_answer (Err r) out = refused (refusal_number r)

-- 13 where the buffer is short.
unfoldable pub text_reply : ℕ → Option Text → Answer
text_reply room t = when_some (first_of ((13, short_for room t) ∷ [])) (shown_text t) refused

-- The lent buffer before and after, and the answer.
pub record Wrote (t : Option Text) (lent out : List ℕ) (r : Written) : Type 0 where
  pub is : r ≡ written (length lent) t
  pub buffer : out ≡ cond (short_for (length lent) t) lent (buffer_with t lent)
  pub answer : text_answer r out ≡ text_reply (length lent) t

pub record IsDigits (d : Digits) (t : Text) : Type 0 where
  pub most : d.at ≤ 20
  pub size : length d.bytes ≡ 20
  pub is : drop d.at d.bytes ≡ t
