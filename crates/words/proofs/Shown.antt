-- A text in an array, none, and one at a place of a list.
use Rattle.std.proofs.Common.{◌≡◌, ℕ, ◌≤◌, ◌<◌, List, map, length, take, replicate, sym, refl, ap, ◌∙◌, Option, None, Some, Ok, arith, option_map, ⊎_elim}
use lib.ListN.{length-replicate}
use denote.Ref.{Bor}
use Rattle.std.specs.Prelude.{slice_get}
use Rattle.std.proofs.lemmas.Option.{slice_get-map}
use Rattle.laws.proofs.Tests.{cond-lt, cond-ge, lt-or-ge}
use Rattle.op.specs.declared.chars.Chars.{Chars}
use Rattle.op.specs.Chars.{shown, view_text}
use Rattle.model.specs.Timeline.{overlay}
use Rattle.model.specs.Requests.{short_for, buffer_with}
use Rattle.model.specs.Calls.{first_of}
use Rattle.registers.specs.View.{NameOk}
use Rattle.traces.specs.Texts.{Written, written, text_answer, text_reply, Wrote}

-- ── Another way to write what is asked for ──────────────────────────────────

pub wrote-is : {t u : Option (List ℕ)} {lent out : List ℕ} {r : Written} → t ≡ u → Wrote t lent out r → Wrote u lent out r
wrote-is e w = rw e at w

pub wrote_none : (lent : List ℕ) → Wrote None lent lent (Ok None)
unfolding written text_answer text_reply first_of short_for buffer_with overlay
wrote_none lent = record { is = refl; buffer = refl; answer = refl }

pub wrote_nothing : {t : Option (List ℕ)} (lent : List ℕ) → t ≡ None → Wrote t lent lent (Ok None)
wrote_nothing lent e = wrote-is (sym e) (wrote_none lent)

pub wrote_missing : {A : Type 0} (f : A → List ℕ) (m : Option A) (lent : List ℕ) → m ≡ None → Wrote (option_map f m) lent lent (Ok None)
wrote_missing f m lent e = wrote_nothing lent (ap (option_map f) e)

-- ── In an array ─────────────────────────────────────────────────────────────

pub shown_whole : {N : ℕ} (t : Chars N) → t.len ≤ N → view_text t ≡ take t.len t.bytes
unfolding view_text shown
shown_whole t h = cond-ge _ _ h

pub wrote_shown : {N : ℕ} (t : Chars N) {lent out : List ℕ} {r : Written} → t.len ≤ N → Wrote (Some (take t.len t.bytes)) lent out r
    → Wrote (Some (view_text t)) lent out r
wrote_shown t h = wrote-is (ap Some (sym (shown_whole t h)))

-- A text within the limit has a count within it.
pub shown-count : (most len : ℕ) (bytes : List ℕ) → length (shown most len bytes) ≤ most → len ≤ most
unfolding shown
shown-count most len bytes h =
    ⊎_elim
    (λ (l : most < len). absurd (omega (arith, h, ap length (cond-lt (replicate len 0) (take len bytes) l), length-replicate {A = ℕ} len 0)))
    (λ l. l)
    (lt-or-ge most len)

pub name_fits : (x : Chars 16) → NameOk x → x.len ≤ 16
unfolding view_text
name_fits x h = shown-count 16 x.len x.bytes h

-- ── At a place of a list ────────────────────────────────────────────────────

pub wrote_past : {A : Type 0} (f : A → List ℕ) (l : List A) (i : ℕ) (m : Option (Bor A)) (lent : List ℕ) → option_map (λ x. x.now) m ≡ slice_get l i → m ≡ None
    → Wrote (slice_get (map f l) i) lent lent (Ok None)
wrote_past f l i m lent e h = wrote_nothing lent (slice_get-map f l i ∙ ap (option_map f) (sym e ∙ ap (option_map (λ x. x.now)) h))

pub wrote_nth : {A : Type 0} (f : A → List ℕ) (l : List A) (i : ℕ) {x : A} {lent out : List ℕ} {r : Written} → slice_get l i ≡ Some x
    → Wrote (Some (f x)) lent out r → Wrote (slice_get (map f l) i) lent out r
wrote_nth f l i e = wrote-is (sym (slice_get-map f l i ∙ ap (option_map f) e))
