-- What a view shows, by the byte that says which: its answer is laid, and there is room for it.
use Prim.Native.Nat.{ℕ, ◌+◌, ◌-◌, ◌≤◌, ◌<◌}
use mathlib.Core.Path.{◌≡◌, refl, sym, ap, subst, ◌∙◌}
use mathlib.Core.List.{List, [], ◌++◌, map}
use native.Mathlib.Omega.{arith}
use lib.ListN.{length, get_or, drop, get_or-append, get_or-map}
use lib.Seq.{get_or-drop}
use Rattle.model.specs.State.{State}
use Rattle.model.specs.Calls.{View, status, in_flight_before, Call, view, Answer, show, first_of, checks, refusal, reply, answer}
use Rattle.traces.specs.Texts.{Laid}
use Rattle.decoding.specs.Bytes.{byte_at, number_at}
use Rattle.decoding.specs.Calls.{plain_views, indexed_views, plain_view, indexed_view, call_at}
use Rattle.answers.specs.Encode.{encode}
use Rattle.answers.specs.Size.{size_of_view, size}
use Rattle.answers.proofs.Laid.{laid_of}
use Rattle.answers.proofs.Sizes.{answer-fits}
use Rattle.calls.proofs.Which.{told, told_below}

-- ── The view of a tag ───────────────────────────────────────────────────────

-- v is the view that a tag says; the tag is k.
module _ (v : ℕ → View) {tag k : ℕ} (e : tag ≡ k) where
  pub shown_by : (s : State) {a : Answer} → a ≡ show s (v k) → a ≡ show s (v tag)
  shown_by s q = q ∙ ap (λ t. show s (v t)) (sym e)

  pub laid_by : (s : State) {a : Answer} {b n : ℕ} {m out : List ℕ} → a ≡ show s (v k) → Laid b (encode a) m out n
      → Laid b (encode (show s (v tag))) m out n
  laid_by s q y = laid_of encode (sym (shown_by s q)) y

  pub room_by : (b n : ℕ) → b + size_of_view (v tag) ≤ n → b + size_of_view (v k) ≤ n
  room_by b n h = subst (λ t. b + size_of_view (v t) ≤ n) e h

view-answer : (s : State) (m : List ℕ) (v : View) → answer s m (view v) ≡ show s v
unfolding answer refusal checks first_of reply
view-answer s m v = refl

-- The size of a view has room for what it shows.
pub shown-fits : (s : State) (v : View) {a : Answer} → a ≡ show s v → length (encode a) ≤ size_of_view v
unfolding size
shown-fits s v q = subst (λ t. length (encode t) ≤ size_of_view v) (view-answer s [] v ∙ sym q) (answer-fits s [] (view v))

-- ── The view that stands at a place ─────────────────────────────────────────

module _ (l : List ℕ) (at : ℕ) where
  -- The calls 0 to 38, as they would be read here.
  abbrev all : List Call
  all = told (λ (c : Call). c) l at

  -- A part of them comes from a table of views.
  from-table : {A : Type 0} (g : A → Call) (table : List A) (d : A) (from : ℕ) (rest : List Call) → drop from all ≡ map g table ++ rest
      → from + length table ≤ 39 → from ≤ byte_at l at → byte_at l at - from < length table → byte_at l at < 39
      → length (map g table) ≡ length table
      → call_at l at ≡ g (get_or table (byte_at l at - from) d)
  from-table g table d from rest p most h k j q =
      let i : from + (byte_at l at - from) ≡ byte_at l at = omega arith in
      told_below (λ (c : Call). c) l at (g d) j
      ∙ ap (λ t. get_or all t (g d)) (sym i)
      ∙ sym (get_or-drop from all (byte_at l at - from) (g d))
      ∙ ap (λ t. get_or t (byte_at l at - from) (g d)) p
      ∙ get_or-append (map g table) rest (g d) (byte_at l at - from) (omega arith)
      ∙ get_or-map g table (byte_at l at - from) d

  pub plain_at : 12 ≤ byte_at l at → byte_at l at < 29 → call_at l at ≡ view (plain_view (byte_at l at))
  unfolding plain_view
  plain_at h k = from-table view plain_views status 12 (drop 29 all) refl (omega arith) h (omega arith) (omega arith) refl

  -- i is the number behind the byte.
  pub indexed-at : {i : ℕ} → i ≡ number_at l (at + 1) → 29 ≤ byte_at l at → byte_at l at < 38
      → call_at l at ≡ view (indexed_view (byte_at l at) i)
  unfolding indexed_view
  indexed-at n h k =
      from-table (λ (v : ℕ → View). view (v (number_at l (at + 1)))) indexed_views in_flight_before 29 (drop 38 all) refl (omega arith) h
      (omega arith) (omega arith) refl
      ∙ ap (λ j. view (get_or indexed_views (byte_at l at - 29) in_flight_before j)) (sym n)

  pub view-laid : (s : State) (m : List ℕ) {v : View} {b n : ℕ} {out₀ out : List ℕ} → call_at l at ≡ view v
      → Laid b (encode (show s v)) out₀ out n → Laid b (encode (answer s m (call_at l at))) out₀ out n
  view-laid s m {v} e y =
      laid_of encode (ap (answer s m) e ∙ view-answer s m v) y

-- A call's room, as the room of another that is the same.
pub room-is : {c d : Call} (b n : ℕ) → c ≡ d → b + size c ≤ n → b + size d ≤ n
room-is b n e h = subst (λ t. b + size t ≤ n) e h
