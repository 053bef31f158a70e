-- What a call's bytes are read as, by what the call carries.
use Prim.Native.Nat.{ℕ, suc, ◌+◌, ◌*◌, ◌-◌, ◌≤◌, ◌<◌}
use native.Mathlib.Omega.{arith}
use mathlib.Core.Path.{◌≡◌, refl, ap, ap₂, subst, ◌∙◌}
use mathlib.Core.Bool.{Bool, true, ◌&&◌}
use mathlib.Core.Logic.{⊎_elim}
use mathlib.Core.List.{List, [], ◌∷◌, ◌++◌, map}
use lib.Dec.{leb}
use lib.ListN.{length, get_or, get_or-eq_default}
use borrow.Author.Tests.{le-leb}
use Rattle.laws.specs.Lists.{All}
use Rattle.laws.proofs.Tests.{and_yes, lt-or-ge}
use Rattle.model.specs.Requests.{Request, status_message}
use Rattle.model.specs.Calls.{Call, text}
use Rattle.decoding.specs.Bytes.{byte_at, number_at, below}
use Rattle.decoding.specs.Calls.{Reader, sizes, size_at, drives, shows, asks, request_at, room_at, text_call, call_at, parts_formed}
use Rattle.encoding.specs.Parts.{byte, number_bytes}
use Rattle.encoding.specs.Calls.{numbered, part_bytes}
use Rattle.encoding.specs.Limits.{Number, Byte}
use Rattle.encoding.proofs.Stands.{Stands, stands-two, stands-byte, stands-below, all_so, form-two, Forms, forms-next, Codes, after, next, parts-form}
use Rattle.encoding.proofs.Parts.{codes-number, codes-count}

-- A call of these parts, at a place of a list.
pub record CallRead (ps : List (List ℕ)) (c : Call) (l : List ℕ) (at : ℕ) : Type 0 where
  pub form : Forms (size_at l at) ps
  pub some_bytes : 0 < size_at l at
  pub is : call_at l at ≡ c
  pub formed : parts_formed (byte_at l at) l at ≡ true

-- What the tables have for each first byte.
abbrev pub size_of : ℕ → ℕ
size_of tag = get_or sizes tag 0

abbrev pub call-of : ℕ → Reader Call
call-of tag = get_or (drives ++ shows) tag text_call

abbrev pub request-of : ℕ → Reader Request
request-of tag = get_or asks (tag - 39) (λ l at. status_message)

-- There are 49 calls.
tag-byte : (tag : ℕ) {n : ℕ} → size_of tag ≡ suc n → Byte tag
tag-byte tag e = ⊎_elim (λ h. omega arith) past (lt-or-ge tag 49)
  where
    past : 49 ≤ tag → Byte tag
    past h = absurd (let z : ⊥ = omega (arith, e, get_or-eq_default sizes 0 {n = tag} h) in z)

-- Each number is read at its place: k bytes on, and 8 more for each.
abbrev pub Reads : List ℕ → ℕ → ℕ → List ℕ → Type 0
Reads l at k [] = Unit {0}
Reads l at k (n ∷ ns) = (number_at l (at + k) ≡ n) × Reads l at (k + 8) ns

module _ {l : List ℕ} {at tag : ℕ} where
  -- ---- any parts after the first byte

  module _ {n : ℕ} {ps : List (List ℕ)} (s : Stands (byte tag ∷ ps) l at) (f : Forms n ps) (z : size_of tag ≡ suc n) where
    sized : size_at l at ≡ suc n
    unfolding size_at
    sized = ap size_of (stands-byte s) ∙ z

    pub reading : {c : Call} → call-of tag l at ≡ c → parts_formed tag l at ≡ true → CallRead (byte tag ∷ ps) c l at
    unfolding call_at
    reading e h =
        record {
          form = subst (λ k. Forms k (byte tag ∷ ps)) (omega (arith, sized)) (forms-next (codes-count tag (tag-byte tag z)).form f);
          some_bytes = omega (arith, sized);
          is = ap (λ t. call-of t l at) (stands-byte s) ∙ e;
          formed = ap (λ t. parts_formed t l at) (stands-byte s) ∙ h;
        }

    -- A text: the request, and its room in the last 8 bytes.
    pub reading-text : {q : Request} {room : ℕ} (extra : Bool)
        → call-of tag l at ≡ text_call l at
        → parts_formed tag l at ≡ (leb (room_at l at) 65535 && extra)
        → request-of tag l at ≡ q
        → number_at l (at + (size_of tag - 8)) ≡ room
        → room ≤ 65535
        → extra ≡ true
        → CallRead (byte tag ∷ ps) (text q room) l at
    unfolding text_call request_at room_at size_at
    reading-text {q} {room} extra c p e r h x =
        let at_room : room_at l at ≡ room = ap (λ t. number_at l (at + (size_of t - 8))) (stands-byte s) ∙ r in
        reading (c ∙ ap₂ text (ap (λ t. request-of t l at) (stands-byte s) ∙ e) at_room)
        (p ∙ and_yes (ap (λ k. leb k 65535) at_room ∙ le-leb room 65535 h) x)

  -- ---- numbers alone

  module _ (ns : List ℕ) (w : All Number ns) (s : Stands (numbered tag ns) l at) (z : size_of tag ≡ suc (length ns * 8)) where
    numbers-form : Forms (length ns * 8) (map number_bytes ns)
    numbers-form = parts-form number_bytes number_at 8 ns (all_so Number (Codes number_bytes number_at 8) (λ n h. codes-number h) ns w)

    numbers-read : Reads l at 1 ns
    numbers-read = go ns 1 w (after (codes-count tag (tag-byte tag z)) s)
      where
        go : (ms : List ℕ) (k : ℕ) → All Number ms → Stands (map number_bytes ms) l (at + k) → Reads l at k ms
        go [] k v t = tt
        go (m ∷ ms) k v t = ((codes-number v.0).reads t, go ms (k + 8) v.1 (next (codes-number v.0) at k t))

    pub reading-numbers : {c : Call} → (Reads l at 1 ns → call-of tag l at ≡ c) → parts_formed tag l at ≡ true → CallRead (numbered tag ns) c l at
    reading-numbers e h = reading s numbers-form z (e numbers-read) h

    pub reading-asked : {q : Request} {room : ℕ} → call-of tag l at ≡ text_call l at
        → parts_formed tag l at ≡ (leb (room_at l at) 65535 && true)
        → (Reads l at 1 ns → (request-of tag l at ≡ q) × (number_at l (at + (size_of tag - 8)) ≡ room))
        → room ≤ 65535
        → CallRead (numbered tag ns) (text q room) l at
    reading-asked c p e h = reading-text s numbers-form z true c p (e numbers-read).0 (e numbers-read).1 h refl

-- ---- a byte and a number

module _ {A : Type 0} (part : A → ℕ × ℕ) (of : ℕ → ℕ → A) where
  pub codes-part : {a : A} → (part a).0 < 5 → Number (part a).1 → of (part a).0 (part a).1 ≡ a
      → Codes (λ x. part_bytes (part x)) (λ l at. of (byte_at l at) (number_at l (at + 1))) 9 a
  unfolding part_bytes
  codes-part {a} h w e =
      let first = codes-count (part a).0 (omega arith) in
      record {
        form = form-two first.form (codes-number w).form;
        reads = λ s.
            let t = stands-two (byte (part a).0) (number_bytes (part a).1) s in
            ap₂ of (first.reads t) ((codes-number w).reads (after first t)) ∙ e;
      }

pub part-formed : (p : ℕ × ℕ) {ps : List (List ℕ)} {l : List ℕ} {at : ℕ} → p.0 < 5 → Stands (part_bytes p ∷ ps) l at → below 5 1 l at ≡ true
unfolding part_bytes
part-formed p h s = stands-below 5 (stands-two (byte p.0) (number_bytes p.1) s) refl (h, tt)
