-- The bytes of a call by the byte that says which: how many, which tests its parts want, and when it is of its form.
use Prim.Native.Nat.{ℕ, ◌+◌, ◌-◌, ◌≤◌, ◌<◌}
use mathlib.Core.Path.{◌≡◌, sym, ap, ◌∙◌}
use mathlib.Core.Bool.{true, cond, ◌&&◌}
use mathlib.Core.Logic.{◌⊎◌, ⊎_elim}
use mathlib.Core.List.{List}
use native.Mathlib.Omega.{arith}
use lib.Dec.{leb, eqb}
use lib.ListN.{get_or, drop, get_or-eq_default}
use lib.Seq.{get_or-drop}
use borrow.Author.Tests.{ne_eqb}
use Rattle.laws.specs.Lists.{All}
use Rattle.laws.proofs.Slices.{All-get_or}
use Rattle.laws.proofs.Tests.{cond_no, cond-ge, cond-ne, or_no, lt-or-ge}
use Rattle.decoding.specs.Bytes.{byte_at, below}
use Rattle.decoding.specs.Calls.{sizes, size_at, room_at, parts_formed}

-- A request for a text ends with a number, and is longer than that.
pub text_size : {tag : ℕ} → 39 ≤ tag → tag < 49 → 8 < get_or sizes tag 0
text_size {tag} h k =
    let e : 39 + (tag - 39) ≡ tag = omega arith in
    let each : All (λ n. 8 < n) (drop 39 sizes) = omega arith in
    let here : tag - 39 < 10 = omega arith in
    rw (get_or-drop 39 sizes (tag - 39) 0, e) at (All-get_or (λ n. 8 < n) (drop 39 sizes) 0 each here)

module _ (l : List ℕ) (at : ℕ) {tag : ℕ} where
  pub size-by : (k : ℕ) → tag ≡ byte_at l at → tag ≡ k → size_at l at ≡ get_or sizes k 0
  unfolding size_at
  size-by k e q = ap (λ t. get_or sizes t 0) (sym e ∙ q)

  pub parts-text : 39 ≤ tag
      → parts_formed tag l at ≡ (leb (room_at l at) 65535 && cond (eqb tag 40) (below 5 1 l (at + 1) && below 5 1 l (at + 10)) true)
  unfolding parts_formed
  parts-text k =
      cond_no _ _ (or_no (ne_eqb tag 4 (λ e. omega arith)) (ne_eqb tag 7 (λ e. omega arith)))
      ∙ cond-ne _ _ (λ (e : tag ≡ 5). omega arith) ∙ cond-ge _ _ k

pub call_known : {tag : ℕ} → 0 < get_or sizes tag 0 → tag < 49
call_known {tag} h =
    ⊎_elim (λ k. k) (λ (k : 49 ≤ tag). absurd (let z : ⊥ = omega (arith, get_or-eq_default sizes 0 k) in z)) (lt-or-ge tag 49)
