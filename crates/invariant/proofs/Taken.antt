-- What is known of a call that is not refused: each of its tests failed.
use Prim.Native.Nat.{ℕ, ◌≤◌, suc}
use native.Mathlib.Omega.{arith}
use mathlib.Core.Path.{◌≡◌, refl}
use mathlib.Core.Bool.{Bool, true, false, ◌||◌, true≢false}
use Rattle.std.specs.Prelude.{Option, None, Some}
use lib.Dec.{eqb, ltb}
use lib.ListN.{length, take}
use borrow.Author.Tests.{eqb-false, ltb-false}
use Rattle.laws.specs.Lists.{All}
use Rattle.std.specs.List.{list_any}
use Rattle.laws.specs.Numbers.{max64, saturating_add}
use Rattle.laws.specs.Optional.{is_none, when_some}
use Rattle.laws.specs.Texts.{Text}
use Rattle.model.specs.Calls.{advance, bad_info, calls, capacity, fetch, make_checks, make_refusal, refusal, retire, retry, fault, bad_text, bad_spec_name, extra_overflows, start}
use Rattle.model.specs.Config.{PipelineShape, UnitSpec, capacities, specs_or_generic}
use Rattle.model.specs.Op.{Given, Info}
use Rattle.model.specs.Scoreboard.{with_noted}
use Rattle.model.specs.State.{State}
use Rattle.refusals.proofs.Demand1.{none-holds, taken-checks}
use Rattle.invariant.proofs.Bools.{not-false, or-neither}
use Rattle.invariant.proofs.Lists.{any_none}

pub retry-text : (s : State) (x : Text) → refusal s (retry x) ≡ None → bad_text 64 x ≡ false
unfolding calls
retry-text s x p = (taken-checks s (retry x) p).1.1.0

pub fault-text : (s : State) (x : Text) → refusal s (fault x) ≡ None → bad_text 64 x ≡ false
unfolding calls
fault-text s x p = (taken-checks s (fault x) p).0

pub start_outside : (s : State) → refusal s start ≡ None → s.front.in_cycle ≡ false
unfolding calls
start_outside s p = (taken-checks s start p).0

pub advance-inside : (s : State) (r : Option ℕ) (ml : ℕ) → refusal s (advance r ml) ≡ None → s.front.in_cycle ≡ true
unfolding calls
advance-inside s r ml p = not-false s.front.in_cycle (taken-checks s (advance r ml) p).0

pub retire_offer : (s : State) → refusal s retire ≡ None → (i : ℕ) × (s.offer.writing ≡ Some i)
unfolding calls
retire_offer s p =
    go s.offer.writing refl (or-neither (is_none s.offer.writing) s.offer.retired (taken-checks s retire p).1.0).0
  where
    go : (w : Option ℕ) → s.offer.writing ≡ w → is_none w ≡ false → (i : ℕ) × (s.offer.writing ≡ Some i)
    go None e h = absurd (true≢false h)
    go (Some i) e h = (i, e)

pub record FetchTaken (s : State) (g : Given) : Type 0 where
  pub outside : s.front.in_cycle ≡ false
  pub invited : s.front.invited ≡ true
  pub texts : bad_info g.info ≡ false
  pub sources : length g.info.sources ≤ 8
  pub writes : length g.info.writes ≤ 4
  pub number : eqb s.front.next_seq max64 ≡ false

pub fetch-taken : (s : State) (g : Given) (ml : ℕ) → refusal s (fetch g ml) ≡ None → FetchTaken s g
unfolding calls
fetch-taken s g ml p =
    let t = taken-checks s (fetch g ml) p in
    let m = or-neither (ltb 8 (length g.info.sources)) (ltb 4 (length g.info.writes)) t.1.1.1.0 in
    record {
      outside = t.0;
      invited = not-false s.front.invited t.1.0;
      texts = t.1.1.0;
      sources = ltb-false 8 (length g.info.sources) m.0;
      writes = ltb-false 4 (length g.info.writes) m.1;
      number = t.1.1.1.1.0;
    }

-- The texts of an operation whose info is taken.
pub info-texts
    : (i : Info) → bad_info i ≡ false
    → (bad_text 64 i.disassembly ≡ false) × (list_any (bad_text 16) (take 8 i.sources) ≡ false) × (list_any (bad_text 16) (take 4 i.writes) ≡ false)
unfolding calls
info-texts i h =
    five (bad_text 64 i.disassembly) (when_some i.fault false (bad_text 64)) (when_some i.destination false (bad_text 16))
    (list_any (bad_text 16) (take 8 i.sources)) (list_any (bad_text 16) (take 4 i.writes)) h
  where
    five : (a b c d e : Bool) → (a || b || c || d || e) ≡ false → (a ≡ false) × (d ≡ false) × (e ≡ false)
    five true b c d e h = absurd (true≢false h)
    five false true c d e h = absurd (true≢false h)
    five false false true d e h = absurd (true≢false h)
    five false false false true e h = absurd (true≢false h)
    five false false false false e h = (refl, refl, h)

-- Numbers are not out.
pub next-number : (n : ℕ) → n ≤ max64 → eqb n max64 ≡ false → saturating_add n 1 ≡ suc n
next-number n h e = let k = eqb-false n max64 e in omega arith

pub capacity-taken
    : (s : State) (k n : ℕ) → refusal s (capacity k n) ≡ None → (s.front.in_cycle ≡ false) × (capacities (with_noted k n s) ≤ 64)
unfolding calls
capacity-taken s k n p =
    let t = taken-checks s (capacity k n) p in (t.0, ltb-false 64 (capacities (with_noted k n s)) t.1.1.0)

pub record MakeTaken (d : PipelineShape) : Type 0 where
  pub kinds : length d.units ≤ 16
  pub capacity : capacities (specs_or_generic d.units) ≤ 64
  pub stages : length d.stages ≤ 16
  pub history : d.history ≤ 256
  pub names : All (λ (k : UnitSpec). bad_spec_name k ≡ false) d.units
  pub times : extra_overflows d.times ≡ false

pub make-taken : (d : PipelineShape) (lent : ℕ) → make_refusal d lent ≡ None → MakeTaken d
unfolding calls
make-taken d lent p =
    let c = none-holds (make_checks d lent) p in
    let e =
    four (ltb 16 (length d.units)) (ltb 64 (capacities (specs_or_generic d.units))) (ltb 16 (length d.stages))
    (ltb 256 d.history) c.0 in
    record {
      kinds = ltb-false 16 (length d.units) e.0;
      capacity = ltb-false 64 (capacities (specs_or_generic d.units)) e.1;
      stages = ltb-false 16 (length d.stages) e.2;
      history = ltb-false 256 d.history e.3;
      names = any_none bad_spec_name d.units c.1.0;
      times = c.1.1.0;
    }
  where
    four : (a b c d : Bool) → (a || b || c || d) ≡ false → (a ≡ false) × (b ≡ false) × (c ≡ false) × (d ≡ false)
    four true b c d e = absurd (true≢false e)
    four false true c d e = absurd (true≢false e)
    four false false true d e = absurd (true≢false e)
    four false false false d e = (refl, refl, refl, e)
