-- The hints of a table that grew.
use Prim.Native.Nat.{ℕ, ◌<◌}
use mathlib.Core.Path.{◌≡◌, ap, ◌∙◌}
use mathlib.Core.List.{[]}
use native.Mathlib.Nat.{zero-add}
use lib.ListN.{length, get_or, drop}
use Rattle.registers.specs.declared.RegisterTable.{RegisterTable}
use Rattle.registers.specs.View.{view_held, TableOk}
use Rattle.registers.specs.Hints.{bucket_of, hinted, Grown, Last, HintLaws}
use Rattle.registers.proofs.Hints.{grown_more, none_hinted, one_hinted, hinted_last, hinted_other}
use Rattle.registers.proofs.NameTable.{held-length}

module _ {t u : RegisterTable} (none : t.held ≡ 0) (g : Grown t u) where
  all_hinted : u.hints ≡ hinted 0 (view_held u) t.hints
  all_hinted = g.hints ∙ ap (λ n. hinted n (drop n (view_held u)) t.hints) none

  each_hinted : TableOk t → (k : ℕ) → k < length (view_held u) → Last (view_held u) k
      → get_or u.hints (bucket_of (get_or (view_held u) k [])) 0 ≡ k
  each_hinted ok k h last =
      ap (λ hs. get_or hs (bucket_of (get_or (view_held u) k [])) 0) all_hinted
      ∙ hinted_last 0 (view_held u) t.hints k ok.hints h last
      ∙ zero-add k

  other_hinted : (b : ℕ) → ((k : ℕ) → k < length (view_held u) → bucket_of (get_or (view_held u) k []) ≡ b → ⊥)
      → get_or u.hints b 0 ≡ get_or t.hints b 0
  other_hinted b others = ap (λ hs. get_or hs b 0) all_hinted ∙ hinted_other b 0 (view_held u) t.hints others

pub hint_laws : HintLaws
hint_laws =
    record {
      again = λ t s u p q f g. grown_more (held-length p) (held-length q) f g;
      same = λ t u ok g e. none_hinted (held-length ok) g e;
      new = λ t u a ok g e. one_hinted (held-length ok) a g e;
      all = λ t u none g. all_hinted none g;
      each = λ t u ok none g. each_hinted none g ok;
      other = λ t u none g. other_hinted none g;
    }
