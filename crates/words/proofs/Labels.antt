-- The name of a kind, and the label of a cell.
use Prim.Native.Nat.{ℕ, ◌-◌, ◌≤◌, ◌<◌}
use mathlib.Core.Path.{◌≡◌, sym, ap, ◌∙◌}
use mathlib.Core.Bool.{false}
use Rattle.std.specs.Prelude.{None, Some, Ok, slice_get}
use mathlib.Core.List.{List, []}
use native.Mathlib.Omega.{arith}
use lib.Dec.{eqb, ltb}
use lib.ListN.{length, get_or}
use borrow.Author.Tests.{ltb-false}
use Rattle.std.specs.List.{list_any}
use Rattle.laws.proofs.Tests.{cond-lt, cond-ge, or-neither, or_else_none, omap-some, omap-none, when_some-some, when_some-none}
use Rattle.laws.proofs.Slices.{nth_end, seen-nth}
use Rattle.model.specs.Config.{UnitSpec, spec_name}
use Rattle.model.specs.Calls.{bad_byte, bad_text, bad_spec_name}
use Rattle.model.specs.Requests.{cell_labels, spec_names, label_text}
use Rattle.config.specs.declared.Machine.{Machine}
use Rattle.op.specs.Chars.{view_text}
use Rattle.config.specs.View.{view_spec, view_machine}
use Rattle.config.specs.Kept.{MachineOk}
use Rattle.config.proofs.Machines.{spare, specs-length, specs-next, specs-read}
use Rattle.traces.specs.Texts.{Written, Wrote}
use Rattle.words.proofs.Shown.{shown-count, wrote-is, wrote_nothing}

-- ── A kind ──────────────────────────────────────────────────────────────────

named-short : (k : UnitSpec) → bad_spec_name k ≡ false → length k.name ≤ 8
unfolding bad_spec_name bad_text
named-short k e =
    let text = (or-neither (eqb (length k.name) 0) (bad_text 8 k.name) e).1 in
    ltb-false 8 (length k.name) (or-neither (ltb 8 (length k.name)) (list_any bad_byte k.name) text).0

module _ {m : Machine} (ok : MachineOk m) {k : ℕ} where
  module _ (h : k < m.specs_len) where
    pub kind_named : view_text (get_or m.specs k spare).name ≡ spec_name (view_machine m).specs k
    unfolding spec_name view_spec
    kind_named = sym (when_some-some [] (λ (u : UnitSpec). u.name) (seen-nth (specs-next ok h)))

    pub kind_fits : (get_or m.specs k spare).name.len ≤ 8
    unfolding view_spec view_text
    kind_fits =
        let n = (get_or m.specs k spare).name in
        shown-count 8 n.len n.bytes (named-short _ (specs-read ok h).kind.named)

    pub name_listed : Some (spec_name (view_machine m).specs k) ≡ spec_names (view_machine m).specs k
    unfolding spec_names view_spec
    name_listed = sym (omap-some (λ (u : UnitSpec). u.name) (seen-nth (specs-next ok h)) ∙ ap Some kind_named)

  module _ (h : m.specs_len ≤ k) where
    no_kind : slice_get (view_machine m).specs k ≡ None
    no_kind = nth_end (view_machine m).specs (omega (arith, specs-length ok))

    pub kind_unnamed : [] ≡ spec_name (view_machine m).specs k
    unfolding spec_name
    kind_unnamed = sym (when_some-none [] (λ (u : UnitSpec). u.name) no_kind)

    pub none_listed : spec_names (view_machine m).specs k ≡ None
    unfolding spec_names
    none_listed = omap-none (λ (u : UnitSpec). u.name) no_kind

-- Of a kind: its name, as it is written.
module _ {m : Machine} (ok : MachineOk m) {k : ℕ} {lent : List ℕ} where
  pub wrote_kind : k < m.specs_len → {t out : List ℕ} {r : Written} → t ≡ spec_name (view_machine m).specs k → Wrote (Some t) lent out r → Wrote (spec_names (view_machine m).specs k) lent out r
  wrote_kind h e = wrote-is (ap Some e ∙ name_listed ok h)

  pub wrote_no_kind : m.specs_len ≤ k → Wrote (spec_names (view_machine m).specs k) lent lent (Ok None)
  wrote_no_kind h = wrote_nothing lent (none_listed ok h)

-- ── A label ─────────────────────────────────────────────────────────────────

module _ (ks : List UnitSpec) {n : ℕ} where
  pub label_kind : 8 ≤ n → spec_names ks (n - 8) ≡ label_text ks n
  unfolding label_text cell_labels
  label_kind h = sym (or_else_none _ (nth_end cell_labels {i = n} (omega arith)) ∙ cond-ge None _ h)

  pub label_none : 5 ≤ n → n < 8 → label_text ks n ≡ None
  unfolding label_text cell_labels
  label_none h l = or_else_none _ (nth_end cell_labels h) ∙ cond-lt None _ l
