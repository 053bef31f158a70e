-- How long the texts are at most.
use Prim.Native.Nat.{ℕ, zero, suc, ◌+◌, ◌-◌, ◌*◌, ◌/◌, ◌%◌, ◌≤◌, ◌<◌}
use mathlib.Core.Path.{◌≡◌, sym, ap, ◌∙◌}
use mathlib.Core.Bool.{Bool, true, false, cond}
use mathlib.Core.Logic.{⊎_elim}
use Rattle.std.specs.Prelude.{Option, None, Some}
use mathlib.Core.List.{List, [], ◌∷◌, ◌++◌}
use native.Mathlib.Omega.{arith}
use lib.Dec.{eqb}
use lib.ListN.{length, get_or, length-append, length-take}
use Rattle.laws.specs.Optional.{value_or, when_some}
use Rattle.laws.specs.Texts.{Text, bytes, utf8, digit, digits_before, decimal}
use Rattle.laws.proofs.Digits.{digits-end, digits_more}
use Rattle.laws.proofs.Tests.{lt-or-ge}
use Rattle.capability.specs.declared.PipelineTimelineState.TheVariants as cell
use Rattle.capability.specs.Numbers.{state_number}
use Rattle.model.specs.Config.{UnitSpec}
use Rattle.model.specs.Timeline.{Row, cell_at}
use Rattle.model.specs.Views.{CellView, cell_view}
use Rattle.model.specs.Requests.{cell_labels, spec_names, label_text}
use Rattle.model.specs.Forecast.{Lent, is_stalled, cell_text, cells_text, row_text}
use Rattle.op.specs.Chars.{view_text}
use Rattle.op.proofs.Texts.{shown-short}
use Rattle.config.specs.declared.Machine.{Machine}
use Rattle.config.specs.View.{view_machine}
use Rattle.config.specs.Kept.{MachineOk}
use Rattle.config.proofs.Machines.{spare}
use Rattle.words.proofs.Labels.{kind_named, kind_fits, name_listed, none_listed, label_kind, label_none}
use Rattle.pages.specs.Shown.{shown_text}

-- ── A number ────────────────────────────────────────────────────────────────

-- The fuel is the most digits but one, whatever the number.
digits-most : (base fuel n : ℕ) (tail : Text) → length (digits_before base fuel n tail) ≤ suc fuel + length tail
unfolding digits_before
digits-most base zero n tail = omega arith
digits-most base (suc fuel) n tail =
    ⊎_elim
    (λ (h : n < base). omega (arith, ap length (digits-end (suc fuel) tail h)))
    (λ (h : base ≤ n). omega (arith, ap length (digits_more fuel tail h), digits-most base fuel (n / base) (digit (n % base) ∷ tail)))
    (lt-or-ge n base)

pub decimal-most : (n : ℕ) → length (decimal n) ≤ 20
unfolding decimal
decimal-most n = omega (arith, digits-most 10 19 n [])

-- a text and a number behind it
pub after-most : (t : Text) (n : ℕ) → length (t ++ decimal n) ≤ length t + 20
after-most t n = omega (arith, length-append t (decimal n), decimal-most n)

-- ── A label ─────────────────────────────────────────────────────────────────

-- Each label of a list of kinds has at most 8 bytes.
abbrev pub ShortLabels : List UnitSpec → Type 0
ShortLabels ks = (n : ℕ) → length (value_or [] (label_text ks n)) ≤ 8

few-labels : (ks : List UnitSpec) (n : ℕ) → n < 5 → length (value_or [] (label_text ks n)) ≤ 8
unfolding label_text cell_labels bytes utf8
few-labels ks zero h = omega arith
few-labels ks (suc zero) h = omega arith
few-labels ks (suc (suc zero)) h = omega arith
few-labels ks (suc (suc (suc zero))) h = omega arith
few-labels ks (suc (suc (suc (suc zero)))) h = omega arith
few-labels ks (suc (suc (suc (suc (suc n))))) h = absurd (let z : ⊥ = omega arith in z)

short-as : {o p : Option Text} → o ≡ p → length (value_or [] p) ≤ 8 → length (value_or [] o) ≤ 8
short-as e h = rw e h

module _ {m : Machine} (ok : MachineOk m) where
  kind-short : (k : ℕ) → length (value_or [] (spec_names (view_machine m).specs k)) ≤ 8
  unfolding view_text
  kind-short k =
      ⊎_elim
      (λ (h : k < m.specs_len).
      let n = (get_or m.specs k spare).name in
      let e = sym (kind_named ok h) ∙ shown-short 8 n.len n.bytes (kind_fits ok h) in
      short-as (sym (name_listed ok h)) (omega (arith, ap length e, length-take n.len n.bytes, kind_fits ok h)))
      (λ (h : m.specs_len ≤ k). short-as (none_listed ok h) (omega arith))
      (lt-or-ge k m.specs_len)

  pub short-labels : ShortLabels (view_machine m).specs
  short-labels n =
      ⊎_elim
      (λ (h : n < 5). few-labels (view_machine m).specs n h)
      (λ (h : 5 ≤ n). ⊎_elim
      (λ (l : n < 8). short-as (label_none (view_machine m).specs h l) (omega arith))
      (λ (l : 8 ≤ n). short-as (sym (label_kind (view_machine m).specs l)) (kind-short (n - 8)))
      (lt-or-ge n 8))
      (lt-or-ge n 5)

-- ── Cells and a row ─────────────────────────────────────────────────────────

star-most : (b : Bool) → length (cond b (bytes "*") []) ≤ 1
unfolding bytes utf8
star-most true = omega arith
star-most false = omega arith

module _ (ks : List UnitSpec) (short : ShortLabels ks) where
  shown-most : (v : CellView) → length (shown_text ks v) ≤ 10
  unfolding shown_text bytes utf8
  shown-most v =
      let name = value_or [] (label_text ks v.label) in
      let star = cond (eqb (state_number v.state) (state_number cell.Stalled)) (bytes "*") [] in
      omega (arith, length-append (bytes " ") (name ++ star), length-append name star, short v.label, star-most (eqb (state_number v.state) (state_number cell.Stalled)))

  cell-most : (b : ℕ) → length (cell_text ks b) ≤ 10
  unfolding shown_text cell_text is_stalled cell_view
  cell-most b = shown-most (cell_view b)

  cell-or-none : (o : Option ℕ) → length (when_some o [] (cell_text ks)) ≤ 10
  cell-or-none None = omega arith
  cell-or-none (Some b) = cell-most b

module _ (e : Lent) (short : ShortLabels e.engine.machine.specs) (r : Row) where
  pub cells-most : (n : ℕ) → length (cells_text e r n) ≤ n * 10
  unfolding cells_text
  cells-most zero = omega arith
  cells-most (suc n) =
      let o = cell_at e.engine.machine.history r e.cells n in
      omega (arith, length-append (cells_text e r n) (when_some o [] (cell_text e.engine.machine.specs)), cells-most n, cell-or-none e.engine.machine.specs short o)

  pub row-most : r.count ≤ 200 → length (row_text e r) ≤ 2042
  unfolding row_text bytes utf8
  row-most h =
      let cells = cells_text e r r.count in
      let first = decimal r.first_cycle in
      omega (
        arith,
        length-append (decimal r.id) (bytes " " ++ (first ++ (cells ++ bytes "\n"))),
        length-append (bytes " ") (first ++ (cells ++ bytes "\n")),
        length-append first (cells ++ bytes "\n"),
        length-append cells (bytes "\n"),
        decimal-most r.id,
        decimal-most r.first_cycle,
        cells-most r.count,
      )
