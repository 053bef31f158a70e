-- What the structs mean to the model, and when they are well formed.
use Rattle.std.specs.Prelude.{ℕ, ◌≤◌, ◌≡◌, List, [], map, length, take, drop, Option, None}
use Rattle.laws.specs.Lists.{All}
use Rattle.laws.specs.Texts.{Text}
use Rattle.runs.proofs.Names.{Distinct}
use Rattle.op.specs.declared.chars.Chars.{Chars}
use Rattle.op.specs.Chars.{view_text}
use Rattle.registers.specs.declared.RegisterTable.{RegisterTable}
use Rattle.registers.specs.declared.Claims.{Claims}
use Rattle.registers.specs.declared.Operands.{Operands}
use Rattle.registers.specs.declared.Owed.{Owed}
use Rattle.registers.specs.Look.{Numbers}
use Rattle.registers.specs.declared.Waits.{Waits}

-- ── The table of names ────────────────────────────────────────────────────────

-- The model's names: those that have been looked at.
unfoldable pub view_known : RegisterTable → List Text
view_known t = take t.known (map view_text t.names)

-- Also those of queued operations.
unfoldable pub view_held : RegisterTable → List Text
view_held t = take t.held (map view_text t.names)

pub record Table : Type 0 where
  pub known : List Text
  pub held : List Text

abbrev pub table_of : List Text → List Text → Table
table_of k h = record { known = k; held = h }

abbrev pub view_table : RegisterTable → Table
view_table t = table_of (view_known t) (view_held t)

-- At most 16 bytes: within a name's limits.
abbrev pub Short : Text → Type 0
Short a = length a ≤ 16

abbrev pub NameOk : Chars 16 → Type 0
NameOk n = Short (view_text n)

pub record TableOk (t : RegisterTable) : Type 0 where
  pub known : t.known ≤ t.held
  pub held : t.held ≤ 256
  pub size : length t.names ≡ 256
  pub hints : length t.hints ≡ 1024
  pub each : All NameOk t.names
  pub distinct : Distinct (view_held t)

-- ── Claims ────────────────────────────────────────────────────────────────────

-- The model's producers: for each register the unit that owes it, if one does.
unfoldable pub view_claims : Claims → List (Option ℕ)
view_claims c = take c.len c.unit

-- Nobody owes a register past the last.
pub record ClaimsOk (c : Claims) : Type 0 where
  pub count : c.len ≤ 256
  pub size : length c.unit ≡ 256
  pub free : All (λ (o : Option ℕ). o ≡ None) (drop c.len c.unit)

unfoldable pub view_owed : Owed → ℕ × ℕ
view_owed o = (o.register, o.unit)

unfoldable pub view_waits : Waits → List (ℕ × ℕ)
view_waits w = take w.len (map view_owed w.items)

pub record WaitsOk (w : Waits) : Type 0 where
  pub count : w.len ≤ 8
  pub size : length w.items ≡ 8

-- ── An operation's registers ──────────────────────────────────────────────────

abbrev pub read : Operands → List ℕ
read x = take x.sources_len x.sources

abbrev pub written : Operands → List ℕ
written x = take x.destinations_len x.destinations

abbrev pub view_operands : Operands → Numbers
view_operands x = record { read = read x; written = written x }

abbrev pub no_operands : Numbers
no_operands = record { read = []; written = [] }

-- The numbers fill their arrays as far as the counts say.
pub record OperandsOk (x : Operands) : Type 0 where
  pub sources : x.sources_len ≤ 8
  pub sources_size : length x.sources ≡ 8
  pub destinations : x.destinations_len ≤ 4
  pub destinations_size : length x.destinations ≡ 4

-- All of these unfold where a line says `unfolding views`.
unfoldable pub views : Unit {0}
unfolding view_known view_held view_claims view_owed view_waits
views = tt
