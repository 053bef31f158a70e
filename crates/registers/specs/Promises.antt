-- What interning and resolving hand back. u is the table after.
use Rattle.std.specs.Prelude.{ℕ, ◌≡◌, ◌≤◌, map, not, List, ◌++◌, ltb, length, take, Option, None, Some, is_some, IfSome}
use Rattle.laws.specs.Lists.{All}
use Rattle.laws.specs.Texts.{Text}
use Rattle.model.specs.Op.{Info}
use Rattle.model.specs.Registers.{interned, intern, numbered, intern_all, operands, resolve}
use Rattle.op.specs.declared.chars.Chars.{Chars}
use Rattle.op.specs.Chars.{view_text}
use Rattle.registers.specs.declared.RegisterTable.{RegisterTable}
use Rattle.registers.specs.declared.Operands.{Operands}
use Rattle.registers.specs.Hints.{Grown}
use Rattle.registers.specs.View.{view_known, view_held, Short, TableOk, read, written, OperandsOk}

-- ── RegisterTable::intern ─────────────────────────────────────────────────────

-- None: the name would be the 257th.
pub record InternedTo (t : RegisterTable) (a : Text) (u : RegisterTable) (r : Option ℕ) : Type 0 where
  pub fits : is_some r ≡ not (ltb 256 (length (intern (view_held t) a).names))
  pub is : (k : ℕ) → r ≡ Some k → interned k (view_held u) ≡ intern (view_held t) a
  pub same : r ≡ None → u ≡ t
  pub known : view_known u ≡ view_known t
  pub grown : Grown t u
  pub ok : TableOk u

-- ── A list of names: their numbers are the first of an array of n ─────────────

pub record FoundTo (t : RegisterTable) (n : ℕ) (names : List Text) (r : Option (List ℕ)) : Type 0 where
  pub is : (ks : List ℕ) → r ≡ Some ks → numbered (take (length names) ks) (view_held t) ≡ intern_all (view_held t) names
  pub size : IfSome r (λ (ks : List ℕ). length ks ≡ n)

pub record NumberedTo (t : RegisterTable) (n : ℕ) (names : List Text) (u : RegisterTable) (r : Option (List ℕ)) : Type 0 where
  pub fits : is_some r ≡ not (ltb 256 (length (intern_all (view_held t) names).names))
  pub is : (ks : List ℕ) → r ≡ Some ks → numbered (take (length names) ks) (view_held u) ≡ intern_all (view_held t) names
  pub known : view_known u ≡ view_known t
  pub grown : Grown t u
  pub size : IfSome r (λ (ks : List ℕ). length ks ≡ n)
  pub ok : TableOk u

-- At most so many short names, n of them, which are a list of the model's.
pub record Lists (most n : ℕ) (list : List Text) (names : List (Chars 16)) : Type 0 where
  pub few : n ≤ most
  pub count : length names ≡ n
  pub short : All Short (map view_text names)
  pub is : map view_text names ≡ list

-- ── RegisterTable::resolve ────────────────────────────────────────────────────

-- None: the names would be over 256, which is refusal 10.
pub record ResolvedTo (t : RegisterTable) (i : Info) (u : RegisterTable) (r : Option Operands) : Type 0 where
  pub fits : is_some r ≡ not (ltb 256 (length (intern_all (view_held t) (i.sources ++ i.writes)).names))
  pub same : r ≡ None → u ≡ t
  pub is : (x : Operands) → r ≡ Some x → operands (read x) (written x) (view_held u) ≡ resolve (view_held t) i
  pub known : view_known u ≡ view_known t
  pub grown : Grown t u
  pub ok : TableOk u
  pub numbers : IfSome r OperandsOk
