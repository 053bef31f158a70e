-- Which unit may write: what the parts of the choice mean to the model.
use Rattle.std.specs.Prelude.{ℕ, ◌≤◌, ◌<◌, ◌≡◌, List, ◌∷◌, ◌++◌, map, length, get_or, take, drop, Option, option_map}
use Rattle.std.specs.Option.{IfSome}
use Rattle.laws.specs.Lists.{All}
use Rattle.model.specs.Write.{Blocked as Reason, war, memory, drain, insert, Tried as Outcome, tried}
use Rattle.units.specs.declared.Unit.{Unit as Slot}
use Rattle.bank.specs.declared.Units.{Units}
use Rattle.registers.specs.declared.Operands.{Operands}
use Rattle.flight.specs.View.{Legend}
use Rattle.registers.specs.View.{written}
use Rattle.bank.specs.View.{slots, UnitKnows}
use Rattle.writing.specs.declared.Ready.{Ready}
use Rattle.writing.specs.declared.Blocked.{Blocked}
use Rattle.writing.specs.declared.Blocked.TheVariants.{War, Memory, Drain}
use Rattle.writing.specs.declared.Turned.{Turned}
use Rattle.writing.specs.declared.Tried.{Tried}

-- ── The finished units ──────────────────────────────────────────────────────

-- The numbers of the units' operations.
abbrev pub seqs : Units → List ℕ
seqs us = map (λ (u : Slot). u.seq) us.items

-- A unit with its number, of the numbers ss.
abbrev pub view_finished : List ℕ → ℕ → ℕ × ℕ
view_finished ss j = (get_or ss j 0, j)

unfoldable pub view_ready : List ℕ → Ready → List (ℕ × ℕ)
view_ready ss r = take r.len (map (view_finished ss) r.items)

pub record ReadyOk (r : Ready) : Type 0 where
  pub few : r.len ≤ 64
  pub size : length r.items ≡ 64

-- The list of finished units of n units: the model's list whatever the legend.
pub record ReadyIs (ss : List ℕ) (r : Ready) (n : ℕ) (m : Legend → List (ℕ × ℕ)) : Type 0 where
  pub is : (g : Legend) → view_ready ss r ≡ m g
  pub few : r.len ≤ n
  pub below : All (λ (q : ℕ × ℕ). q.1 < n) (view_ready ss r)
  pub ok : ReadyOk r

-- Where an entry of this number goes.
pub record PlaceFor (l : List (ℕ × ℕ)) (seq r : ℕ) : Type 0 where
  pub most : r ≤ length l
  pub is : (u : ℕ) → insert (seq, u) l ≡ take r l ++ (seq, u) ∷ drop r l

-- ── Why a unit may not write ────────────────────────────────────────────────

unfoldable pub view_reason : Blocked → Reason
view_reason (War r j) = war r j
view_reason (Memory j) = memory j
view_reason Drain = drain

abbrev pub view_blocked : Option Blocked → Option Reason
view_blocked o = option_map view_reason o

unfoldable pub view_turned : Turned → ℕ × Reason
view_turned t = (t.unit, view_reason t.blocked)

unfoldable pub turned_away : Tried → List (ℕ × Reason)
turned_away t = take t.len (map view_turned t.items)

unfoldable pub view_tried : Tried → Outcome
view_tried t = tried (turned_away t) t.found

-- The register of a WAR is among the first n.
abbrev pub BlockedKnown : ℕ → Blocked → Type 0
BlockedKnown n (War r j) = r < n
BlockedKnown n (Memory j) = Unit {0}
BlockedKnown n Drain = Unit {0}

-- A WAR of one of these registers, if there is one.
pub record WarIs (us : Units) (x : Operands) (r : Option Blocked) (m : Legend → Option Reason) : Type 0 where
  pub is : (g : Legend) → view_blocked r ≡ m g
  pub known : (n : ℕ) → All (λ (k : ℕ). k < n) (written x) → IfSome r (BlockedKnown n)

-- Why unit `at` may not write, if so: the model's reason whatever the legend; its register is one that the unit writes.
pub record BlockedIs (us : Units) (r : Option Blocked) (m : Legend → Option Reason) : Type 0 where
  pub is : (g : Legend) → view_blocked r ≡ m g
  pub known : (n : ℕ) → All (UnitKnows n) (slots us) → IfSome r (BlockedKnown n)

-- A unit that was turned away, and why.
pub record TurnedOk (us : Units) (t : Turned) : Type 0 where
  pub unit : t.unit < us.len
  pub known : (n : ℕ) → All (UnitKnows n) (slots us) → BlockedKnown n t.blocked

pub record TriedOk (us : Units) (t : Tried) : Type 0 where
  pub few : t.len ≤ us.len
  pub size : length t.items ≡ 64
  pub each : All (TurnedOk us) (take t.len t.items)
  pub found : IfSome t.found (λ (i : ℕ). i < us.len)

pub record TriedIs (us : Units) (r : Tried) (m : Legend → Outcome) : Type 0 where
  pub is : (g : Legend) → view_tried r ≡ m g
  pub ok : TriedOk us r

-- All of these unfold where a line says `unfolding choices`.
unfoldable pub choices : Unit {0}
unfolding view_ready view_reason view_turned turned_away view_tried
choices = tt
