-- A kind of unit and a machine are read back, and are of their form.
use Prim.Native.Nat.{ℕ, ◌-◌, ◌≤◌}
use native.Mathlib.Omega.{arith}
use mathlib.Core.Path.{◌≡◌, refl, sym, ap, ◌∙◌}
use mathlib.Core.Bool.{Bool, true}
use mathlib.Core.List.{List, ◌∷◌, ◌++◌, map, flatten}
use lib.ListN.{length, get_or, take, replicate}
use borrow.Author.Tests.{le-leb}
use Rattle.laws.proofs.Tests.{and_yes}
use Rattle.laws.specs.Lists.{keep}
use Rattle.std.specs.List.{list_all, list_any}
use Rattle.capability.specs.declared.PipelineStageRole.TheVariants.{Fetch, Other}
use Rattle.capability.specs.Numbers.{class_number}
use Rattle.model.specs.Config.{Timing, timing, UnitSpec, unit_spec, generic_unit, PipelineShape, pipeline_shape}
use Rattle.config.specs.View.{flag, flagged, padded}
use Rattle.decoding.specs.Bytes.{byte_at, number_at, flag_at, role_at, text_at, optional_at, places, parts_at, below}
use Rattle.decoding.specs.Machine.{timing_at, kind_at, shape_at, entry_at, making_lent, kind_formed, machine_formed}
use Rattle.encoding.specs.Parts.{byte, number_bytes, flag_bytes, role_bytes, filled, text_bytes, optional_bytes, parts_bytes}
use Rattle.encoding.specs.Records.{flags_of, kind_parts, kind_bytes, spare_kind, extras, machine_parts, machine_bytes}
use Rattle.encoding.specs.Limits.{Number, Few, WithinKind, WithinShape}
use Rattle.encoding.proofs.Stands.{Stands, stands-in, all_so, always, Form, Forms, forms-end, forms-next, Codes, after, next, Passes, codes-parts, parts-pass}
use Rattle.encoding.proofs.Parts.{codes-number, codes-count, codes-flag, codes-class, codes-role, codes-text, codes-optional, codes-few, filled-length, filled-all, optional-formed, flags-formed, role-formed, class-formed}

-- ---- a kind of unit

module _ (k : UnitSpec) (w : WithinKind k) where
  abbrev a-name : Codes (text_bytes 8) (text_at 8) 9 k.name
  a-name = codes-text (omega arith) w.name

  flags : Codes (λ (l : List Bool). flatten (map flag_bytes l)) (parts_at flag_at 1 10) 10 (flags_of k.classes)
  unfolding flags_of
  flags = codes-parts flag_bytes flag_at 1 refl (always (Codes flag_bytes flag_at 1) codes-flag (flags_of k.classes))

  kind-form : Forms 28 (kind_parts k)
  kind-form =
      forms-next a-name.form (forms-next flags.form (forms-next (codes-class k.latency_class).form
      (forms-next (codes-number w.capacity).form forms-end)))

  kind-reads : {l : List ℕ} {at : ℕ} → Stands (kind_parts k) l at → (kind_at l at ≡ k) × (kind_formed l at ≡ true)
  unfolding kind_at kind_formed
  kind-reads {l} {at} s0 =
      let s9 = after a-name s0 in
      let s19 = next flags at 9 s9 in
      let s20 = next (codes-class k.latency_class) at 19 s19 in (
        λ i. unit_spec (a-name.reads s0 i) ((ap flagged (flags.reads s9) ∙ w.classes) i) ((codes-class k.latency_class).reads s19 i)
            ((codes-number w.capacity).reads s20 i),
        and_yes (flags-formed (flags_of k.classes) flags.form.size s9) (class-formed k.latency_class s19),
      )

codes-kind : (k : UnitSpec) → WithinKind k → Codes kind_bytes kind_at 28 k
unfolding kind_bytes
codes-kind k w = record { form = (kind-form k w).whole; reads = λ s. (kind-reads k w (stands-in (kind_parts k) s)).0 }

kind-passes : (k : UnitSpec) → WithinKind k → Passes kind_bytes kind_formed k
unfolding kind_bytes
kind-passes k w = record { pass = λ s. (kind-reads k w (stands-in (kind_parts k) s)).1 }

spare-within : WithinKind spare_kind
unfolding flags_of flagged flag keep class_number
spare-within = record { name = (omega arith, tt); classes = refl; capacity = omega arith }

-- ---- a machine

-- What is read of a list that starts with a machine.
pub record MachineRead (d : PipelineShape) (a m : ℕ) (l : List ℕ) : Type 0 where
  pub shape : shape_at l ≡ d
  pub entry : entry_at l ≡ a
  pub lent : making_lent l ≡ m
  pub formed : 555 ≤ length l → machine_formed l ≡ true

abbrev timing-of : List ℕ → Timing
timing-of ns = timing (get_or ns 0 0) (get_or ns 1 0) (get_or ns 2 0) (get_or ns 3 0) (get_or ns 4 0) (get_or ns 5 0) (get_or ns 6 0)

module _ (d : PipelineShape) (entry lent : ℕ) (w : WithinShape d) (e : Number entry) (m : Number lent) where
  times : Codes (λ (l : List ℕ). flatten (map number_bytes l)) (parts_at number_at 8 7) 56 (extras d.times)
  times = codes-parts number_bytes number_at 8 refl (all_so Number (Codes number_bytes number_at 8) (λ n h. codes-number h) (extras d.times) w.times)

  fixed : Codes (optional_bytes number_bytes 0) (optional_at number_at) 9 d.instruction_bytes
  fixed = codes-optional (λ n h. codes-number h) 0 (omega arith) d.instruction_bytes w.instruction_bytes

  abbrev roles-few : Few 16 (λ r. Unit {0}) d.stages
  roles-few = (w.stages, always (λ r. Unit {0}) (λ r. tt) d.stages)

  stages : Codes (parts_bytes role_bytes 16 Fetch)
      (λ l at. take (length d.stages) (parts_at role_at 1 16 l at) ++ replicate (length d.stages - 16) Other) 16 d.stages
  stages = codes-few (λ r u. codes-role r) 16 Fetch Other d.stages tt roles-few

  kinds : Codes (parts_bytes kind_bytes 16 spare_kind)
      (λ l at. take (length d.units) (parts_at kind_at 28 16 l at) ++ replicate (length d.units - 16) generic_unit) 448 d.units
  kinds = codes-few codes-kind 16 spare_kind generic_unit d.units spare-within w.units

  abbrev stage_count : Codes byte byte_at 1 (length d.stages)
  stage_count = codes-count (length d.stages) (omega (arith, w.stages))

  abbrev kind-count : Codes byte byte_at 1 (length d.units)
  kind-count = codes-count (length d.units) (omega (arith, w.units.0))

  machine-form : Forms 555 (machine_parts d entry lent)
  machine-form =
      forms-next times.form (forms-next fixed.form (forms-next (codes-number e).form
      (forms-next (codes-number w.history).form (forms-next (codes-number m).form (forms-next stage_count.form
      (forms-next stages.form (forms-next kind-count.form (forms-next kinds.form forms-end))))))))

  roles-formed : {ps : List (List ℕ)} {l : List ℕ} {at : ℕ} → Stands (parts_bytes role_bytes 16 Fetch d.stages ∷ ps) l at → below 8 16 l at ≡ true
  unfolding parts_bytes
  roles-formed s = role-formed (filled 16 Fetch d.stages) stages.form.size s

  kinds-formed : {ps : List (List ℕ)} {l : List ℕ} {at : ℕ} → Stands (parts_bytes kind_bytes 16 spare_kind d.units ∷ ps) l at
      → list_all (kind_formed l) (places 28 16 at) ≡ true
  unfolding parts_bytes
  kinds-formed {l = l} {at = at} s =
      let sixteen : List UnitSpec = filled 16 spare_kind d.units in
      let within = filled-all 16 spare_kind d.units w.units.0 WithinKind spare-within w.units.1 in
      let both = all_so WithinKind (λ k. Codes kind_bytes kind_at 28 k × Passes kind_bytes kind_formed k) (λ k h. (codes-kind k h, kind-passes k h)) sixteen within in
      ap (λ n. list_all (kind_formed l) (places 28 n at)) (sym (filled-length 16 spare_kind d.units w.units.0))
      ∙ parts-pass kind_bytes kind_at 28 kind_formed sixteen at both s

  machine-reads : {l : List ℕ} → Stands (machine_parts d entry lent) l 0 → MachineRead d entry lent l
  unfolding shape_at timing_at entry_at making_lent machine_formed padded parts_at places
  machine-reads {l} s0 =
      let s56 = after times s0 in
      let s65 = next fixed 0 56 s56 in
      let s73 = next (codes-number e) 0 65 s65 in
      let s81 = next (codes-number w.history) 0 73 s73 in
      let s89 = next (codes-number m) 0 81 s81 in
      let s90 = next stage_count 0 89 s89 in
      let s106 = next stages 0 90 s90 in
      let s107 = next kind-count 0 106 s106 in
      record {
        shape = λ i.
            pipeline_shape ((ap (λ n. padded Other n (parts_at role_at 1 16 l 90)) (stage_count.reads s89) ∙ stages.reads s90) i)
            (fixed.reads s56 i) (timing-of (times.reads s0 i))
            ((ap (λ n. padded generic_unit n (parts_at kind_at 28 16 l 107)) (kind-count.reads s106) ∙ kinds.reads s107) i)
            ((codes-number w.history).reads s73 i);
        entry = (codes-number e).reads s65;
        lent = (codes-number m).reads s81;
        formed = λ h.
            and_yes (le-leb 555 (length l) h)
            (and_yes (optional-formed number_bytes 0 d.instruction_bytes s56) (and_yes (roles-formed s90) (kinds-formed s107)));
      }

  pub machine-is : {ps : List (List ℕ)} {l : List ℕ} → Stands (machine_bytes d entry lent ∷ ps) l 0 → MachineRead d entry lent l
  unfolding machine_bytes
  machine-is s = machine-reads (stands-in (machine_parts d entry lent) s)

  pub machine-size : Form 555 (machine_bytes d entry lent)
  unfolding machine_bytes
  machine-size = machine-form.whole
