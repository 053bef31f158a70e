-- An operation is read back, and is of its form.
use Prim.Native.Nat.{ℕ, ◌+◌, ◌*◌}
use native.Mathlib.Omega.{arith}
use mathlib.Core.Path.{◌≡◌, ap, ◌∙◌}
use mathlib.Core.Bool.{true}
use mathlib.Core.List.{List, [], ◌∷◌}
use lib.ListN.{length}
use Rattle.laws.proofs.Tests.{and_yes}
use Rattle.laws.specs.Texts.{Text}
use Rattle.model.specs.Op.{Given, given, decoded, info_of}
use Rattle.op.specs.View.{listed}
use Rattle.decoding.specs.Bytes.{text_at, optional_at}
use Rattle.decoding.specs.Operation.{names_at, op_at, op_formed}
use Rattle.encoding.specs.Parts.{optional_bytes, parts_bytes}
use Rattle.encoding.specs.Records.{text_of, name_of, op_parts, op_bytes}
use Rattle.encoding.specs.Limits.{Short, Few, WithinOp}
use Rattle.encoding.proofs.Stands.{Stands, stands-in, Forms, forms-end, forms-next, Codes, after, next}
use Rattle.encoding.proofs.Parts.{codes-number, codes-count, codes-flag, codes-class, codes-text, codes-optional, optional-formed, both-formed, class-formed, codes-few}

pub codes-64 : (t : Text) → Short 64 t → Codes text_of (text_at 64) 65 t
codes-64 t h = codes-text (omega arith) h

codes-16 : (t : Text) → Short 16 t → Codes name_of (text_at 16) 17 t
codes-16 t h = codes-text (omega arith) h

codes-names : (most : ℕ) (names : List Text) → Few most (Short 16) names
    → Codes (parts_bytes name_of most []) (λ l at. listed most (length names) (names_at most l at)) (most * 17) names
unfolding names_at listed
codes-names most names w = codes-few codes-16 most [] [] names (omega arith, tt) w

-- ---- an operation

module _ (g : Given) (w : WithinOp g) where
  abbrev a-text : Codes text_of (text_at 64) 65 g.info.disassembly
  a-text = codes-64 _ w.disassembly

  abbrev a-fault : Codes (optional_bytes text_of []) (optional_at (text_at 64)) 66 g.info.fault
  a-fault = codes-optional codes-64 [] (omega arith, tt) g.info.fault w.fault

  abbrev a-destination : Codes (optional_bytes name_of []) (optional_at (text_at 16)) 18 g.info.destination
  a-destination = codes-optional codes-16 [] (omega arith, tt) g.info.destination w.destination

  op-form : Forms 382 (op_parts g)
  op-form =
      forms-next (codes-number w.address).form (forms-next (codes-number w.size).form
      (forms-next (codes-class g.decoded.class).form (forms-next (codes-flag g.decoded.branch).form
      (forms-next (codes-flag g.decoded.atomic).form (forms-next (codes-number w.payload).form
      (forms-next a-text.form (forms-next a-fault.form (forms-next a-destination.form
      (forms-next (codes-count (length g.info.sources) (omega (arith, w.sources.0))).form (forms-next (codes-names 8 g.info.sources w.sources).form
      (forms-next (codes-count (length g.info.writes) (omega (arith, w.writes.0))).form (forms-next (codes-names 4 g.info.writes w.writes).form forms-end))))))))))))

  op-reads : {l : List ℕ} {at : ℕ} → Stands (op_parts g) l at → (op_at l at ≡ g) × (op_formed l at ≡ true)
  unfolding op_at op_formed
  op-reads {l} {at} s0 =
      let s8 = after (codes-number w.address) s0 in
      let s16 = next (codes-number w.size) at 8 s8 in
      let s17 = next (codes-class g.decoded.class) at 16 s16 in
      let s18 = next (codes-flag g.decoded.branch) at 17 s17 in
      let s19 = next (codes-flag g.decoded.atomic) at 18 s18 in
      let s27 = next (codes-number w.payload) at 19 s19 in
      let s92 = next a-text at 27 s27 in
      let s158 = next a-fault at 92 s92 in
      let s176 = next a-destination at 158 s158 in
      let source-count = codes-count (length g.info.sources) (omega (arith, w.sources.0)) in
      let s177 = next source-count at 176 s176 in
      let s313 = next (codes-names 8 g.info.sources w.sources) at 177 s177 in
      let write-count = codes-count (length g.info.writes) (omega (arith, w.writes.0)) in
      let s314 = next write-count at 313 s313 in (
        λ i. given (decoded ((codes-number w.address).reads s0 i) ((codes-number w.size).reads s8 i)
            ((codes-class g.decoded.class).reads s16 i) ((codes-flag g.decoded.branch).reads s17 i) ((codes-flag g.decoded.atomic).reads s18 i))
            (info_of (a-text.reads s27 i) (a-fault.reads s92 i) (a-destination.reads s158 i)
            ((ap (λ n. listed 8 n (names_at 8 l (at + 177))) (source-count.reads s176) ∙ (codes-names 8 g.info.sources w.sources).reads s177) i)
            ((ap (λ n. listed 4 n (names_at 4 l (at + 314))) (write-count.reads s313) ∙ (codes-names 4 g.info.writes w.writes).reads s314) i)
            ((codes-number w.payload).reads s19 i)),
        and_yes (class-formed g.decoded.class s16)
            (and_yes (both-formed g.decoded.branch g.decoded.atomic s17)
            (and_yes (optional-formed text_of [] g.info.fault s92) (optional-formed name_of [] g.info.destination s158))),
      )

  pub codes-op : Codes op_bytes op_at 382 g
  unfolding op_bytes
  codes-op = record { form = op-form.whole; reads = λ s. (op-reads (stands-in (op_parts g) s)).0 }

  pub op-is-formed : {ps : List (List ℕ)} {l : List ℕ} {at : ℕ} → Stands (op_bytes g ∷ ps) l at → op_formed l at ≡ true
  unfolding op_bytes
  op-is-formed s = (op-reads (stands-in (op_parts g) s)).1
