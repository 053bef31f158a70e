use Rattle.std.proofs.Common.{◌≡◌, ◌<◌, ◌+◌, ◌*◌, ◌%◌, length, get_or, take, sym, ap, ◌∙◌, arith, rules, ⊎_elim}
use lib.Seq.{take_all}
use Rattle.registers.specs.Hints.{bucket_of}
use Rattle.registers.proofs.Hints.{bucket_none, bucket_more, bucket_long, bucket_short}
use Rattle.registers.proofs.table.bucket.Goals as goal

pub returns-in_default-clause-is : goal.returns-in_default-clause-is
returns-in_default-clause-is c = let size : length c.args.name.bytes ≡ 16 = search rules in
    let long : 16 < c.args.name.len = ⊎_elim (λ h. omega arith) (λ h. omega arith) c.in_default.ensures.lookup.0 in
    sym (bucket_long c.args.name long)

pub loop-byte-init : goal.loop-byte-init
loop-byte-init c = record { few = omega arith; is = sym bucket_none }

pub loop-byte-preserved : goal.loop-byte-preserved
loop-byte-preserved c = let v = c.loop-byte.invariant in
    record {
      few = omega arith;
      is = ap (λ h. (h * 37 + get_or c.in-Some.text.now c.loop-byte.byte-index 0) % 1024) v.is ∙ sym (bucket_more c.in-Some.text.now c.loop-byte.byte-index c.loop-byte-test.true);
    }

pub returns-clause-is : goal.returns-clause-is
returns-clause-is c = let size : length c.args.name.bytes ≡ 16 = search rules in
    let h = c.in-Some.ensures.lookup.0 in
    c.loop-byte.invariant.is
    ∙ ap bucket_of (take_all c.loop-byte.byte-index c.in-Some.text.now c.loop-byte-test.false)
    ∙ bucket_short c.args.name (omega (arith, h.1)) (h.2 ∙ ap (λ n. take n c.args.name.bytes) (omega arith))
