-- One item more.
use Prim.Native.Nat.{◌+◌}
use mathlib.Core.Path.{◌≡◌}
use mathlib.Core.List.{◌++◌}
use native.Mathlib.Nat.{suc-mul, mul-le-mul_right}
use native.Mathlib.Omega.{arith}
use lib.ListN.{take}
use Rattle.std.specs.List.{flat_map}
use Rattle.std.proofs.lemmas.Grind.{common_steps}
use Rattle.traces.proofs.Written.{laid_next}
use Rattle.answers.proofs.Laid.{laid_none, laid_same}
use Rattle.answers.proofs.parts.put_all.Goals as goal

pub loop-item-init : goal.loop-item-init
loop-item-init g c = (omega arith, laid_none _ _)

pub put-next-requires : goal.put-next-requires
put-next-requires g c =
    let i = c.loop-item.item-index in
    let size = g.T.Put.SIZE in
    omega (arith, c.loop-item.invariant.0, c.loop-item.auto.out, suc-mul i size, mul-le-mul_right size c.loop-item-test.true)

pub loop-item-preserved : goal.loop-item-preserved
loop-item-preserved g c =
    let i = c.loop-item.item-index in
    let xs = c.args.items.now in
    let items : flat_map g.T.Put.bytes (take (i + 1) xs) ≡ flat_map g.T.Put.bytes (take i xs) ++ g.T.Put.bytes c.item-item.result =
    grind (arith, common_steps) in
    (omega (arith, c.put-next.ensures.next, c.loop-item.invariant.0), laid_same (laid_next c.loop-item.invariant.1 c.put-next.ensures.laid) items)
