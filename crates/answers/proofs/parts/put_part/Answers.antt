-- A flag and the rest, or as many bytes of 0.
use Prim.Native.Nat.{ℕ, ◌+◌, ◌-◌}
use mathlib.Core.Path.{◌≡◌, ap₂, ◌∙◌}
use native.Mathlib.Omega.{arith}
use lib.ListN.{length, replicate, length-replicate}
use Rattle.std.proofs.lemmas.Grind.{common_steps}
use Rattle.timeline.proofs.Memory.{put_splice}
use Rattle.model.specs.Timeline.{splice}
use borrow.Rule.Slice.PartMut.{put_mid}
use Rattle.traces.proofs.Written.{laid_next}
use Rattle.answers.proofs.Laid.{laid_same}
use Rattle.answers.proofs.Lengths.{part_there, part_none}
use Rattle.answers.proofs.parts.put_part.Goals as goal

pub returns-in-Some-clause-laid : goal.returns-in-Some-clause-laid
returns-in-Some-clause-laid g c =
    let size : length (g.T.Put.bytes c.in-Some.v) ≡ g.T.Put.SIZE = omega (arith, c.put.ensures.laid.end, c.put.ensures.next) in
    laid_same (laid_next c.put-next.ensures c.put.ensures.laid) (part_there g.T.Put.SIZE g.T.Put.bytes c.in-Some.is size)

pub returns-in-None-clause-laid : goal.returns-in-None-clause-laid
returns-in-None-clause-laid g c =
    let n = 1 + g.T.Put.SIZE in
    let size : c.args.at + (1 + c.SIZE.result) - c.args.at ≡ n = omega (arith, c.SIZE.ensures) in
    let zeros : c.fill.new.self ≡ replicate n 0 = grind (arith, common_steps) in
    let count : length {A = ℕ} (replicate n 0) ≡ n = length-replicate {A = ℕ} n 0 in
    let is : put_mid c.args.at (c.args.at + (1 + c.SIZE.result) - c.args.at) c.args.out.now c.fill.new.self ≡ splice c.args.at (replicate n 0) c.args.out.now =
    ap₂ (λ k s. put_mid c.args.at k c.args.out.now s) size zeros ∙ put_splice c.args.at n c.args.out.now (replicate n 0) count c.requires in
    laid_same record { end = omega (arith, c.SIZE.ensures, count); is = is } (part_none g.T.Put.SIZE g.T.Put.bytes c.in-None.is)
