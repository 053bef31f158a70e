-- The first items stand, each of as many bytes.
use Rattle.std.proofs.Common.{◌≡◌, ◌+◌, ◌*◌, take}
use Rattle.std.specs.List.{flat_map}
use Rattle.traces.specs.Texts.{Laid}
use Rattle.answers.proofs.parts.put_all.Given as goal

abbrev pub invariant-loop-item : goal.invariant-loop-item
invariant-loop-item g l =
    (l.next ≡ l.at + l.item-index * g.T.Put.SIZE)
    × Laid l.at (flat_map g.T.Put.bytes (take l.item-index l.items)) l.initial.out l.out l.next
