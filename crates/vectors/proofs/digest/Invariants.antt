-- The digest of the bytes so far, which stays below the modulus.
use Rattle.std.proofs.Common.{◌≡◌, ◌<◌, take}
use Rattle.vectors.specs.Digest.{digest}
use Rattle.vectors.proofs.digest.Given as goal

abbrev pub invariant-loop-b : goal.invariant-loop-b
invariant-loop-b l = (l.h < 4294967291) × (l.h ≡ digest (take l.b-index l.s))
