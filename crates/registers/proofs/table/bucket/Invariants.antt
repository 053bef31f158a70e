use Rattle.std.specs.Prelude.{◌≡◌, ◌<◌, take}
use Rattle.registers.specs.Hints.{bucket_of}
use Rattle.registers.proofs.table.bucket.Given as goal

abbrev pub invariant-loop-byte : goal.invariant-loop-byte
invariant-loop-byte l = record { few : l.hash < 1024; is : l.hash ≡ bucket_of (take l.byte-index l.text) }
