-- A call that has bytes is one of 49.
use Rattle.std.proofs.Common.{arith}
use Rattle.decoding.proofs.Sizes.{call_known}
use Rattle.decoding.proofs.records.formed.Goals as goal

pub parts_formed-requires-clause-tag_bound : goal.parts_formed-requires-clause-tag_bound
parts_formed-requires-clause-tag_bound c = call_known (omega arith)
