-- 256 rows just opened.
use Rattle.std.proofs.Common.{replicate, refl, ap}
use Rattle.laws.proofs.Slices.{All-replicate}
use Rattle.timeline.specs.View.{TrackOk}
use Rattle.timeline.proofs.Tracks.new.Goals as goal

pub returns : goal.returns
returns c = record {
  is = ap (replicate 256) c.first.ensures.is;
  ok = record { size = refl; each = All-replicate TrackOk 256 c.first.result c.first.ensures.ok };
}
