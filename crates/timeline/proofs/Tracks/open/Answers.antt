-- The row stands in its slot, and so do its bytes.
use Rattle.std.proofs.Common.{arith, ap₂, ◌∙◌, set, length}
use lib.ListN.{length-set}
use Rattle.laws.proofs.Slices.{All-set}
use Rattle.timeline.specs.View.{TrackOk}
use Rattle.timeline.proofs.Memory.{filled_splice}
use Rattle.timeline.proofs.Steps.{memory-opened}
use Rattle.timeline.proofs.Tracks.open.Goals as goal

pub returns : goal.returns
returns c =
    let at = c.slot-s.ensures in
    let l = c.args.self.now.items in
    let ok = c.requires.tracks_ok in
    record {
      tracks =
          record {
            is = ap₂ (set l) at.is c.first.ensures.is;
            ok = record { size = length-set l c.slot-s.result _ ∙ ok.size; each = All-set TrackOk l c.slot-s.result _ ok.each c.first.ensures.ok };
          };
      memory =
          memory-opened c.args.cells.now at
          (filled_splice _ _ 200 255 c.args.cells.now _ (c.fill.ensures.after (λ y e. e)) (omega arith) (omega (arith, at.below)));
    }
