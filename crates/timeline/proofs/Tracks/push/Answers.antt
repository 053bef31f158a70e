-- A row that is held gets the cell; another id changes nothing.
use Rattle.std.proofs.Common.{arith, sym, refl, ◌∙◌}
use Rattle.timeline.proofs.Slots.{Held, found, not_found}
use Rattle.timeline.proofs.Steps.{track-there, pushed, wrote, not-pushed, not-wrote}
use Rattle.timeline.proofs.Tracks.push.Goals as goal

pub push-requires : goal.push-requires
push-requires c =
    let here : Held c.args.window c.args.id c.in-Some.s = found _ _ c.requires.window_ok (sym c.find.ensures.is ∙ c.in-Some.is) in
    record {
      track_ok = track-there c.requires.window_ok c.requires.tracks_ok here _;
      s_in_bounds = omega (arith, here.slot.below);
    }

pub returns-in-Some : goal.returns-in-Some
returns-in-Some c =
    let here : Held c.args.window c.args.id c.in-Some.s = found _ _ c.requires.window_ok (sym c.find.ensures.is ∙ c.in-Some.is) in
    record {
      tracks = pushed c.requires.window_ok c.requires.tracks_ok here _ c.push.ensures.track refl;
      memory = wrote c.requires.window_ok c.requires.tracks_ok here _ c.args.cells.now c.args.byte c.push.ensures.memory;
    }

pub returns-in_default : goal.returns-in_default
returns-in_default c =
    let gone = not_found _ _ (sym c.find.ensures.is ∙ c.in_default.is) in
    record {
      tracks = not-pushed c.requires.window_ok gone c.requires.tracks_ok;
      memory = not-wrote c.requires.window_ok gone c.args.self.now c.args.cells.now c.args.byte;
    }
