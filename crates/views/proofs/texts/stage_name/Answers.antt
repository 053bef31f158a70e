-- There is no other stage.
use Rattle.std.proofs.Common.{arith}
use Rattle.laws.proofs.Slices.{nth_end}
use Rattle.model.specs.Requests.{stage_names}
use Rattle.words.proofs.Shown.{wrote_nothing}
use Rattle.views.proofs.Told.{told-stage}
use Rattle.views.proofs.texts.stage_name.Goals as goal

pub returns-in_default : goal.returns-in_default
unfolding stage_names
returns-in_default c =
    let t = told-stage c.args.index (wrote_nothing c.args.out.now (nth_end stage_names (omega arith))) in
    record { answer = t.0; buffer = t.1 }
