-- 0, and the edges.
use Rattle.std.proofs.lemmas.List.Folds.{flat_map-map}
use Rattle.traces.proofs.Written.{laid_next}
use Rattle.views.specs.View.{view_edge}
use Rattle.answers.specs.Bytes.{edge_bytes}
use Rattle.answers.specs.Encode.{encode}
use Rattle.answers.proofs.Laid.{laid_same}
use Rattle.answers.proofs.shown.put_edges.Goals as goal

pub returns : goal.returns
unfolding encode
returns c = laid_next c.put-next.ensures (laid_same c.put_all.ensures (flat_map-map edge_bytes view_edge c.args.list.items))
