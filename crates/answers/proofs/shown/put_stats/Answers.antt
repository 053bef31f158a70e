-- 0, and twelve numbers.
use Rattle.traces.proofs.Written.{laid_next}
use Rattle.stalls.specs.View.{view_stats}
use Rattle.answers.specs.Bytes.{stats_bytes}
use Rattle.answers.specs.Encode.{encode}
use Rattle.answers.proofs.shown.put_stats.Goals as goal

pub returns : goal.returns
unfolding encode stats_bytes view_stats
returns c = laid_next c.put-next.ensures c.put_all.ensures
