use native.Mathlib.Omega.{arith}
use Rattle.answers.proofs.Told.{answer_length-most}
use Rattle.answers.proofs.replies.put_written.Goals as goal

pub put_answer-requires : goal.put_answer-requires
put_answer-requires c = omega (arith, answer_length-most 8 c.map.result, c.requires)
