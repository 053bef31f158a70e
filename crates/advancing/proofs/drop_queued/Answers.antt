use Rattle.advancing.proofs.drop_queued.Goals as goal

pub returns-in-Some-clause-tracks : goal.returns-in-Some-clause-tracks
returns-in-Some-clause-tracks c g = rw c.in-Some.is (c.push_flushed.ensures.tracks g)
