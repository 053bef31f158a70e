use Rattle.blocking.proofs.Turned.{told-war, told-memory, told-drain}
use Rattle.blocking.proofs.blocked_trace.Goals as goal

pub returns-in-War : goal.returns-in-War
returns-in-War c = told-war c.place_of-mine.ensures c.requires.turned_ok c.place_of.ensures c.in-War.is

pub returns-in-Memory : goal.returns-in-Memory
returns-in-Memory c = told-memory c.place_of-mine.ensures c.place_of-in-Memory.ensures c.in-Memory.is

pub returns-in-Drain : goal.returns-in-Drain
returns-in-Drain c = told-drain c.place_of-mine.ensures c.in-Drain.is
