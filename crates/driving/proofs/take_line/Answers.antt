use Rattle.driving.proofs.Taken.{no_form, refused_line, fetched_line}
use Rattle.driving.proofs.take_line.Goals as goal

pub returns-in_default : goal.returns-in_default
returns-in_default c = no_form _ _ _ _ _ c.read_line-read.ensures c.requires.running.lines c.requires.valid c.in_default.is

pub returns-in-Err : goal.returns-in-Err
returns-in-Err c =
    refused_line _ _ _ _ _ c.read_line-read.ensures c.requires.running.lines c.in-Some.is c.fetched.ensures.done c.fetched.ensures.memory
    c.in-Err.is

pub returns-in_default-fetched : goal.returns-in_default-fetched
returns-in_default-fetched c =
    fetched_line _ _ _ _ _ c.read_line-read.ensures c.requires.running.lines c.in-Some.is c.fetched.ensures.done c.fetched.ensures.memory
    c.requires.running.stands c.in_default-fetched.is
