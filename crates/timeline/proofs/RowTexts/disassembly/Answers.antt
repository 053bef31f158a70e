-- Past the end none; else the text in the row's slot.
use Rattle.std.proofs.Common.{rules, arith}
use Rattle.timeline.proofs.Shows.{shows_no_text, shows_text}
use Rattle.timeline.proofs.RowTexts.disassembly.Goals as goal

pub returns-then-window-index : goal.returns-then-window-index
returns-then-window-index c = search (rules, arith, shows_no_text)

pub returns : goal.returns
returns c = search (rules, arith, shows_text)
