-- The engine's state as the book's tables.
use Rattle.std.specs.Prelude.{ℕ, Bool, true, false, cond, ◌&&◌, List, map}
use Rattle.laws.specs.Optional.{is_none}
use Rattle.capability.specs.declared.Phase.{Phase}
use Rattle.capability.specs.declared.Phase.TheVariants.{Wait, Read, Execute, Write}
use Rattle.model.specs.Registers.{producer_of}
use Rattle.model.specs.Units.{FunctionalUnit}
use Rattle.model.specs.State.{State}
use Rattle.model.specs.Write.{put_back}
use Rattle.model.specs.Views.{owed}
use Rattle.book.specs.Book.{Source, source, Status, status, idle_row, Book, book}

abbrev pub is_wait : Phase → Bool
is_wait Wait = true
is_wait Read = false
is_wait Execute = false
is_wait Write = false

-- Q is the unit of the wait for the register; R is set while the unit is in phase Wait and has no such wait.
abbrev pub source_of : FunctionalUnit → ℕ → Source
source_of u r = source r (owed u.pending r) (is_wait u.phase && is_none (owed u.pending r))

abbrev pub row_of : FunctionalUnit → Status
row_of u = cond u.busy (status true u.class u.destinations (map (source_of u) u.sources)) idle_row

-- A unit whose result is on offer is Busy until its write is done: it is shown as if it were put back.
abbrev pub shown_units : State → List FunctionalUnit
shown_units s = put_back s.offer.writing s.units

abbrev pub book_of : State → Book
book_of s = book (map row_of (shown_units s)) (producer_of s.producer)
