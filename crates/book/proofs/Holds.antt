-- The statement of Conditions.antt, of every engine with the invariant.
use Prim.Native.Nat.{ℕ}
use mathlib.Core.Path.{◌≡◌, refl, ◌∙◌, ap}
use mathlib.Core.Bool.{Bool, true, false, cond}
use Rattle.std.specs.Prelude.{Option, None}
use Rattle.model.specs.Issue.{issue, issuing}
use Rattle.model.specs.Scoreboard.{advance, after_issue, before_issue, closed, scoreboard, stops}
use Rattle.model.specs.State.{State}
use Rattle.invariant.specs.Invariant.{Invariant}
use Rattle.invariant.proofs.Complete.{unoffered-before, unoffered-closed}
use Rattle.invariant.proofs.Entries.{Unoffered}
use Rattle.invariant.proofs.Invariant.{kept_of}
use Rattle.invariant.proofs.Start.{no-cycle}
use Rattle.book.specs.Tables.{book_of}
use Rattle.book.specs.Conditions.{ByTheBook}
use Rattle.book.proofs.Blocking.{none-unread, unread-allowed, war-same}
use Rattle.book.proofs.Issuing.{issue-by-the-book}
use Rattle.book.proofs.Offering.{offers-same}
use Rattle.book.proofs.Reading.{reads_same, reads-tables}
use Rattle.book.proofs.Written.{result-same, start-same, unwritten_tables, written-tables}

after-tables : (s : State) → book_of (after_issue s) ≡ book_of s
unfolding scoreboard issuing
after-tables s = refl

module _ (s : State) (h : Invariant s) where
  pub outside : s.front.in_cycle ≡ false → s.offer.writing ≡ None
  outside = no-cycle s (kept_of s h).flight

  pub closed-unoffered : Unoffered (closed s)
  closed-unoffered = unoffered-closed s (kept_of s h).flight

  pub before-unoffered : (r : Option ℕ) → Unoffered (before_issue r (closed s))
  before-unoffered r = unoffered-before r (closed s) closed-unoffered

  pub advance-is : (r : Option ℕ) → stops s ≡ false → book_of (advance r s) ≡ book_of (issue (before_issue r (closed s)))
  unfolding scoreboard
  advance-is r e =
      ap (λ (b : Bool). book_of (cond b (closed s) (after_issue (issue (before_issue r (closed s)))))) e
      ∙ after-tables (issue (before_issue r (closed s)))

  pub stopped-is : (r : Option ℕ) → stops s ≡ true → book_of (advance r s) ≡ book_of (closed s)
  unfolding scoreboard
  stopped-is r e = ap (λ (b : Bool). book_of (cond b (closed s) (after_issue (issue (before_issue r (closed s)))))) e

  pub by-the-book : ByTheBook s
  by-the-book =
      record {
        result_status = result-same s h;
        offers = λ c. offers-same s h (outside c);
        start_tables = λ c. start-same s (outside c);
        writable_allowed = λ i u w. unread-allowed s i u w.holds w.finished (none-unread s i u w.holds w.unread_by);
        war_exactly = λ i u k p. war-same s i u k h p;
        write_tables = written-tables s h;
        unwritten_tables = unwritten_tables s;
        reads = reads_same (closed s) closed-unoffered;
        read_tables = reads-tables (closed s) closed-unoffered;
        issue_as_book = λ r. issue-by-the-book (before_issue r (closed s)) (before-unoffered r).no_offer;
        advance_tables = advance-is;
        stopped_tables = stopped-is;
      }
