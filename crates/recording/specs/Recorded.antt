-- The cells of a cycle pushed to their rows, in order, and set in the lent memory.
use Rattle.std.specs.Prelude.{ℕ, ◌≡◌, List}
use Rattle.model.specs.Timeline.{push_all, push_all_writes, write_all}
use Rattle.timeline.specs.declared.Tracks.{Tracks}
use Rattle.timeline.specs.declared.RowTexts.{RowTexts}
use Rattle.timeline.specs.declared.Window.{Window}
use Rattle.timeline.specs.View.{view_rows, TracksOk}

-- Cells of (row id, byte), whatever the rows' texts.
pub record Recorded (w : Window) (cs : List (ℕ × ℕ)) (ts r : Tracks) : Type 0 where
  pub is : (xs : RowTexts) → view_rows w r xs ≡ push_all cs (view_rows w ts xs)
  pub ok : TracksOk r

-- The lent memory, from m to n.
abbrev pub Written : Window → List (ℕ × ℕ) → Tracks → List ℕ → List ℕ → Type 0
Written w cs ts m n = (xs : RowTexts) → n ≡ write_all (push_all_writes w.history cs (view_rows w ts xs)) m
