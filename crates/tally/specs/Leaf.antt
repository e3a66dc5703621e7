-- A schedule that is found, in the search's tables.
use Rattle.std.specs.Prelude.{ℕ, ◌-◌, cond, List, ◌≡◌, eqb}
use Rattle.timetable.specs.Mark.{mark}
use Rattle.instance.specs.Table.{present_of}
use Rattle.instance.specs.Instance.{Instance}
use Rattle.profile.specs.Work.{latest_of}
use Rattle.soonest.specs.Row.{Ended}
use Rattle.tally.specs.Seen.{IsTally}

-- An absent activity has no end.
unfoldable pub start_of : ℕ → ℕ → ℕ
start_of end duration = cond (eqb end 0) mark (end - duration)

-- A schedule is found: the ends in the working array, the latest of them, and the cells of the tally.
pub record Leaf (t w : List ℕ) (latest : ℕ) (cells : List ℕ) : Type 0 where
  pub whole : Instance t
  pub ended : Ended t w
  pub tally : IsTally cells
  pub last : latest ≡ latest_of w (present_of t)
