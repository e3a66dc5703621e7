-- The schedule that the working array holds once everything has been frozen.
use Rattle.std.specs.Prelude.{ℕ, ◌≤◌, ◌<◌, true, false, cond, List, [], ◌∷◌, ◌≡◌}
use Rattle.base.specs.Lists.{gather}
use Rattle.sets.specs.Sets.{most, has}
use Rattle.timetable.specs.Mark.{mark}
use Rattle.instance.specs.Table.{duration_at, present_of, acts_of}
use Rattle.profile.specs.Work.{end_at, start_at, Timed}

-- Each present activity has run its duration; an absent one has no end.
pub record Ended (t w : List ℕ) : Type 0 where
  pub timed : Timed w
  pub ran : (i : ℕ) → has (present_of t) i ≡ true → duration_at t i ≤ end_at w i
  pub idle : (i : ℕ) → i < most → has (present_of t) i ≡ false → end_at w i ≡ 0

-- The start of each activity of the plan, and the mark for an absent one.
unfoldable pub row_in : List ℕ → List ℕ → List ℕ
row_in t w = gather (acts_of t) λ i. cond (has (present_of t) i) (start_at t w i) mark ∷ []
