-- Where the search branches, and what it finds.
use Rattle.std.specs.Prelude.{ℕ, ◌<◌, true, false, ◌≡◌}
use mathlib.Core.List.{List, foldl, Perm}
use Rattle.sets.specs.Sets.{has}
use Rattle.sets.specs.Lowest.{lowest_of, after_lowest}
use Rattle.timetable.specs.Mark.{mark}
use Rattle.schedule.specs.Sessions.{sessions}
use Rattle.scan.specs.Scan.{Diagram}
use Rattle.instance.specs.Table.{tight_of, project_in}
use Rattle.profile.specs.Work.{latest_of}
use Rattle.crowding.specs.Crowd.{crowd}
use Rattle.tally.specs.Seen.{Kept, seen_in}
use Rattle.steps.specs.Steps.{frozen_in}
use Rattle.unbranched.specs.Position.{Position}
use Rattle.unbranched.specs.Advance.{here_in}
use Rattle.unbranched.specs.declared.Reached.{Reached}
use Rattle.search.specs.Choice.{InConflict}

-- A component is contested. Where no two of it can run together, the rivals are all of it that is placed, and several;
-- elsewhere its conflict activities.
pub record Contest (t w : List ℕ) (r : Reached) : Type 0 where
  pub due : 0 < r.line.due
  pub tight : has (tight_of t) (lowest_of r.line.due) ≡ true
      → (r.rivals ≡ here_in t r.line) × (0 < after_lowest r.rivals)
  pub roomy : has (tight_of t) (lowest_of r.line.due) ≡ false
      → InConflict w r.line (here_in t r.line) r.rivals
  pub many : r.many ≡ crowd t r.line.left
  pub last : r.latest ≡ latest_of w (frozen_in r.line)
  pub some : (d : Diagram) × Position t r.line w d

-- The active schedules of the project in the table have been seen, each once.
pub record Found (t b : List ℕ) (k k' : Kept) : Type 0 where
  pub rows : List (List ℕ)
  pub all : Perm rows (sessions (project_in t) mark)
  pub kept : k' ≡ foldl (seen_in t b) k rows
