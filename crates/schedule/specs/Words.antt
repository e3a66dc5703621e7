-- Feasible in the words of the papers, where each resource has one unit and each activity a resource of its own.
use Rattle.std.specs.Prelude.{ℕ, ◌≤◌, true, ◌≢◌, ◌⊎◌, ◌≡◌}
use Rattle.schedule.specs.Project.{Project}
use Rattle.schedule.specs.Schedule.{Starts, end_of}
use Rattle.schedule.specs.Bounds.{Has}

-- Two on one resource do not overlap: one may start on the tick where the other ends.
abbrev pub NoOverlap : Project → (ℕ → ℕ) → Starts → Type 0
NoOverlap p resource S =
    (i j : ℕ) → Has p i → Has p j → i ≢ j → resource i ≡ resource j
    → (end_of p S i ≤ S j) ⊎ (end_of p S j ≤ S i)

-- Each starts no earlier than the end of all that precede it, and two on one resource do not overlap.
pub record InWords (p : Project) (resource : ℕ → ℕ) (S : Starts) : Type 0 where
  pub after : (i j : ℕ) → Has p i → Has p j → p.precedes i j ≡ true → end_of p S i ≤ S j
  pub apart : NoOverlap p resource S
