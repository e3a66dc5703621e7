-- Feasible and active schedules by what holds of them, in place of the tests; parts of a project; and a session's row.
use Rattle.std.specs.Prelude.{ℕ, ◌+◌, ◌≤◌, ◌<◌, Bool, true, false, List, ◌≡◌, length}
use Rattle.schedule.specs.Project.{Project}
use Rattle.schedule.specs.Schedule.{Starts, end_of, load, moved}
use Rattle.schedule.specs.Sessions.{starts_of}
use Rattle.schedule.specs.Bounds.{Has}

-- Every activity lasts a tick or more.
pub record Sound (p : Project) : Type 0 where
  pub lasts : (i : ℕ) → Has p i → 1 ≤ p.duration i

-- Every activity is free.
pub record Unfixed (p : Project) : Type 0 where
  pub all_free : (i : ℕ) → Has p i → p.free i ≡ true

-- The same project with the activities of a set only.
abbrev pub among : Project → (ℕ → Bool) → Project
among p set =
    record {
      size = p.size;
      present = set;
      duration = p.duration;
      precedes = p.precedes;
      gap = p.gap;
      resources = p.resources;
      capacity = p.capacity;
      units = p.units;
      free = p.free;
      floor = p.floor;
      begun = p.begun;
    }

pub record Feasible (p : Project) (S : Starts) : Type 0 where
  pub from_floor : (i : ℕ) → Has p i → p.free i ≡ true → p.floor ≤ S i
  pub as_begun : (i : ℕ) → Has p i → p.free i ≡ false → S i ≡ p.begun i
  pub ordered : (i j : ℕ) → Has p i → Has p j → p.precedes i j ≡ true → end_of p S i + p.gap i j ≤ S j
  pub fits : (t r : ℕ) → r < p.resources → load p S t r ≤ p.capacity r

-- No start of a free activity can be made smaller, the others unchanged.
pub record Active (p : Project) (S : Starts) : Type 0 where
  pub is_feasible : Feasible p S
  pub least : (j : ℕ) → Has p j → p.free j ≡ true → (t : ℕ) → t < S j → Feasible p (moved S j t) → ⊥

-- The same starts.
abbrev pub Agree : Project → Starts → Starts → Type 0
Agree p S S' = (i : ℕ) → Has p i → S i ≡ S' i

-- The row of an active schedule.
pub record SessionRow (p : Project) (mark : ℕ) (row : List ℕ) : Type 0 where
  pub long : length row ≡ p.size
  pub marked : (i : ℕ) → i < p.size → p.present i ≡ false → starts_of row i ≡ mark
  pub is_active : Active p (starts_of row)
