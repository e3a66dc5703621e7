-- The rows of the active schedules of some kind, each once.
use Rattle.std.specs.Prelude.{ℕ}
use mathlib.Core.List.{List, Memᴰ, Nodup}
use Rattle.schedule.specs.Project.{Project}
use Rattle.schedule.specs.Schedule.{Starts}
use Rattle.schedule.specs.Sessions.{starts_of}
use Rattle.schedule.specs.Facts.{SessionRow}

pub record Rows (p : Project) (mark : ℕ) (kind : Starts → Type 0) (rows : List (List ℕ)) : Type 0 where
  pub session : (row : List ℕ) → Memᴰ row rows → SessionRow p mark row
  pub is_kind : (row : List ℕ) → Memᴰ row rows → kind (starts_of row)
  pub reached : (row : List ℕ) → SessionRow p mark row → kind (starts_of row) → Memᴰ row rows
  pub apart : Nodup rows
