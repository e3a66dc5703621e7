-- The schedules that count, each with the project and the number of its variant, and what is kept after them.
use Rattle.std.specs.Prelude.{ℕ}
use mathlib.Core.List.{List, map, foldl}
use Rattle.base.specs.Lists.{gather}
use Rattle.schedule.specs.Project.{Project}
use Rattle.tally.specs.Seen.{Kept, setting_of, seen}

pub record Entry : Type 0 where
  pub project : Project
  pub variant : ℕ
  pub row : List ℕ

abbrev pub entry_of : Project → ℕ → List ℕ → Entry
entry_of project variant row = record { project = project; variant = variant; row = row }

-- The entries of each variant v: p v is its project, and x v are the rows that count for it.
module _ (p : ℕ → Project) (x : ℕ → List (List ℕ)) where
  unfoldable pub entries : ℕ → List Entry
  entries v = map (entry_of (p v) v) (x v)

  -- Those of the first n variants.
  abbrev pub entries_below : ℕ → List Entry
  entries_below n = gather n entries

module _ (acts cap : ℕ) where
  abbrev pub step : Kept → Entry → Kept
  step k e = seen e.project (setting_of e.variant acts cap) k e.row

  abbrev pub run : Kept → List Entry → Kept
  run k es = foldl step k es
