-- What is kept after the schedules of the variants of an accepted plan, each variant's in some order.
use Rattle.std.specs.Prelude.{ℕ, ◌+◌, ◌*◌, ◌≤◌, ◌<◌, ◌≡◌, length}
use mathlib.Core.List.{List, foldl, Perm}
use Rattle.base.specs.Lists.{keep}
use Rattle.plan.specs.Plan.{plan_of}
use Rattle.term.specs.Term.{Term}
use Rattle.term.specs.Variants.{variant_count}
use Rattle.schedule.specs.Project.{Project}
use Rattle.variant.specs.Project.{variant_at, project_of}
use Rattle.variant.specs.Pairs.{sessions_of, is_new}
use Rattle.instance.specs.Instance.{LaidFrom}
use Rattle.orders.specs.Book.{entry_cells}
use Rattle.tally.specs.Seen.{Kept, setting_of, seen}
use Rattle.tally.specs.Entries.{entries_below, run}
use Rattle.judge.specs.declared.Campaign.{Campaign}
use Rattle.sweep.specs.Booked.{Booked}

-- The table is laid out for the plan.
abbrev pub LaidFor : Campaign → List ℕ → Type 0
LaidFor c table = LaidFrom c.tables table

module _ (c : Campaign) (t : Term) where
  abbrev pub project_at : ℕ → Project
  project_at v = project_of (plan_of c.tables) (variant_at t v)

  -- The sessions of variant v that no lower one has.
  abbrev pub new_at : ℕ → List (List ℕ)
  new_at v = keep (is_new (plan_of c.tables) t v) (sessions_of (plan_of c.tables) t v)

  -- What is kept after those of the first n variants.
  pub record Swept (cap n : ℕ) (before after : Kept) : Type 0 where
    pub rows : ℕ → List (List ℕ)
    pub all : (v : ℕ) → v < n → Perm (rows v) (new_at v)
    pub kept : after ≡ run c.tables.acts cap before (entries_below project_at rows n)

  -- The book before variant v, with room for all.
  pub record Ready (v : ℕ) (heads b : List ℕ) : Type 0 where
    pub booked : Booked t v heads b
    pub room : entry_cells * variant_count t ≤ length b

  -- One variant: its new sessions are seen, and the book is ready for the next.
  pub record Turned (cap v : ℕ) (before after : Kept) (heads b : List ℕ) : Type 0 where
    pub rows : List (List ℕ)
    pub all : Perm rows (new_at v)
    pub kept : after ≡ foldl (seen (project_at v) (setting_of v c.tables.acts cap)) before rows
    pub ready : Ready (v + 1) heads b
