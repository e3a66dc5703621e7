-- The table of one variant that the search reads: a word for each activity and each of six columns, the units that each
-- activity holds of each resource, the capacities, and then single cells.
use Rattle.std.specs.Prelude.{ℕ, ◌+◌, ◌*◌, true, List, get_or}
use Rattle.plan.specs.Limits.{most_resources, most_units, last_edition}
use Rattle.sets.specs.Sets.{has, width}
use Rattle.sets.specs.Lowest.{lowest_of}
use Rattle.schedule.specs.Project.{Project}

-- No activity holds more units of a resource, and no resource has more.
abbrev pub most_count : ℕ
most_count = most_units last_edition

-- Where the columns begin but the first, and what stands behind them.
abbrev pub preds_from : ℕ
preds_from = width

abbrev pub next_from : ℕ
next_from = 2 * width

abbrev pub near_from : ℕ
near_from = 3 * width

abbrev pub component_from : ℕ
component_from = 4 * width

abbrev pub clash_from : ℕ
clash_from = 5 * width

abbrev pub units_from : ℕ
units_from = 6 * width

abbrev pub capacity_from : ℕ
capacity_from = units_from + most_resources * width

abbrev pub resources_cell : ℕ
resources_cell = capacity_from + most_resources

abbrev pub tight_cell : ℕ
tight_cell = resources_cell + 1

abbrev pub present_cell : ℕ
present_cell = resources_cell + 2

abbrev pub acts_cell : ℕ
acts_cell = resources_cell + 3

abbrev pub cap_cell : ℕ
cap_cell = resources_cell + 4

abbrev pub variant_cell : ℕ
variant_cell = resources_cell + 5

abbrev pub link_cell : ℕ
link_cell = resources_cell + 6

-- The length of the table.
abbrev pub words : ℕ
words = resources_cell + 7

abbrev pub duration_at : List ℕ → ℕ → ℕ
duration_at t i = get_or t i 0

-- The predecessors of i, those that have i as a nearest predecessor, and the nearest predecessors of i.
abbrev pub preds_at : List ℕ → ℕ → ℕ
preds_at t i = get_or t (preds_from + i) 0

abbrev pub next_at : List ℕ → ℕ → ℕ
next_at t i = get_or t (next_from + i) 0

abbrev pub near_at : List ℕ → ℕ → ℕ
near_at t i = get_or t (near_from + i) 0

-- The component of i, and those that can never run together with i.
abbrev pub component_at : List ℕ → ℕ → ℕ
component_at t i = get_or t (component_from + i) 0

abbrev pub clash_at : List ℕ → ℕ → ℕ
clash_at t i = get_or t (clash_from + i) 0

abbrev pub units_at : List ℕ → ℕ → ℕ → ℕ
units_at t i r = get_or t (units_from + most_resources * i + r) 0

abbrev pub capacity_at : List ℕ → ℕ → ℕ
capacity_at t r = get_or t (capacity_from + r) 0

-- The number of a component is its least activity.
abbrev pub own_at : List ℕ → ℕ → ℕ
own_at t i = lowest_of (component_at t i)

abbrev pub resources_of : List ℕ → ℕ
resources_of t = get_or t resources_cell 0

-- The activities of the components in which no two can run together.
abbrev pub tight_of : List ℕ → ℕ
tight_of t = get_or t tight_cell 0

abbrev pub present_of : List ℕ → ℕ
present_of t = get_or t present_cell 0

abbrev pub acts_of : List ℕ → ℕ
acts_of t = get_or t acts_cell 0

abbrev pub cap_of : List ℕ → ℕ
cap_of t = get_or t cap_cell 0

abbrev pub variant_of : List ℕ → ℕ
variant_of t = get_or t variant_cell 0

abbrev pub link_of : List ℕ → ℕ
link_of t = get_or t link_cell 0

-- The project that the table holds: no gaps, every activity free from tick 0 on.
unfoldable pub project_in : List ℕ → Project
project_in t =
    record {
      size = acts_of t;
      present = λ i. has (present_of t) i;
      duration = duration_at t;
      precedes = λ i j. has (preds_at t j) i;
      gap = λ i j. 0;
      resources = resources_of t;
      capacity = capacity_at t;
      units = units_at t;
      free = λ i. true;
      floor = 0;
      begun = λ i. 0;
    }
