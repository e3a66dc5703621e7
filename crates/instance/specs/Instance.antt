-- The table is whole: its numbers are in range, and its columns say what they are to say.
use Rattle.std.specs.Prelude.{ℕ, ◌+◌, ◌^◌, ◌≤◌, ◌<◌, Bool, true, false, not, ◌&&◌, List, [], ◌≡◌, leb, ltb, eqb, length, get_or}
use Rattle.base.specs.Below.{every_below, ◌implies◌}
use Rattle.plan.specs.Limits.{most_resources, longest_duration, word_values}
use Rattle.plan.specs.declared.Activity.{Activity}
use Rattle.plan.specs.declared.Tables.{Tables}
use Rattle.sets.specs.Sets.{most, has}
use Rattle.scan.specs.Components.{component_of}
use Rattle.instance.specs.Table.{most_count, words, duration_at, preds_at, next_at, near_at, component_at, clash_at}
use Rattle.instance.specs.Table.{units_at, capacity_at, resources_of, tight_of, present_of, acts_of, cap_of, variant_of}
use Rattle.instance.specs.Table.{project_in, preds_from, component_from, present_cell, link_of}

-- The component of an activity by its number.
abbrev pub own_of : List ℕ → ℕ → ℕ
own_of t = component_of (project_in t)

-- The two can run together.
unfoldable pub fit_together : List ℕ → ℕ → ℕ → Bool
fit_together t i k = every_below (resources_of t) λ r. leb (units_at t i r + units_at t k r) (capacity_at t r)

-- No two of the component with that number can.
unfoldable pub is_tight : List ℕ → ℕ → Bool
is_tight t c =
    every_below (acts_of t) λ i. every_below (acts_of t) λ k.
    (eqb (own_of t i) c && eqb (own_of t k) c && not (eqb i k)) implies not (fit_together t i k)

-- A predecessor that is not a nearest one precedes another predecessor.
pub record Between (t : List ℕ) (j k : ℕ) : Type 0 where
  pub other : ℕ
  pub below : other < most
  pub after : has (preds_at t j) other ≡ true
  pub before : has (preds_at t other) k ≡ true

pub record Linked (t : List ℕ) : Type 0 where
  pub preds_low : (i : ℕ) → i < most → preds_at t i < 2 ^ most
  pub next_low : (i : ℕ) → i < most → next_at t i < 2 ^ most
  pub near_low : (i : ℕ) → i < most → near_at t i < 2 ^ most
  pub near : (j k : ℕ) → j < most → has (near_at t j) k ≡ true → has (preds_at t j) k ≡ true
  pub far : (j k : ℕ) → j < most → has (preds_at t j) k ≡ true → has (near_at t j) k ≡ false → Between t j k
  pub next : (i j : ℕ) → i < most → j < most → has (next_at t i) j ≡ has (near_at t j) i

-- What rests on the plan alone.
pub record Laid (t : List ℕ) : Type 0 where
  pub size : length t ≡ words
  pub acts : acts_of t ≤ most
  pub resources : resources_of t ≤ most_resources
  pub long : (i : ℕ) → i < acts_of t → 1 ≤ duration_at t i
  pub short : (i : ℕ) → i < most → duration_at t i ≤ longest_duration
  pub units : (i r : ℕ) → i < most → r < most_resources → units_at t i r ≤ most_count
  pub capacities : (r : ℕ) → r < most_resources → capacity_at t r ≤ most_count
  pub alone : (i r : ℕ) → i < acts_of t → r < resources_of t → units_at t i r ≤ capacity_at t r
  pub component_low : (i : ℕ) → i < most → component_at t i < 2 ^ most
  pub component : (i k : ℕ) → i < acts_of t
      → has (component_at t i) k ≡ (ltb k (acts_of t) && eqb (own_of t k) (own_of t i))
  pub clash_low : (i : ℕ) → i < most → clash_at t i < 2 ^ most
  pub clash : (i k : ℕ) → i < acts_of t
      → has (clash_at t i) k ≡ (ltb k (acts_of t) && not (eqb i k) && not (fit_together t i k))
  pub tight_low : tight_of t < 2 ^ most
  pub tight : (i : ℕ) → has (tight_of t) i ≡ (ltb i (acts_of t) && is_tight t (own_of t i))

-- And what rests on the variant. Precedence goes up in a rank.
pub record Instance (t : List ℕ) : Type 0 where
  pub laid : Laid t
  pub present_low : present_of t < 2 ^ most
  pub present : (i : ℕ) → has (present_of t) i ≡ true → i < acts_of t
  pub linked : Linked t
  pub ordered : (i j : ℕ) → j < most → has (preds_at t j) i ≡ true
      → (has (present_of t) i ≡ true) × (has (present_of t) j ≡ true)
  pub rank : ℕ → ℕ
  pub ranked : (i j : ℕ) → j < most → has (preds_at t j) i ≡ true → rank i < rank j
  pub cap : cap_of t < word_values
  pub variant : variant_of t < word_values

-- Activity i of the plan's tables.
abbrev pub no_row : Activity
no_row = record { duration = 0; units = [] }

abbrev pub row_of : Tables → ℕ → Activity
row_of tables i = get_or tables.activity i no_row

-- What the table is laid out from is in range.
pub record Given (tables : Tables) : Type 0 where
  pub long : (i : ℕ) → i < tables.acts → 1 ≤ (row_of tables i).duration
  pub short : (i : ℕ) → i < tables.acts → (row_of tables i).duration ≤ longest_duration
  pub alone : (i r : ℕ) → i < tables.acts → r < tables.resources
      → get_or (row_of tables i).units r 0 ≤ get_or tables.capacity r 0
  pub capacities : (r : ℕ) → r < tables.resources → get_or tables.capacity r 0 ≤ most_count

-- The table is laid out and holds what was given.
pub record LaidFrom (tables : Tables) (t : List ℕ) : Type 0 where
  pub laid : Laid t
  pub acts_are : acts_of t ≡ tables.acts
  pub resources_are : resources_of t ≡ tables.resources
  pub durations : (i : ℕ) → i < tables.acts → duration_at t i ≡ (row_of tables i).duration
  pub idle : (i : ℕ) → tables.acts ≤ i → i < most → duration_at t i ≡ 0
  pub held : (i r : ℕ) → i < tables.acts → r < tables.resources → units_at t i r ≡ get_or (row_of tables i).units r 0
  pub capacity_is : (r : ℕ) → r < tables.resources → capacity_at t r ≡ get_or tables.capacity r 0

-- A variant for the table t: its activities and the predecessors of each.
pub record Chosen (t : List ℕ) (present : ℕ) (preds : List ℕ) : Type 0 where
  pub laid : Laid t
  pub present_low : present < 2 ^ most
  pub known : (i : ℕ) → has present i ≡ true → i < acts_of t
  pub preds_low : (i : ℕ) → i < most → get_or preds i 0 < 2 ^ most
  pub ordered : (i j : ℕ) → j < most → has (get_or preds j 0) i ≡ true
      → (has present i ≡ true) × (has present j ≡ true)
  pub rank : ℕ → ℕ
  pub ranked : (i j : ℕ) → j < most → has (get_or preds j 0) i ≡ true → rank i < rank j

-- Two tables of one plan: they differ at most in what rests on the variant.
pub record SamePlan (t r : List ℕ) : Type 0 where
  pub long : length r ≡ length t
  pub durations : (at : ℕ) → at < preds_from → get_or r at 0 ≡ get_or t at 0
  pub behind : (at : ℕ) → component_from ≤ at → at < present_cell → get_or r at 0 ≡ get_or t at 0
  pub acts : acts_of r ≡ acts_of t

-- The table t with the variant in it.
pub record Placed (t : List ℕ) (present : ℕ) (preds : List ℕ) (number cap link : ℕ) (r : List ℕ) : Type 0 where
  pub whole : Instance r
  pub kept : SamePlan t r
  pub befores : (i : ℕ) → i < most → preds_at r i ≡ get_or preds i 0
  pub present_is : present_of r ≡ present
  pub number_is : variant_of r ≡ number
  pub cap_is : cap_of r ≡ cap
  pub link_is : link_of r ≡ link
