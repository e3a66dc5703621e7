-- What the contracts of the steps towards the table say.
use Rattle.std.specs.Prelude.{ℕ, ◌+◌, ◌^◌, ◌≤◌, ◌<◌, Bool, true, false, cond, not, ◌&&◌, List, ◌≢◌, ◌≡◌, ltb, eqb, length, get_or}
use Rattle.std.specs.Int.Bits.{bit_or}
use Rattle.plan.specs.Limits.{most_resources}
use Rattle.plan.specs.declared.Tables.{Tables}
use Rattle.sets.specs.Sets.{most, has}
use Rattle.instance.specs.Table.{most_count, words, next_from, near_from, component_from, units_from, capacity_from}
use Rattle.instance.specs.Table.{duration_at, preds_at, next_at, near_at, component_at, clash_at, units_at, capacity_at}
use Rattle.instance.specs.Table.{resources_of, acts_of}
use Rattle.instance.specs.Instance.{Linked, own_of, row_of, fit_together}

-- The set x with i where a test holds.
abbrev pub with_if : Bool → ℕ → ℕ → ℕ
with_if test x i = cond test (bit_or x (2 ^ i)) x

-- The set of the numbers below n that pass a test.
pub record Passing (n : ℕ) (test : ℕ → Bool) (set : ℕ) : Type 0 where
  pub low : set < 2 ^ most
  pub member : (k : ℕ) → has set k ≡ (ltb k n && test k)

-- The table t with n cells new from there on: of cell i holds P i.
pub record Filled (t : List ℕ) (from n : ℕ) (P : ℕ → ℕ → Type 0) (r : List ℕ) : Type 0 where
  pub long : length r ≡ length t
  pub new : (i : ℕ) → i < n → P i (get_or r (from + i) 0)
  pub before : (at : ℕ) → at < from → get_or r at 0 ≡ get_or t at 0
  pub behind : (at : ℕ) → from + n ≤ at → get_or r at 0 ≡ get_or t at 0

-- The table t with the units that each of the first n activities holds of the plan's resources.
pub record Held (t : List ℕ) (tables : Tables) (n : ℕ) (r : List ℕ) : Type 0 where
  pub long : length r ≡ length t
  pub units : (i q : ℕ) → i < most → q < most_resources
      → units_at r i q
      ≡ cond (ltb i n && ltb q tables.resources) (get_or (row_of tables i).units q 0) (units_at t i q)
  pub before : (at : ℕ) → at < units_from → get_or r at 0 ≡ get_or t at 0
  pub behind : (at : ℕ) → capacity_from ≤ at → get_or r at 0 ≡ get_or t at 0

-- What was given, in its columns; 0 stands for what is past the counts, and in the columns to come.
pub record Columns (tables : Tables) (t : List ℕ) : Type 0 where
  pub size : length t ≡ words
  pub acts_are : acts_of t ≡ tables.acts
  pub resources_are : resources_of t ≡ tables.resources
  pub durations : (i : ℕ) → i < most → duration_at t i ≡ cond (ltb i tables.acts) (row_of tables i).duration 0
  pub held : (i r : ℕ) → i < most → r < most_resources
      → units_at t i r ≡ cond (ltb i tables.acts && ltb r tables.resources) (get_or (row_of tables i).units r 0) 0
  pub capacities : (r : ℕ) → r < most_resources
      → capacity_at t r ≡ cond (ltb r tables.resources) (get_or tables.capacity r 0) 0
  pub blank : (at : ℕ) → component_from ≤ at → at < units_from → get_or t at 0 ≡ 0

-- A table with its counts and units, which are in range.
pub record Counted (acts resources : ℕ) (t : List ℕ) : Type 0 where
  pub size : length t ≡ words
  pub acts_are : acts_of t ≡ acts
  pub resources_are : resources_of t ≡ resources
  pub acts_few : acts ≤ most
  pub resources_few : resources ≤ most_resources
  pub units_few : (i r : ℕ) → i < most → r < most_resources → units_at t i r ≤ most_count

-- The components of the members of a set as one set.
pub record Joined (t : List ℕ) (set r : ℕ) : Type 0 where
  pub low : r < 2 ^ most
  pub of : (i k : ℕ) → has set i ≡ true → has (component_at t i) k ≡ true → has r k ≡ true
  pub is : (k : ℕ) → has r k ≡ true → (i : ℕ) × (has set i ≡ true) × (has (component_at t i) k ≡ true)

-- The component of i, and what clashes with i, as sets.
pub record IsComponent (t : List ℕ) (i x : ℕ) : Type 0 where
  pub low : x < 2 ^ most
  pub member : (k : ℕ) → i < acts_of t → has x k ≡ (ltb k (acts_of t) && eqb (own_of t k) (own_of t i))

pub record IsClash (t : List ℕ) (i x : ℕ) : Type 0 where
  pub low : x < 2 ^ most
  pub member : (k : ℕ) → has x k ≡ (ltb k (acts_of t) && not (eqb i k) && not (fit_together t i k))

-- A table with its components too, in which each activity can run alone.
pub record Grouped (acts resources : ℕ) (t : List ℕ) : Type 0 where
  pub counted : Counted acts resources t
  pub alone : (i r : ℕ) → i < acts → r < resources → units_at t i r ≤ capacity_at t r
  pub component : (i : ℕ) → i < most → IsComponent t i (component_at t i)

-- And with its clashes.
pub record Apart (acts resources : ℕ) (t : List ℕ) : Type 0 where
  pub grouped : Grouped acts resources t
  pub clash : (i : ℕ) → i < acts → IsClash t i (clash_at t i)

-- Each two of a set clash.
pub record AllClash (t : List ℕ) (set : ℕ) (r : Bool) : Type 0 where
  pub all : r ≡ true → (i k : ℕ) → has set i ≡ true → has set k ≡ true → i ≢ k → has (clash_at t i) k ≡ true
  pub some : r ≡ false
      → (i k : ℕ) × (has set i ≡ true) × (has set k ≡ true) × (i ≢ k) × (has (clash_at t i) k ≡ false)

-- A part of a set such that each member left out precedes another member.
pub record Nearest (t : List ℕ) (set r : ℕ) : Type 0 where
  pub low : r < 2 ^ most
  pub inside : (k : ℕ) → has r k ≡ true → has set k ≡ true
  pub far :
      (k : ℕ) → has set k ≡ true → has r k ≡ false
      → (other : ℕ) × (other < most) × (has set other ≡ true) × (has (preds_at t other) k ≡ true)

-- The table t with j next after each member of a set.
pub record LinkedNext (t : List ℕ) (set j : ℕ) (r : List ℕ) : Type 0 where
  pub long : length r ≡ length t
  pub next : (i : ℕ) → i < most → next_at r i ≡ with_if (has set i) (next_at t i) j
  pub before : (at : ℕ) → at < next_from → get_or r at 0 ≡ get_or t at 0
  pub behind : (at : ℕ) → near_from ≤ at → get_or r at 0 ≡ get_or t at 0

-- A table whose columns of links are to be filled.
pub record Blank (acts : ℕ) (t : List ℕ) : Type 0 where
  pub long : length t ≡ words
  pub few : acts ≤ most
  pub preds_low : (i : ℕ) → i < most → preds_at t i < 2 ^ most
  pub preds_none : (i : ℕ) → acts ≤ i → i < most → preds_at t i ≡ 0
  pub next_none : (i : ℕ) → i < most → next_at t i ≡ 0
  pub near_none : (i : ℕ) → i < most → near_at t i ≡ 0

-- The same table with these columns.
pub record Links (t r : List ℕ) : Type 0 where
  pub long : length r ≡ length t
  pub linked : Linked r
  pub before : (at : ℕ) → at < next_from → get_or r at 0 ≡ get_or t at 0
  pub behind : (at : ℕ) → component_from ≤ at → get_or r at 0 ≡ get_or t at 0
