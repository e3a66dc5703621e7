-- The working array of the search: the end of each frozen activity; the tick from which each placed one that is not
-- frozen can start; and for each component in which no two can run together the last frozen end, or less.
use Rattle.std.specs.Prelude.{ℕ, ◌+◌, ◌-◌, ◌*◌, ◌≤◌, ◌<◌, max, true, cond, List, ◌≡◌, length, get_or}
use Rattle.base.specs.Below.{max_below}
use Rattle.plan.specs.Limits.{latest_possible}
use Rattle.sets.specs.Sets.{most, has, width}
use Rattle.instance.specs.Table.{duration_at, own_at}

-- Where the second and the third part begin, and the length of the whole.
abbrev pub ready_from : ℕ
ready_from = width

abbrev pub free_from : ℕ
free_from = 2 * width

abbrev pub work_cells : ℕ
work_cells = 3 * width

abbrev pub end_at : List ℕ → ℕ → ℕ
end_at w i = get_or w i 0

abbrev pub ready_at : List ℕ → ℕ → ℕ
ready_at w i = get_or w (ready_from + i) 0

abbrev pub free_at : List ℕ → ℕ → ℕ
free_at w c = get_or w (free_from + c) 0

-- The start of a frozen activity, and that of one that is placed and not frozen.
abbrev pub start_at : List ℕ → List ℕ → ℕ → ℕ
start_at t w i = end_at w i - duration_at t i

abbrev pub soon_at : List ℕ → List ℕ → ℕ → ℕ
soon_at t w i = max (ready_at w i) (free_at w (own_at t i))

-- The latest end in a set of activities, 0 where there is none.
abbrev pub latest_of : List ℕ → ℕ → ℕ
latest_of w set = max_below most λ j. cond (has set j) (end_at w j) 0

-- The least one.
pub record LeastEnd (w : List ℕ) (set r : ℕ) : Type 0 where
  pub end : (k : ℕ) × (has set k ≡ true) × (r ≡ end_at w k)
  pub least : (k : ℕ) → has set k ≡ true → r ≤ end_at w k

-- No time is later than a session can end, so that a sum of times fits a word.
pub record Timed (w : List ℕ) : Type 0 where
  pub times : (k : ℕ) → get_or w k 0 ≤ latest_possible
  pub size : length w ≡ work_cells

-- The second part apart.
abbrev pub ReadyColumn : List ℕ → List ℕ → Type 0
ReadyColumn w r = (i : ℕ) → i < width → get_or r i 0 ≡ ready_at w i
