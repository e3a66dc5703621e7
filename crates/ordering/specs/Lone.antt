-- What is left is in one component, in which no two can run together.
use Rattle.std.specs.Prelude.{ℕ, ◌+◌, ◌^◌, ◌≤◌, ◌<◌, max, Bool, true, false, not, cond, ◌&&◌, ◌≡◌, get_or}
use mathlib.Core.List.{List, foldl}
use Rattle.base.specs.Below.{max_below}
use Rattle.sets.specs.Sets.{most, has}
use Rattle.timetable.specs.Mark.{mark}
use Rattle.schedule.specs.Schedule.{Starts}
use Rattle.branching.specs.Node.{Open, Soonest, Node}
use Rattle.branching.specs.Under.{Under}
use Rattle.branching.specs.Rows.{Rows}
use Rattle.instance.specs.Instance.{own_of}
use Rattle.instance.specs.Table.{present_of, duration_at, tight_of, project_in}
use Rattle.profile.specs.Work.{end_at, ready_at, Timed}
use Rattle.tally.specs.Seen.{Kept, kept_of, IsTally, seen_in}
use Rattle.unbranched.specs.Position.{bound_of}

-- From when one of what is left can start, where its component is free from `free` on.
abbrev pub from_at : List ℕ → ℕ → ℕ → ℕ
from_at w free i = max (ready_at w i) free

-- F is frozen at the starts S, `latest` is its last end, and the rest is left. Nothing waits, and each may come next.
pub record Lone (t : List ℕ) (left free latest : ℕ) (w : List ℕ) (F : ℕ → Bool) (S : Starts) : Type 0 where
  pub node : Node (project_in t) F S
  pub timed : Timed w
  pub low : left < 2 ^ most
  pub inside : (i : ℕ) → F i ≡ true → has (present_of t) i ≡ true
  pub is_left : (i : ℕ) → has left i ≡ (has (present_of t) i && not (F i))
  pub ended : (i : ℕ) → F i ≡ true → S i + duration_at t i ≡ end_at w i
  pub idle : (i : ℕ) → i < most → has (present_of t) i ≡ false → end_at w i ≡ 0
  pub last : latest ≡ max_below most λ i. cond (F i) (end_at w i) 0
  pub tight : (i : ℕ) → has left i ≡ true → has (tight_of t) i ≡ true
  pub together : (i k : ℕ) → has left i ≡ true → has left k ≡ true → own_of t i ≡ own_of t k
  pub opened : (i : ℕ) → has left i ≡ true → Open (project_in t) F i
  pub soon : (i : ℕ) → has left i ≡ true → Soonest (project_in t) F S i (from_at w free i)
  pub before : (i k : ℕ) → has left i ≡ true → has left k ≡ true → from_at w free i < from_at w free k + duration_at t k
  pub after : (i k : ℕ) → has left i ≡ true → F k ≡ true → own_of t k ≡ own_of t i → end_at w k ≤ from_at w free i
  -- every end fits, whatever is still to come
  pub early : (i : ℕ) → has left i ≡ true → from_at w free i ≤ bound_of left

-- What the search leaves in the working array as it was: all but the ends of what is left.
pub record EndsAlone (left : ℕ) (w w' : List ℕ) : Type 0 where
  pub timed : Timed w'
  pub same : (k : ℕ) → ((i : ℕ) → i < most → has left i ≡ true → k ≡ i → ⊥) → get_or w' k 0 ≡ get_or w k 0

-- The rows of the active schedules under what is frozen.
abbrev pub RowsUnder : List ℕ → (ℕ → Bool) → Starts → List (List ℕ) → Type 0
RowsUnder t F S rows = Rows (project_in t) mark (Under (project_in t) (own_of t) F S) rows

-- They have been seen, each once.
pub record SeenUnder (t b : List ℕ) (F : ℕ → Bool) (S : Starts) (k : Kept) (cells area : List ℕ) : Type 0 where
  pub rows : List (List ℕ)
  pub all : RowsUnder t F S rows
  pub kept : kept_of cells area ≡ foldl (seen_in t b) k rows

pub record Ordered (t b : List ℕ) (left free latest : ℕ) (k : Kept) (w w' cells area : List ℕ) : Type 0 where
  pub beside : EndsAlone left w w'
  pub tally : IsTally cells
  pub seen : (F : ℕ → Bool) (S : Starts) → Lone t left free latest w F S → SeenUnder t b F S k cells area
