-- Where the search stands: the line and the working array show a diagram of the scan at a stop, at which some
-- components may still have to be resolved.
use Rattle.std.specs.Prelude.{ℕ, ◌+◌, ◌-◌, ◌*◌, ◌≤◌, ◌<◌, Bool, true, false, not, cond, ◌&&◌, ◌≡◌, leb}
use mathlib.Core.List.{List, foldl}
use Rattle.base.specs.Below.{sum_below}
use Rattle.plan.specs.Limits.{longest_duration}
use Rattle.sets.specs.Sets.{most, has, size}
use Rattle.timetable.specs.Mark.{mark}
use Rattle.scan.specs.Scan.{Diagram}
use Rattle.scan.specs.Scan.{is_contested}
use Rattle.scan_exact.specs.Comes.{Comes}
use Rattle.scan_exact.specs.Standing.{Standing}
use Rattle.branching.specs.Under.{Under}
use Rattle.branching.specs.Rows.{Rows}
use Rattle.instance.specs.Instance.{own_of, Instance}
use Rattle.instance.specs.Table.{present_of, own_at, tight_of, project_in}
use Rattle.profile.specs.Work.{end_at, ready_at, free_at, soon_at, Timed}
use Rattle.orders.specs.Book.{Prior}
use Rattle.tally.specs.Seen.{Kept, kept_of, IsTally, seen_in}
use Rattle.steps.specs.Steps.{frozen_in, loose_in, running_in, finish_at, Sets}
use Rattle.steps.specs.Shown.{Shows}
use Rattle.steps.specs.declared.Line.{Line}

-- No time is later than as many durations as activities are not left.
abbrev pub bound_of : ℕ → ℕ
bound_of left = longest_duration * (most - size left most)

pub record Bounded (t : List ℕ) (l : Line) (w : List ℕ) : Type 0 where
  pub ends : (i : ℕ) → has (frozen_in l) i ≡ true → end_at w i ≤ bound_of l.left
  pub starts : (i : ℕ) → has (loose_in l) i ≡ true → soon_at t w i ≤ bound_of l.left
  pub frees : (c : ℕ) → c < most → free_at w c ≤ bound_of l.left
  pub tick : l.tick ≤ bound_of l.left + longest_duration
  -- once all is resolved
  pub passed : l.due ≡ 0 → l.tick ≤ bound_of l.left

-- Where no two of a component can run together: what is placed of it starts before the scan-line while it is due, and
-- ends behind it otherwise.
pub record Timely (t : List ℕ) (l : Line) (w : List ℕ) : Type 0 where
  pub early : (i : ℕ) → has (loose_in l) i ≡ true → has (tight_of t) i ≡ true → has l.due (own_at t i) ≡ true
      → soon_at t w i < l.tick
  pub late : (i : ℕ) → has (loose_in l) i ≡ true → has (tight_of t) i ≡ true → has l.due (own_at t i) ≡ false
      → l.tick < finish_at t w i

pub record Position (t : List ℕ) (l : Line) (w : List ℕ) (d : Diagram) : Type 0 where
  pub shows : Shows t l w d
  pub stands : Standing (project_in t) d d.tick
  pub sets : Sets t w l
  pub bounded : Bounded t l w
  pub timely : Timely t l w
  pub contested : (c : ℕ) → has l.due c ≡ true → is_contested (project_in t) (own_of t) d c ≡ true
  -- the steps of the scan lead there
  pub comes : Comes (project_in t) (own_of t) d λ c. has l.due c
  -- an absent activity has no end
  pub idle : (i : ℕ) → i < most → has (present_of t) i ≡ false → end_at w i ≡ 0

-- What every step of the search is given: the table, the book of the orders searched so far, and the tally.
pub record Given (t b cells : List ℕ) : Type 0 where
  pub whole : Instance t
  pub prior : Prior t b
  pub tally : IsTally cells

-- What the search leaves in the working array as it was: the ends of what was frozen and of what is absent, from when
-- what was placed can start, and from when each component is free.
pub record Beside (t : List ℕ) (l : Line) (w w' : List ℕ) : Type 0 where
  pub timed : Timed w'
  pub ends : (i : ℕ) → i < most → has l.left i ≡ false → end_at w' i ≡ end_at w i
  pub ready : (i : ℕ) → i < most → has l.placed i ≡ true → ready_at w' i ≡ ready_at w i
  pub free : (c : ℕ) → c < most → free_at w' c ≡ free_at w c

-- The active schedules under a diagram have been seen, each once.
pub record Seen (t b : List ℕ) (d : Diagram) (k : Kept) (cells area : List ℕ) : Type 0 where
  pub rows : List (List ℕ)
  pub all : Rows (project_in t) mark (Under (project_in t) (own_of t) d.frozen d.starts) rows
  pub kept : kept_of cells area ≡ foldl (seen_in t b) k rows

-- So have those under what line and working array show, where `latest` is the latest frozen end.
pub record Explored (t b : List ℕ) (l : Line) (k : Kept) (w w' cells area : List ℕ) : Type 0 where
  pub beside : Beside t l w w'
  pub tally : IsTally cells
  pub seen : (d : Diagram) → Position t l w d → Seen t b d k cells area

-- What is in T and has not ended: each move makes it less, or leads to a contested component.
abbrev pub is_running_on : List ℕ → Line → ℕ → Bool
is_running_on w l i = has l.term i && not (has (running_in l) i && leb (end_at w i) l.tick)

unfoldable pub running_on : List ℕ → Line → ℕ
running_on w l = sum_below most λ i. cond (is_running_on w l i) 1 0

-- A position from which the same schedules are reached.
pub record Leads (t : List ℕ) (d : Diagram) (l : Line) (w : List ℕ) : Type 0 where
  pub to : Diagram
  pub position : Position t l w to
  pub same : (rows : List (List ℕ))
      → Rows (project_in t) mark (Under (project_in t) (own_of t) to.frozen to.starts) rows
      → Rows (project_in t) mark (Under (project_in t) (own_of t) d.frozen d.starts) rows

-- A move on.
pub record Onward (t : List ℕ) (l : Line) (w w' : List ℕ) (r : Line) : Type 0 where
  pub beside : Beside t l w w'
  pub left : r.left ≡ l.left
  pub more : (i : ℕ) → has l.placed i ≡ true → has r.placed i ≡ true
  -- what is new was left
  pub new : (i : ℕ) → has r.placed i ≡ true → has l.placed i ≡ false → has l.left i ≡ true
  pub leads : (d : Diagram) → Position t l w d → Leads t d r w'
  pub fewer : running_on w' r ≤ running_on w l
  pub less : r.due ≡ 0 → running_on w' r < running_on w l
