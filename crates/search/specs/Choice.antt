-- The choices at a stop, and what becomes of line and working array with one of them.
use Rattle.std.specs.Prelude.{ℕ, ◌+◌, ◌-◌, ◌^◌, ◌≤◌, ◌<◌, true, not, ◌&&◌, List, ◌≡◌, ltb, set}
use Rattle.plan.specs.Limits.{latest_possible}
use Rattle.sets.specs.Sets.{most, has}
use Rattle.instance.specs.Table.{own_at}
use Rattle.profile.specs.Work.{free_from, ready_at}
use Rattle.steps.specs.Steps.{Sets, loose_in, finish_at, selected_line, Lives, Last, Shifts}
use Rattle.steps.specs.declared.Line.{Line}

-- Those of a set that are ready before the scan-line and have not been passed.
pub record InConflict (w : List ℕ) (l : Line) (set r : ℕ) : Type 0 where
  pub low : r < 2 ^ most
  pub members : (j : ℕ) → has r j ≡ (has set j && not (has l.passed j) && ltb (ready_at w j) l.tick)

-- What a choice is given: j is placed and not frozen, and its component c is to be resolved.
pub record Choosing (t w : List ℕ) (l : Line) (c j : ℕ) : Type 0 where
  pub sets : Sets t w l
  pub loose : has (loose_in l) j ≡ true
  pub on : own_at t j ≡ c
  pub due : has l.due c ≡ true
  pub early : finish_at t w j ≤ latest_possible

-- What it is given besides where the others of the component are shifted: j, once frozen, is the last of it.
pub record Spreading (t w : List ℕ) (l : Line) (c j : ℕ) : Type 0 where
  pub choosing : Choosing t w l c j
  pub last : (live : ℕ) → Lives t (set w j (finish_at t w j)) l.live j live
      → Last t (set w j (finish_at t w j)) (selected_line l j (l.due - 2 ^ c) l.passed live) j

-- j is frozen where it stands.
pub record Settles (t : List ℕ) (l : Line) (c j : ℕ) (w w' : List ℕ) (r : Line) : Type 0 where
  pub line : r ≡ selected_line l j (l.due - 2 ^ c) l.passed l.live
  pub stored : w' ≡ set w j (finish_at t w j)

-- j is frozen where no two of its component c can run together.
pub record Takes (t : List ℕ) (l : Line) (c j : ℕ) (w w' : List ℕ) (r : Line) : Type 0 where
  pub line : r ≡ selected_line l j (l.due - 2 ^ c) l.passed l.live
  pub stored : w' ≡ set (set w j (finish_at t w j)) (free_from + own_at t j) (finish_at t w j)

-- j is frozen, and the others of its component c are shifted.
pub record Spreads (t : List ℕ) (l : Line) (c j : ℕ) (w w' : List ℕ) (r : Line) : Type 0 where
  pub passed : ℕ
  pub live : ℕ
  pub line : r ≡ selected_line l j (l.due - 2 ^ c) passed live
  pub lives : Lives t (set w j (finish_at t w j)) l.live j live
  pub shifts : Shifts t (selected_line l j (l.due - 2 ^ c) l.passed live) j (set w j (finish_at t w j)) w' passed
