-- The moves without a branch: they lead to a component that several contest, or to where nothing is contested any more.
use Rattle.std.specs.Prelude.{ℕ, ◌-◌, ◌^◌, ◌<◌, true, List, ◌≡◌}
use Rattle.std.specs.Int.Bits.{bit_and, bit_or}
use Rattle.sets.specs.Sets.{has, meet}
use Rattle.sets.specs.Lowest.{lowest_of, after_lowest}
use Rattle.scan.specs.Scan.{Diagram}
use Rattle.instance.specs.Table.{component_at}
use Rattle.profile.specs.Work.{latest_of}
use Rattle.crowding.specs.Crowd.{crowd}
use Rattle.steps.specs.Steps.{frozen_in, selected_line}
use Rattle.steps.specs.declared.Line.{Line}
use Rattle.unbranched.specs.Position.{Position, Beside, Leads}
use Rattle.unbranched.specs.declared.Reached.{Reached}

-- The line once j is frozen, which is alone in its component c.
abbrev pub frozen_line : Line → ℕ → ℕ → Line
frozen_line l j c = selected_line l j (l.due - 2 ^ c) l.passed (bit_or l.live (2 ^ j))

-- What is left of the first component that is due, and what of it is placed.
abbrev pub both_in : List ℕ → Line → ℕ
both_in t l = bit_and (component_at t (lowest_of l.due)) l.left

abbrev pub here_in : List ℕ → Line → ℕ
here_in t l = bit_and (both_in t l) l.placed

pub record Advances (t : List ℕ) (l : Line) (w w' : List ℕ) (r : Reached) : Type 0 where
  pub beside : Beside t l w w'
  pub fewer : (i : ℕ) → has r.line.left i ≡ true → has l.left i ≡ true
  pub more : (i : ℕ) → has l.placed i ≡ true → has r.line.placed i ≡ true
  pub many : r.many ≡ crowd t r.line.left
  pub settled : r.rivals ≡ 0 → r.many ≡ 0
  pub last : r.latest ≡ latest_of w' (frozen_in r.line)
  pub here : 0 < r.rivals → (0 < r.line.due) × (r.rivals ≡ here_in t r.line)
  -- one alone has been passed
  pub several : 0 < r.rivals → after_lowest r.rivals ≡ 0 → meet r.rivals r.line.passed ≡ true
  pub leads : (d : Diagram) → Position t l w d → Leads t d r.line w'
