-- The steps of a move on the sets of a line and the working array.
use Rattle.std.specs.Prelude.{ℕ, ◌+◌, ◌-◌, ◌^◌, ◌≤◌, ◌<◌, Bool, true, false, not, cond, ◌&&◌, ◌||◌, List, ◌⊎◌, ◌≡◌, leb, ltb, eqb, get_or}
use Rattle.std.specs.Int.Bits.{bit_and, bit_xor}
use Rattle.plan.specs.Limits.{word_values}
use Rattle.sets.specs.Sets.{most, has, meet}
use Rattle.instance.specs.Instance.{Laid}
use Rattle.instance.specs.Table.{acts_of, duration_at, preds_at, component_at, own_at, tight_of}
use Rattle.profile.specs.Work.{end_at, ready_at, free_at, start_at, soon_at, ready_from, Timed}
use Rattle.profile.specs.Room.{runs_at, has_room_at, NextFit}
use Rattle.steps.specs.declared.Line.{Line}
use Rattle.steps.specs.declared.Stop.{Stop}

-- Later than any end.
abbrev pub never : ℕ
never = word_values - 1

-- Those frozen, those frozen and in T, those not placed, and those placed and not frozen.
abbrev pub frozen_in : Line → ℕ
frozen_in l = bit_xor l.placed (bit_and l.placed l.left)

abbrev pub running_in : Line → ℕ
running_in l = bit_xor l.term (bit_and l.term l.left)

abbrev pub waiting_in : Line → ℕ
waiting_in l = bit_xor l.left (bit_and l.left l.placed)

abbrev pub loose_in : Line → ℕ
loose_in l = bit_and l.placed l.left

-- The line with r for T, and for what is placed.
abbrev pub deleted_line : Line → ℕ → Line
deleted_line l r =
    record {
      tick = l.tick;
      placed = l.placed;
      left = l.left;
      term = r;
      due = l.due;
      passed = l.passed;
      live = l.live;
    }

abbrev pub attached_line : Line → ℕ → Line
attached_line l r =
    record {
      tick = l.tick;
      placed = r;
      left = l.left;
      term = l.term;
      due = l.due;
      passed = l.passed;
      live = l.live;
    }

-- The line with j frozen, what it has passed, what is live, and the components still to be resolved.
abbrev pub selected_line : Line → ℕ → ℕ → ℕ → ℕ → Line
selected_line l j due passed live =
    record {
      tick = l.tick;
      placed = l.placed;
      left = l.left - 2 ^ j;
      term = l.term;
      due = due;
      passed = passed;
      live = live;
    }

-- What the steps are given: the sets of the line are sets of activities, what is frozen has run its duration, and what
-- is in T is frozen or left.
pub record Sets (t w : List ℕ) (l : Line) : Type 0 where
  pub laid : Laid t
  pub timed : Timed w
  pub placed_low : l.placed < 2 ^ most
  pub left_low : l.left < 2 ^ most
  pub term_low : l.term < 2 ^ most
  pub due_low : l.due < 2 ^ most
  pub passed_low : l.passed < 2 ^ most
  pub live_low : l.live < 2 ^ most
  pub placed : (i : ℕ) → has l.placed i ≡ true → i < acts_of t
  pub left : (i : ℕ) → has l.left i ≡ true → i < acts_of t
  pub term : (i : ℕ) → has (running_in l) i ≡ true → has l.placed i ≡ true
  pub ran : (i : ℕ) → has (frozen_in l) i ≡ true → duration_at t i ≤ end_at w i

-- Where one placed and not frozen ends.
abbrev pub finish_at : List ℕ → List ℕ → ℕ → ℕ
finish_at t w i = soon_at t w i + duration_at t i

-- Step 2. The least end of a set, or never.
pub record FirstEnd (w : List ℕ) (set r : ℕ) : Type 0 where
  pub least : (i : ℕ) → has set i ≡ true → r ≤ end_at w i
  pub attained : (r ≡ never) ⊎ ((i : ℕ) × (has set i ≡ true) × (r ≡ end_at w i))

-- The first of a tick and the ends of a set that is placed and not frozen, and the components of those that end on it.
pub record FirstStop (t w : List ℕ) (set first : ℕ) (r : Stop) : Type 0 where
  pub upto : r.tick ≤ first
  pub least : (i : ℕ) → has set i ≡ true → r.tick ≤ finish_at t w i
  pub attained : (r.tick ≡ first) ⊎ ((i : ℕ) × (has set i ≡ true) × (r.tick ≡ finish_at t w i))
  pub low : r.due < 2 ^ most
  pub due : (i : ℕ) → has set i ≡ true → r.tick ≡ finish_at t w i → has r.due (own_at t i) ≡ true
  pub only : (c : ℕ) → has r.due c ≡ true
      → (i : ℕ) × (has set i ≡ true) × (r.tick ≡ finish_at t w i) × (own_at t i ≡ c)

-- The line at that stop.
pub record Moves (t w : List ℕ) (l : Line) (first : ℕ) (r : Line) : Type 0 where
  pub stop : FirstStop t w (loose_in l) first (record { tick = r.tick; due = r.due })
  pub placed : r.placed ≡ l.placed
  pub left : r.left ≡ l.left
  pub term : r.term ≡ l.term
  pub passed : r.passed ≡ l.passed
  pub live : r.live ≡ l.live

-- By start and then number.
abbrev pub is_ahead : ℕ → ℕ → ℕ → ℕ → Bool
is_ahead a i b j = ltb a b || (eqb a b && ltb i j)

-- What else is placed and not frozen in the component of j is shifted to its next fit; r has those that j has passed.
abbrev pub is_shifted : List ℕ → Line → ℕ → ℕ → Bool
is_shifted t l j k = has (loose_in l) k && has (component_at t j) k

-- Of what was live there stays what is not in the component of j, which was frozen, or ends behind its start; and j.
pub record Lives (t w : List ℕ) (live j r : ℕ) : Type 0 where
  pub low : r < 2 ^ most
  pub members : (k : ℕ)
      → has r k
      ≡ ((has live k && (not (has (component_at t j) k) || ltb (start_at t w j) (end_at w k))) || eqb k j)

-- Of the component of j, which was frozen last: none starts behind it, those that end behind its start are live, and
-- what else is placed had room where it stands but for j.
pub record Last (t w : List ℕ) (l : Line) (j : ℕ) : Type 0 where
  pub live : (k : ℕ) → has (frozen_in l) k ≡ true → has (component_at t j) k ≡ true → start_at t w j < end_at w k
      → has l.live k ≡ true
  pub live_low : l.live < 2 ^ most
  pub frozen : (k : ℕ) → has l.live k ≡ true → has (frozen_in l) k ≡ true
  pub behind : (k : ℕ) → has (frozen_in l) k ≡ true → has (component_at t j) k ≡ true → start_at t w k ≤ start_at t w j
  pub room : (k : ℕ) → is_shifted t l j k ≡ true → (u : ℕ) → ready_at w k ≤ u → u < ready_at w k + duration_at t k
      → runs_at t w (frozen_in l) u j ≡ false
      → has_room_at t w (bit_and (frozen_in l) (component_at t j)) k u ≡ true

pub record Shifts (t : List ℕ) (l : Line) (j : ℕ) (w w' : List ℕ) (r : ℕ) : Type 0 where
  pub timed : Timed w'
  pub low : r < 2 ^ most
  pub fit : (k : ℕ) → k < most → is_shifted t l j k ≡ true
      → NextFit t w (bit_and (frozen_in l) (component_at t j)) k (ready_at w k) (ready_at w' k)
  pub same : (c : ℕ) → ((k : ℕ) → k < most → is_shifted t l j k ≡ true → c ≡ ready_from + k → ⊥)
      → get_or w' c 0 ≡ get_or w c 0
  pub passed : (k : ℕ) → k < most
      → has r k
      ≡ cond (is_shifted t l j k) (is_ahead (ready_at w' k) k (start_at t w j) j)
      (has l.passed k && not (has (component_at t j) k))

-- Step 4: r is T without the frozen ones that have ended.
pub record Deletes (w : List ℕ) (l : Line) (r : ℕ) : Type 0 where
  pub low : r < 2 ^ most
  pub kept : (i : ℕ) → i < most
      → has r i ≡ (has l.term i && not (has (running_in l) i && leb (end_at w i) l.tick))

-- What is frozen and in T runs on the tick.
pub record Runs (t w : List ℕ) (l : Line) : Type 0 where
  pub runs : (i : ℕ) → has (running_in l) i ≡ true → (start_at t w i ≤ l.tick) × (l.tick < end_at w i)

-- Step 5: what can start at the tick.
abbrev pub is_free : List ℕ → List ℕ → Line → ℕ → Bool
is_free t w l i =
    cond (has (tight_of t) i) (leb (free_at w (own_at t i)) l.tick)
    (has_room_at t w (bit_and (running_in l) (component_at t i)) i l.tick)

abbrev pub can_start : List ℕ → List ℕ → Line → ℕ → Bool
can_start t w l i = has (waiting_in l) i && not (meet (preds_at t i) l.term) && is_free t w l i

-- r is what is placed then.
pub record Attaches (t : List ℕ) (l : Line) (w w' : List ℕ) (r : ℕ) : Type 0 where
  pub timed : Timed w'
  pub low : r < 2 ^ most
  pub placed : (i : ℕ) → i < most → has r i ≡ (has l.placed i || can_start t w l i)
  pub start : (i : ℕ) → i < most → can_start t w l i ≡ true → ready_at w' i ≡ l.tick
  pub same : (c : ℕ) → ((i : ℕ) → i < most → can_start t w l i ≡ true → c ≡ ready_from + i → ⊥) → get_or w' c 0 ≡ get_or w c 0
