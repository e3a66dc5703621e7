-- What the test of a schedule by another order finds.
use Rattle.std.specs.Prelude.{ℕ, ◌+◌, ◌-◌, ◌^◌, ◌≤◌, ◌<◌, Bool, true, false, List, ◌≡◌}
use Rattle.std.specs.Int.Bits.{bit_and}
use Rattle.sets.specs.Sets.{most, has}
use Rattle.instance.specs.Table.{duration_at, component_at, present_of}
use Rattle.profile.specs.Work.{end_at, latest_of}
use Rattle.profile.specs.Room.{FitsAt}

-- The present activities of the component of j, without j.
abbrev pub others_of : List ℕ → ℕ → ℕ
others_of t j = bit_and (component_at t j) (present_of t) - 2 ^ j

-- From the end of all of `before` on, j starts on the first tick on which it fits among the others.
pub record Soonest (t w : List ℕ) (before j : ℕ) : Type 0 where
  pub ready : latest_of w before + duration_at t j ≤ end_at w j
  pub none : (x : ℕ) → latest_of w before ≤ x → x + duration_at t j < end_at w j → FitsAt t w (others_of t j) j x → ⊥

-- r tells whether it does.
pub record IsSoonest (t w : List ℕ) (before j : ℕ) (r : Bool) : Type 0 where
  pub holds : r ≡ true → Soonest t w before j
  pub fails : r ≡ false → Soonest t w before j → ⊥

-- r is one of a set that does not start as soon as it fits in an order, or `most` where there is none.
pub record Misplaced (t w : List ℕ) (set : ℕ) (order : ℕ → ℕ) (r : ℕ) : Type 0 where
  pub upto : r ≤ most
  pub one : r < most → (has set r ≡ true) × (Soonest t w (order r) r → ⊥)
  pub none : r ≡ most → (j : ℕ) → has set j ≡ true → Soonest t w (order j) j
