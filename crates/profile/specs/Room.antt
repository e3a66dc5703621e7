-- The room among the activities of a set, each with its end in the working array.
use Rattle.std.specs.Prelude.{ℕ, ◌+◌, ◌^◌, ◌≤◌, ◌<◌, Bool, true, false, cond, ◌&&◌, List, ◌≡◌, leb, ltb}
use Rattle.base.specs.Below.{every_below, sum_below, ◌implies◌}
use Rattle.sets.specs.Sets.{most, has}
use Rattle.instance.specs.Instance.{Laid}
use Rattle.instance.specs.Table.{duration_at, units_at, capacity_at, resources_of, acts_of}
use Rattle.profile.specs.Work.{end_at, start_at, Timed}

-- Activity i is to start among those of a set, which have started and are others.
pub record Among (t w : List ℕ) (set i : ℕ) : Type 0 where
  pub laid : Laid t
  pub timed : Timed w
  pub low : set < 2 ^ most
  pub acts : (k : ℕ) → has set k ≡ true → k < acts_of t
  pub started : (k : ℕ) → has set k ≡ true → duration_at t k ≤ end_at w k
  pub own : i < acts_of t
  pub other : has set i ≡ false

-- Activity i is to run beside those of a set, which are others.
pub record Others (t : List ℕ) (set i : ℕ) : Type 0 where
  pub laid : Laid t
  pub low : set < 2 ^ most
  pub acts : (k : ℕ) → has set k ≡ true → k < acts_of t
  pub own : i < acts_of t
  pub other : has set i ≡ false

-- Those of the set that run on a tick from u to v, and those that run on tick u.
abbrev pub runs_in : List ℕ → List ℕ → ℕ → ℕ → ℕ → ℕ → Bool
runs_in t w set u v k = has set k && leb (start_at t w k) v && ltb u (end_at w k)

abbrev pub runs_at : List ℕ → List ℕ → ℕ → ℕ → ℕ → Bool
runs_at t w set u k = runs_in t w set u u k

pub record Running (t w : List ℕ) (set u v r : ℕ) : Type 0 where
  pub low : r < 2 ^ most
  pub runs : (k : ℕ) → has r k ≡ runs_in t w set u v k

-- Those of the set that end behind a tick.
pub record Behind (w : List ℕ) (set tick r : ℕ) : Type 0 where
  pub low : r < 2 ^ most
  pub members : (k : ℕ) → has r k ≡ (has set k && ltb tick (end_at w k))

-- Where the answer is yes, the set has at most one member.
pub record Few (set : ℕ) (r : Bool) : Type 0 where
  pub one : r ≡ true → (j k : ℕ) → has set j ≡ true → has set k ≡ true → j ≡ k

-- The units of r that a set holds.
unfoldable pub units_of : List ℕ → ℕ → ℕ → ℕ
units_of t set r = sum_below most λ k. cond (has set k) (units_at t k r) 0

-- The units that i needs are left beside those of a set.
unfoldable pub is_left : List ℕ → ℕ → ℕ → Bool
is_left t set i =
    every_below (resources_of t) λ r.
    ltb 0 (units_at t i r) implies leb (units_of t set r + units_at t i r) (capacity_at t r)

-- The units of r that the set holds on tick u, and whether those that i needs are left there.
unfoldable pub held_at : List ℕ → List ℕ → ℕ → ℕ → ℕ → ℕ
held_at t w set u r = sum_below most λ k. cond (runs_at t w set u k) (units_at t k r) 0

unfoldable pub has_room_at : List ℕ → List ℕ → ℕ → ℕ → ℕ → Bool
has_room_at t w set i u =
    every_below (resources_of t) λ r.
    ltb 0 (units_at t i r) implies leb (held_at t w set u r + units_at t i r) (capacity_at t r)

-- They are while it would run from tick x on.
abbrev pub FitsAt : List ℕ → List ℕ → ℕ → ℕ → ℕ → Type 0
FitsAt t w set i x = (u : ℕ) → x ≤ u → u < x + duration_at t i → has_room_at t w set i u ≡ true

-- 0: they are left on tick u. Else they are not, and r is the least end of those that run on it.
pub record Full (t w : List ℕ) (set i u r : ℕ) : Type 0 where
  pub left : r ≡ 0 → has_room_at t w set i u ≡ true
  pub full : (r ≡ 0 → ⊥) → has_room_at t w set i u ≡ false
  pub end : (r ≡ 0 → ⊥) → (k : ℕ) × (runs_at t w set u k ≡ true) × (r ≡ end_at w k)
  pub least : (k : ℕ) → runs_at t w set u k ≡ true → r ≤ end_at w k

-- An end: the activity does not fit on the ticks from x up to it. 0: it fits at x.
pub record Blocked (t w : List ℕ) (set i x r : ℕ) : Type 0 where
  pub fits : r ≡ 0 → FitsAt t w set i x
  pub later : (r ≡ 0 → ⊥) → x < r
  pub end : (r ≡ 0 → ⊥) → (k : ℕ) × (has set k ≡ true) × (r ≡ end_at w k)
  pub none : (z : ℕ) → x ≤ z → z < r → FitsAt t w set i z → ⊥

-- The first tick from x on at which i fits: x, or an end.
pub record NextFit (t w : List ℕ) (set i x r : ℕ) : Type 0 where
  pub fits : FitsAt t w set i r
  pub from : x ≤ r
  pub end : (r ≡ x → ⊥) → (k : ℕ) × (has set k ≡ true) × (r ≡ end_at w k)
  pub none : (z : ℕ) → x ≤ z → z < r → FitsAt t w set i z → ⊥

-- From tick `start` on, of a set that has started by then those that are live matter alone; before it i has room from x
-- on.
pub record Late (t w : List ℕ) (set live i x start : ℕ) : Type 0 where
  pub among : Among t w set i
  pub within : (k : ℕ) → has live k ≡ true → has set k ≡ true
  pub kept : (k : ℕ) → has set k ≡ true → start < end_at w k → has live k ≡ true
  pub begun : (k : ℕ) → has set k ≡ true → start_at t w k ≤ start
  pub room : (u : ℕ) → x ≤ u → u < start → has_room_at t w set i u ≡ true
  pub over : start < x + duration_at t i

-- The end of one of a set; before it i has no room once all of the set have started.
pub record Opens (t w : List ℕ) (set i r : ℕ) : Type 0 where
  pub end : (k : ℕ) × (has set k ≡ true) × (r ≡ end_at w k)
  pub none : (u : ℕ) → ((k : ℕ) → has set k ≡ true → start_at t w k ≤ u) → u < r → has_room_at t w set i u ≡ false
