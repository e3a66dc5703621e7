-- How many of what is left may yet be contested.
use Rattle.std.specs.Prelude.{ℕ, ◌+◌, ◌-◌, ◌^◌, ◌<◌, Bool, true, cond, not, ◌&&◌, ◌||◌, List, ◌≡◌, eqb}
use Rattle.std.specs.Int.Bits.{bit_and}
use Rattle.base.specs.Below.{every_below, sum_below}
use Rattle.sets.specs.Sets.{most, has}
use Rattle.instance.specs.Instance.{own_of}
use Rattle.instance.specs.Table.{acts_of, component_at, tight_of}

-- One of a component in which two can run together, or one after the first of its component.
unfoldable pub is_extra : List ℕ → ℕ → ℕ → Bool
is_extra t set i =
    not (has (tight_of t) i) || not (every_below i λ k. not (has set k && eqb (own_of t k) (own_of t i)))

-- How many of the set may yet be contested.
unfoldable pub crowd : List ℕ → ℕ → ℕ
crowd t set = sum_below most λ i. cond (has set i && is_extra t set i) 1 0

-- The set is one of activities.
pub record Acts (t : List ℕ) (set : ℕ) : Type 0 where
  pub low : set < 2 ^ most
  pub below : (i : ℕ) → has set i ≡ true → i < acts_of t

-- So many fewer once i is frozen, where `both` is what is left of its component.
pub record Fewer (t : List ℕ) (i both r : ℕ) : Type 0 where
  pub fewer : (left : ℕ) → Acts t left → has left i ≡ true → both ≡ bit_and (component_at t i) left
      → crowd t left ≡ crowd t (left - 2 ^ i) + r
