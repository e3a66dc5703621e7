-- A set of activities is a number below 2 ^ most: bit i is set exactly if activity i is in the set.
use Rattle.std.specs.Prelude.{ℕ, zero, suc, ◌+◌, ◌/◌, ◌%◌, ◌^◌, Bool, true, false, not, eqb}
use Rattle.std.specs.Int.Bits.{bit_and}
use Rattle.plan.specs.Limits.{most_acts}

abbrev pub most : ℕ
most = most_acts

-- The bits of a word. What is kept for each member of a set has a place for each of them, so that any bit is an
-- index.
abbrev pub width : ℕ
width = 32

unfoldable pub has : ℕ → ℕ → Bool
has set i = eqb (set / 2 ^ i % 2) 1

-- The sets have a member in common.
unfoldable pub meet : ℕ → ℕ → Bool
meet a b = not (eqb (bit_and a b) 0)

-- How many members a set has below n.
unfoldable pub size : ℕ → ℕ → ℕ
size set zero = 0
size set (suc n) = elim (has set n) [ true ↦ 1 | false ↦ 0 ] + size set n
