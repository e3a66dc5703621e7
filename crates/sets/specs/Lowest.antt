-- The lowest member of a set, and the set without it.
use Rattle.std.specs.Prelude.{ℕ, ◌-◌}
use Rattle.std.specs.Int.Bits.{bit_and}
use Rattle.std.specs.Int.Count.{count_trailing_zeros}
use Rattle.sets.specs.Sets.{width}

unfoldable pub lowest_of : ℕ → ℕ
lowest_of set = count_trailing_zeros width set

unfoldable pub after_lowest : ℕ → ℕ
after_lowest set = bit_and set (set - 1)
