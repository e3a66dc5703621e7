-- Counts that are in their range and kept.
use Prim.Native.Nat.{ℕ, ◌≤◌}
use mathlib.Core.Bool.{true}
use mathlib.Core.List.{List}
use mathlib.Core.Path.{◌≡◌}
use lib.ListN.{length, take}
use Rattle.base.specs.Lists.{every}
use Rattle.plan.specs.Limits.{is_unit_count}

-- The first i of them are.
pub record KeptSoFar (counts units : List ℕ) (i : ℕ) : Type 0 where
  pub count : i ≤ length counts
  pub ranged : every (is_unit_count 2) (take i counts) ≡ true
  pub kept : take i units ≡ take i counts
