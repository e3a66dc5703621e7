use Prim.Native.Nat.{◌+◌, ◌^◌, ◌<◌}
use mathlib.Core.List.{foldl}
use mathlib.Core.Path.{◌≡◌}
use Rattle.sets.specs.Sets.{most}
use Rattle.sets.proofs.Members.{members}
use Rattle.instance.specs.Table.{units_at}
use Rattle.profile.specs.Room.{units_of}
use Rattle.profile.proofs.units_of.Given as goal

-- `units_of` meets its contract. The loop's invariant: the sum over the members still to come, from the sum so far,
-- gives the sum of all.
abbrev pub invariant-loop-k : goal.invariant-loop-k
invariant-loop-k l =
    (l.k-iterator.left < 2 ^ most) × (foldl (λ a k. a + units_at l.table k l.r) l.units (members l.k-iterator.left) ≡ units_of l.table l.set l.r)
