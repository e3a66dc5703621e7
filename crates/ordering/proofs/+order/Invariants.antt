use Rattle.sets.specs.Sets.{most, size}
use Rattle.tally.specs.Seen.{kept_of}
use Rattle.ordering.proofs.Ordered.{Going}
use Rattle.ordering.proofs.+order.Given as goal

-- The measure is the number of activities left.
abbrev pub decreases-order : goal.decreases-order
decreases-order l = size l.left most

abbrev pub invariant-loop-j : goal.invariant-loop-j
invariant-loop-j l =
    Going l.table l.book l.left l.free l.latest (kept_of l.initial.cells l.initial.area) l.initial.work
    l.work l.cells l.area l.j-iterator.left
