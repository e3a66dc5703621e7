use Prim.Native.Nat.{◌+◌, ◌*◌}
use Rattle.sets.specs.Sets.{most, size}
use Rattle.tally.specs.Seen.{kept_of}
use Rattle.search.proofs.Branches.{Turning}
use Rattle.search.proofs.+descend_part_resolve.Given as goal

-- Each measure is twice the number of activities left, and one more for `descend`, which calls the others with what it
-- has left; the invariant of both loops is `Turning`.
abbrev pub decreases-descend : goal.decreases-descend
decreases-descend l = 2 * size l.line.left most + 1

abbrev pub decreases-part : goal.decreases-part
decreases-part l = 2 * size l.stop.line.left most

abbrev pub decreases-resolve : goal.decreases-resolve
decreases-resolve l = 2 * size l.stop.line.left most

abbrev pub invariant-part-loop-j : goal.invariant-part-loop-j
invariant-part-loop-j l =
    Turning l.table l.book l.stop (kept_of l.initial.cells l.initial.area) l.initial.work l.work l.cells l.area l.j-iterator.left

abbrev pub invariant-resolve-loop-j : goal.invariant-resolve-loop-j
invariant-resolve-loop-j l =
    Turning l.table l.book l.stop (kept_of l.initial.cells l.initial.area) l.initial.work l.work l.cells l.area l.j-iterator.left
