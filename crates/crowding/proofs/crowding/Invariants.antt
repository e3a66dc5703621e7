use Rattle.crowding.proofs.Counting.{Counting}
use Rattle.crowding.proofs.crowding.Given as goal

-- `crowding` meets its contract. The loop's invariant: what has been looked at is counted, and its components are seen.
abbrev pub invariant-loop-i : goal.invariant-loop-i
invariant-loop-i l = Counting l.table l.set l.many l.seen l.i-iterator.left
