use Rattle.search.proofs.Choosing.{Conflicts}
use Rattle.search.proofs.in_conflict.Given as goal

-- `in_conflict` meets its contract. The loop's invariant: of what has been looked at, what is in conflict is gathered.
abbrev pub invariant-loop-j : goal.invariant-loop-j
invariant-loop-j l = Conflicts l.work l.line l.set l.found l.j-iterator.left
