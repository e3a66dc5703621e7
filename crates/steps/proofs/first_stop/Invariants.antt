use Rattle.steps.proofs.Loops.{Stopping}
use Rattle.steps.proofs.first_stop.Given as goal

-- `first_stop` meets its contract. The loop's invariant: the first end of those looked at, and the components of those
-- that end on it.
abbrev pub invariant-loop-i : goal.invariant-loop-i
invariant-loop-i l = Stopping l.table l.work l.set l.first l.tick l.due l.i-iterator.left
