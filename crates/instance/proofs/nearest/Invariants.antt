use Rattle.instance.proofs.Links.{Nearing}
use Rattle.instance.proofs.nearest.Given as goal

-- `nearest` meets its contract. The loop's invariant: what is left of the set has the members that precede none of
-- those looked at.
abbrev pub invariant-loop-i : goal.invariant-loop-i
invariant-loop-i l = Nearing l.table l.set l.near l.i-iterator.left
