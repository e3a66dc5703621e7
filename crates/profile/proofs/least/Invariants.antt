use Rattle.profile.proofs.Ends.{Lowering}
use Rattle.profile.proofs.least.Given as goal

-- `least` meets its contract. The loop's invariant: the least end of those that have been looked at.
abbrev pub invariant-loop-i : goal.invariant-loop-i
invariant-loop-i l = Lowering l.work l.set l.first l.i-iterator.left
