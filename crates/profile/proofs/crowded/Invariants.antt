use Rattle.sets.proofs.Turns.{Passed}
use Rattle.profile.proofs.Fits.{Passable}
use Rattle.profile.proofs.crowded.Given as goal

-- `crowded` meets its contract. The loop's invariant: there is room where those start that have been looked at.
abbrev pub invariant-loop-k : goal.invariant-loop-k
invariant-loop-k l = Passed (Passable l.table l.work l.set l.i l.x) l.set l.k-iterator.left
