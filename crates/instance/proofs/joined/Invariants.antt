use Rattle.instance.proofs.Merging.{Joining}
use Rattle.instance.proofs.joined.Given as goal

-- `joined` meets its contract. The loop's invariant: the components of the members passed are joined.
abbrev pub invariant-loop-i : goal.invariant-loop-i
invariant-loop-i l = Joining l.table l.set l.all l.i-iterator.left
