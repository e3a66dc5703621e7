use Rattle.sets.proofs.Turns.{Passed}
use Rattle.instance.proofs.Clashes.{Faced}
use Rattle.instance.proofs.all_clash.Given as goal

-- `all_clash` meets its contract. The loop's invariant: the members passed clash with every other member.
abbrev pub invariant-loop-i : goal.invariant-loop-i
invariant-loop-i l = Passed (Faced l.table l.set) l.set l.i-iterator.left
