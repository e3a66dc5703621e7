use Rattle.steps.proofs.Ready.{Attaching}
use Rattle.steps.proofs.attach.Given as goal

-- `attach` meets its contract. The loop's invariant: what has been looked at is placed and ready where it can start.
abbrev pub invariant-loop-i : goal.invariant-loop-i
invariant-loop-i l = Attaching l.table l.line l.initial.work l.work l.placed l.i-iterator.left
