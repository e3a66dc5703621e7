use Rattle.steps.proofs.Ready.{Shifting, Parts}
use Rattle.steps.proofs.shift.Given as goal

-- `shift` meets its contract. The loop's invariant: what has been looked at stands at its next fit among the frozen
-- ones, and has been passed where it stands ahead.
abbrev pub invariant-loop-k : goal.invariant-loop-k
invariant-loop-k l =
    Parts l.table l.fn.line l.j l.initial.work l.end l.start l.live l.initial.passed l.initial.k-iterator.left
    × Shifting l.table l.fn.line l.j l.initial.work l.initial.passed l.initial.k-iterator.left l.work l.passed l.k-iterator.left
