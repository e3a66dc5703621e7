use Rattle.steps.proofs.Loops.{Expiring}
use Rattle.steps.proofs.expire.Given as goal

-- `expire` meets its contract. The loop's invariant: those of T that run and have been looked at are kept where they do
-- not end by the scan-line, and `first` is the least end of those.
abbrev pub invariant-loop-i : goal.invariant-loop-i
invariant-loop-i l = Expiring l.work l.line l.term l.first l.i-iterator.left
