use Rattle.completion.proofs.Readied.{Readying}
use Rattle.completion.proofs.make_ready.Given as goal

-- `make_ready` meets its contract. The loop's invariant: what has been looked at is gathered and ready where it has no
-- predecessor left.
abbrev pub invariant-loop-j : goal.invariant-loop-j
invariant-loop-j l = Readying l.table l.tick l.left l.new l.initial.work l.work l.ready l.j-iterator.left
