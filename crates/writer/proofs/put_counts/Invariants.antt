use Rattle.writer.proofs.Pieces.{counts}
use Rattle.writer.proofs.Lines.{Left}
use Rattle.writer.proofs.put_counts.Given as goal

-- Their form has no letter.
abbrev pub invariant-loop-held : goal.invariant-loop-held
invariant-loop-held l = Left 10 counts l.units l.initial.area l.at l.area l.next l.held-index
