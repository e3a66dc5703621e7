use Rattle.orders.proofs.Comparing.{Comparing}
use Rattle.orders.proofs.compare.Given as goal

-- `compare` meets its contract. The loop's invariant: the entries from the link on have been compared.
abbrev pub invariant-loop-to : goal.invariant-loop-to
invariant-loop-to l = Comparing l.preds l.link l.initial.book l.to l.book

abbrev pub decreases-loop-to : goal.decreases-loop-to
decreases-loop-to l = l.to
