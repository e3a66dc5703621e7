use Prim.Native.Nat.{◌+◌}
use lib.ListN.{get_or}
use Rattle.orders.specs.Book.{order_from}
use Rattle.orders.proofs.Differing.{Differing}
use Rattle.orders.proofs.differences.Given as goal

-- `differences` meets its contract. The loop's invariant: the activities passed have been compared.
abbrev pub invariant-loop-j : goal.invariant-loop-j
invariant-loop-j l =
    Differing (λ i. get_or l.entry (order_from + i) 0) (λ i. get_or l.preds i 0) l.j l.set
