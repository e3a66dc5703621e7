use lib.Dec.{ltb}
use Rattle.instance.specs.Table.{units_at}
use Rattle.instance.specs.Steps.{Passing}
use Rattle.instance.proofs.users.Given as goal

-- `users` meets its contract.
abbrev pub invariant-loop-i : goal.invariant-loop-i
invariant-loop-i l = Passing l.i (λ k. ltb 0 (units_at l.table k l.r)) l.set
