use Rattle.instance.specs.Table.{component_from}
use Rattle.instance.proofs.Stores.{Storing}
use Rattle.instance.proofs.merge.Given as goal

-- `merge` meets its contract. The loop's invariant: with the members still to come stored too, the column is what it
-- is to be.
abbrev pub invariant-loop-i : goal.invariant-loop-i
invariant-loop-i l = Storing component_from (λ x. l.set) l.initial.table l.set l.table l.i-iterator.left
