use Rattle.instance.specs.Table.{clash_from}
use Rattle.instance.specs.Steps.{Filled, IsClash}
use Rattle.instance.proofs.clash_all.Given as goal

-- `clash_all` meets its contract.
abbrev pub invariant-loop-i : goal.invariant-loop-i
invariant-loop-i l = Filled l.initial.table clash_from l.i (IsClash l.initial.table) l.table
