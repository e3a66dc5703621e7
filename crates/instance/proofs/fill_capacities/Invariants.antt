use mathlib.Core.Path.{◌≡◌}
use lib.ListN.{get_or}
use Rattle.instance.specs.Table.{capacity_from}
use Rattle.instance.specs.Steps.{Filled}
use Rattle.instance.proofs.fill_capacities.Given as goal

-- `fill_capacities` meets its contract.
abbrev pub invariant-loop-r : goal.invariant-loop-r
invariant-loop-r l = Filled l.initial.table capacity_from l.r (λ r x. x ≡ get_or l.tables.capacity r 0) l.table
