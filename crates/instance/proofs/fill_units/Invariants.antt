use Prim.Native.Nat.{◌+◌, ◌*◌}
use mathlib.Core.Path.{◌≡◌}
use lib.ListN.{get_or}
use Rattle.plan.specs.Limits.{most_resources}
use Rattle.instance.specs.Table.{units_from}
use Rattle.instance.specs.Instance.{row_of}
use Rattle.instance.specs.Steps.{Filled, Held}
use Rattle.instance.proofs.fill_units.Given as goal

-- `fill_units` meets its contract.
abbrev pub invariant-loop-i : goal.invariant-loop-i
invariant-loop-i l = Held l.initial.table l.tables l.i l.table

abbrev pub invariant-loop-r : goal.invariant-loop-r
invariant-loop-r l =
    Filled l.initial.table (units_from + most_resources * l.i) l.r (λ r x. x ≡ get_or (row_of l.tables l.i).units r 0)
    l.table
