use mathlib.Core.Path.{◌≡◌}
use lib.ListN.{drop}
use Rattle.base.specs.Order.{is_before}
use Rattle.soonest.specs.Row.{row_in}
use Rattle.tally.specs.Seen.{starts_from, timetable_of}
use Rattle.tally.proofs.starts_before.Given as goal

-- `starts_before` meets its contract. The loop's invariant: what is left decides as the whole does.
abbrev pub invariant-loop-i : goal.invariant-loop-i
invariant-loop-i l =
    is_before (timetable_of (row_in l.table l.work)) (drop starts_from l.cells)
    ≡ is_before (drop l.i (timetable_of (row_in l.table l.work))) (drop l.i (drop starts_from l.cells))
