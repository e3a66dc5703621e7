use mathlib.Core.Path.{◌≡◌}
use lib.Seq.{paste}
use Rattle.soonest.specs.Row.{row_in}
use Rattle.tally.proofs.write_row.Given as goal

-- `write_row` meets its contract. The loop's invariant: the starts passed are stored behind the first cell.
abbrev pub invariant-loop-i : goal.invariant-loop-i
invariant-loop-i l =
    l.row ≡ paste l.initial.row 1 (row_in l.table l.work) l.i
