use mathlib.Core.Path.{◌≡◌}
use lib.Seq.{paste}
use Rattle.soonest.specs.Row.{row_in}
use Rattle.tally.specs.Seen.{timetable_of}
use Rattle.tally.specs.Seen.{starts_from}
use Rattle.tally.proofs.keep.Given as goal

-- `keep` meets its contract. The loop's invariant: the starts passed are stored in their cells.
abbrev pub invariant-loop-i : goal.invariant-loop-i
invariant-loop-i l =
    l.cells ≡ paste l.initial.cells starts_from (timetable_of (row_in l.table l.work)) l.i
