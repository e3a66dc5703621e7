use mathlib.Core.Path.{◌≡◌}
use lib.ListN.{length, take, drop}
use Rattle.timetable.specs.Mark.{places}
use Rattle.tally.specs.Seen.{starts_from}
use Rattle.tally.proofs.tally_of.Given as goal

-- `tally_of` meets its contract. The loop's invariant: the starts passed are copied.
abbrev pub invariant-loop-i : goal.invariant-loop-i
invariant-loop-i l =
    (length l.best.starts ≡ places) × (take l.i l.best.starts ≡ take l.i (drop starts_from l.cells))
