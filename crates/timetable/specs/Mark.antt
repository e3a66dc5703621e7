-- A timetable has a place for each activity number, and the mark at the absent ones.
use Rattle.std.specs.Prelude.{ℕ, List, replicate}
use Rattle.plan.specs.Limits.{most_acts}

abbrev pub mark : ℕ
mark = 4294967295

abbrev pub places : ℕ
places = most_acts

abbrev pub no_starts : List ℕ
no_starts = replicate places mark
