-- A timetable is a session (a feasible schedule in the field's words) of a variant if it has the mark exactly at the
-- absent activities and is feasible.
use Rattle.std.specs.Prelude.{ℕ, ◌-◌, Bool, not, ◌&&◌, List, ◌++◌, eqb, length, replicate}
use Rattle.std.specs.Bool.{beq}
use Rattle.plan.specs.Plan.{Plan}
use Rattle.term.specs.Term.{Term}
use Rattle.term.specs.Variants.{activities, member}
use Rattle.base.specs.Below.{every_below}
use Rattle.schedule.specs.Schedule.{feasible}
use Rattle.schedule.specs.Sessions.{starts_of}
use Rattle.variant.specs.Project.{project_of}
use Rattle.timetable.specs.Mark.{mark, places}

unfoldable pub is_marked : Term → List ℕ → Bool
is_marked v row = every_below places λ i. beq (eqb (starts_of row i) mark) (not (member i (activities v)))

unfoldable pub is_session : Plan → Term → List ℕ → Bool
is_session p v row = is_marked v row && feasible (project_of p v) (starts_of row)

-- The timetable of a row: the mark from the number of activities on.
abbrev pub timetable_of : Plan → List ℕ → List ℕ
timetable_of p ss = ss ++ replicate (places - length p.activities) mark
