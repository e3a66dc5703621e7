-- The active schedules of a project as a list: those among all rows of the box, in the order of their starts. A row
-- has a start for each activity number and `mark` for an absent one.
use Rattle.std.specs.Prelude.{ℕ, zero, suc, ◌+◌, cond, ◌&&◌, List, [], ◌∷◌, map, get_or}
use Rattle.base.specs.Below.{sum_below, max_below}
use Rattle.base.specs.Lists.{keep, gather}
use Rattle.schedule.specs.Project.{Project}
use Rattle.schedule.specs.Schedule.{Starts, active}

-- The widest gap before an activity.
unfoldable pub wait : Project → ℕ → ℕ
wait p j = max_below p.size λ i. cond (p.present i && p.precedes i j) (p.gap i j) 0

-- No active schedule has a start as late as this, where each activity lasts a tick or more.
unfoldable pub horizon : Project → ℕ
horizon p =
    p.floor
    + sum_below p.size λ i.
    cond (p.present i) (p.duration i + wait p i + cond (p.free i) 0 (p.begun i)) 0

-- The rows of the activities from number k on, of which there are n more.
unfoldable pub rows : Project → ℕ → ℕ → ℕ → List (List ℕ)
rows p mark k zero = [] ∷ []
rows p mark k (suc n) =
    cond (p.present k)
    (gather (horizon p) λ t. map (t ∷◌) (rows p mark (suc k) n))
    (map (mark ∷◌) (rows p mark (suc k) n))

abbrev pub starts_of : List ℕ → Starts
starts_of row i = get_or row i 0

unfoldable pub sessions : Project → ℕ → List (List ℕ)
sessions p mark = keep (λ row. active p (starts_of row)) (rows p mark 0 p.size)
