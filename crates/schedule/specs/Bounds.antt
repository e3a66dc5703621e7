-- What bounds a makespan: a chain of precedence and the load of a resource from below, the sum of the durations from
-- above.
use Rattle.std.specs.Prelude.{ℕ, ◌+◌, ◌*◌, ◌-◌, ◌/◌, ◌<◌, true, cond, List, [], ◌∷◌, ◌≡◌}
use Rattle.base.specs.Below.{sum_below}
use Rattle.schedule.specs.Project.{Project}

-- i is an activity of the project.
pub record Has (p : Project) (i : ℕ) : Type 0 where
  pub below : i < p.size
  pub there : p.present i ≡ true

-- Activities of which each precedes the next: i and then those of the list.
abbrev pub Chain : Project → ℕ → List ℕ → Type 0
Chain p i [] = Has p i
Chain p i (j ∷ js) = Has p i × (p.precedes i j ≡ true) × Chain p j js

-- Its durations with the gaps between.
unfoldable pub chain_length : Project → ℕ → List ℕ → ℕ
chain_length p i [] = p.duration i
chain_length p i (j ∷ js) = p.duration i + p.gap i j + chain_length p j js

-- What the activities ask of r: units held, times ticks.
unfoldable pub demand : Project → ℕ → ℕ
demand p r = sum_below p.size λ i. cond (p.present i) (p.duration i * p.units i r) 0

-- The load of r: that, shared out over its units and rounded up.
unfoldable pub load_of : Project → ℕ → ℕ
load_of p r = (demand p r + (p.capacity r - 1)) / p.capacity r

-- The sum of the durations.
unfoldable pub work : Project → ℕ
work p = sum_below p.size λ i. cond (p.present i) (p.duration i) 0
