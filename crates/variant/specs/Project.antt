-- The project of a variant: from the second edition on, the plan says how many units each resource has and how many of
-- them each activity holds; in the first a resource has one unit, and an activity holds that of its own resource alone.
-- There are no gaps in either, and every activity is free from tick 0 on.
use Rattle.std.specs.Prelude.{ℕ, true, [], length, get_or}
use Rattle.plan.specs.Plan.{Plan, Activity}
use Rattle.term.specs.Term.{Term, act}
use Rattle.term.specs.Variants.{variants, activities, member}
use Rattle.schedule.specs.Project.{Project}
use Rattle.variant.specs.Precedence.{precedes}

abbrev pub no_activity : Activity
no_activity = record { duration = 0; units = [] }

abbrev pub activity_at : Plan → ℕ → Activity
activity_at p i = get_or p.activities i no_activity

-- The units that activity i holds of resource r.
abbrev pub units_at : Plan → ℕ → ℕ → ℕ
units_at p i r = get_or (activity_at p i).units r 0

-- Variant v of a term.
abbrev pub variant_at : Term → ℕ → Term
variant_at t v = get_or (variants t) v (act 0)

unfoldable pub project_of : Plan → Term → Project
project_of p v =
    record {
      size = length p.activities;
      present = λ i. member i (activities v);
      duration = λ i. (activity_at p i).duration;
      precedes = precedes v;
      gap = λ i j. 0;
      resources = length p.capacities;
      capacity = λ r. get_or p.capacities r 0;
      units = units_at p;
      free = λ i. true;
      floor = 0;
      begun = λ i. 0;
    }
