-- The scan of small projects, computed and held to their active schedules, which were found by trying all starts.
use Prim.Native.Nat.{ℕ}
use mathlib.Core.Bool.{Bool, true, false, ◌&&◌}
use mathlib.Core.List.{List, [], ◌∷◌}
use mathlib.Core.Path.{◌≡◌, refl}
use lib.Dec.{leb, ltb, eqb}
use lib.ListN.{length, get_or}
use Rattle.base.specs.Below.{every_below, sum_below, max_below}
use Rattle.base.specs.Lists.{gather}
use Rattle.schedule.specs.Project.{Project}
use Rattle.scan.specs.Components.{merged, component_below, component_of}
use Rattle.scan.specs.Scan.{first_from, ready_tick, held, has_room, fits, next_fit, combinations_from, move, freeze}
use Rattle.scan.specs.Scan.{shift, resolve, delete, attach, begun, completed, schedules}

-- Durations, units by activity and resource, capacities; which activity precedes which, and by what gap.
abbrev project : List ℕ → List (List ℕ) → List ℕ → (ℕ → ℕ → Bool) → ℕ → Project
project durations units capacities precedes gap =
    record {
      size = length durations;
      present = λ i. ltb i (length durations);
      duration = λ i. get_or durations i 0;
      precedes = precedes;
      gap = λ i j. gap;
      resources = length capacities;
      capacity = λ r. get_or capacities r 0;
      units = λ i r. get_or (get_or units i []) r 0;
      free = λ i. true;
      floor = 0;
      begun = λ i. 0;
    }

-- No order; one activity before another; those from `first` on in sequence.
abbrev none : ℕ → ℕ → Bool
none i j = false

abbrev pair : ℕ → ℕ → ℕ → ℕ → Bool
pair first then i j = eqb i first && eqb j then

abbrev sequence : ℕ → ℕ → ℕ → Bool
sequence first i j = leb first i && ltb i j

abbrev found : Project → List (List ℕ)
found p = schedules p (component_of p) 9

-- Three activities on a resource of two units.
pub two_units : found (project (2 ∷ 2 ∷ 2 ∷ []) ((1 ∷ []) ∷ (1 ∷ []) ∷ (1 ∷ []) ∷ []) (2 ∷ []) none 0)
    ≡ (0 ∷ 0 ∷ 2 ∷ []) ∷ (0 ∷ 2 ∷ 0 ∷ []) ∷ (2 ∷ 0 ∷ 0 ∷ []) ∷ []
unfolding merged component_below first_from ready_tick held has_room fits next_fit combinations_from move freeze shift resolve
    delete attach begun completed schedules every_below sum_below max_below gather
two_units = refl

-- A resource of one unit; activity 1 starts two ticks or more after the end of 0.
pub with_a_gap : found (project (1 ∷ 1 ∷ 2 ∷ []) ((1 ∷ []) ∷ (1 ∷ []) ∷ (1 ∷ []) ∷ []) (1 ∷ []) (pair 0 1) 2)
    ≡ (0 ∷ 3 ∷ 1 ∷ []) ∷ (2 ∷ 5 ∷ 0 ∷ []) ∷ []
unfolding merged component_below first_from ready_tick held has_room fits next_fit combinations_from move freeze shift resolve
    delete attach begun completed schedules every_below sum_below max_below gather
with_a_gap = refl

-- Two resources of one unit; activities 1, 2 and 3 in sequence. In the second schedule the first resource waits for 2.
pub a_free_resource_waits :
    found
    (project (10 ∷ 1 ∷ 1 ∷ 20 ∷ [])
    ((1 ∷ 0 ∷ []) ∷ (0 ∷ 1 ∷ []) ∷ (1 ∷ 0 ∷ []) ∷ (0 ∷ 1 ∷ []) ∷ []) (1 ∷ 1 ∷ []) (sequence 1) 0)
    ≡ (0 ∷ 0 ∷ 10 ∷ 11 ∷ []) ∷ (2 ∷ 0 ∷ 1 ∷ 2 ∷ []) ∷ []
unfolding merged component_below first_from ready_tick held has_room fits next_fit combinations_from move freeze shift resolve
    delete attach begun completed schedules every_below sum_below max_below gather
a_free_resource_waits = refl

-- Two resources of one unit, both contested on tick 1.
pub two_contested_lem :
    found
    (project (1 ∷ 1 ∷ 1 ∷ 1 ∷ []) ((1 ∷ 0 ∷ []) ∷ (1 ∷ 0 ∷ []) ∷ (0 ∷ 1 ∷ []) ∷ (0 ∷ 1 ∷ []) ∷ []) (1 ∷ 1 ∷ []) none 0)
    ≡ (0 ∷ 1 ∷ 0 ∷ 1 ∷ []) ∷ (0 ∷ 1 ∷ 1 ∷ 0 ∷ []) ∷ (1 ∷ 0 ∷ 0 ∷ 1 ∷ []) ∷ (1 ∷ 0 ∷ 1 ∷ 0 ∷ []) ∷ []
unfolding merged component_below first_from ready_tick held has_room fits next_fit combinations_from move freeze shift resolve
    delete attach begun completed schedules every_below sum_below max_below gather
two_contested_lem = refl

-- Two resources of one unit; 3 comes after 2. In the second schedule it starts while 1 is frozen and runs.
pub two_components :
    found
    (project (2 ∷ 3 ∷ 2 ∷ 1 ∷ [])
    ((1 ∷ 0 ∷ []) ∷ (1 ∷ 0 ∷ []) ∷ (0 ∷ 1 ∷ []) ∷ (0 ∷ 1 ∷ []) ∷ []) (1 ∷ 1 ∷ []) (pair 2 3) 0)
    ≡ (0 ∷ 2 ∷ 0 ∷ 2 ∷ []) ∷ (3 ∷ 0 ∷ 0 ∷ 2 ∷ []) ∷ []
unfolding merged component_below first_from ready_tick held has_room fits next_fit combinations_from move freeze shift resolve
    delete attach begun completed schedules every_below sum_below max_below gather
two_components = refl

-- A resource of two units and one of one: activity 1 holds one of each, 3 both of the first, after 2.
pub several_resources :
    found
    (project (2 ∷ 1 ∷ 1 ∷ 2 ∷ [])
    ((1 ∷ 0 ∷ []) ∷ (1 ∷ 1 ∷ []) ∷ (0 ∷ 1 ∷ []) ∷ (2 ∷ 0 ∷ []) ∷ []) (2 ∷ 1 ∷ []) (pair 2 3) 0)
    ≡ (0 ∷ 0 ∷ 1 ∷ 2 ∷ []) ∷ (0 ∷ 1 ∷ 0 ∷ 2 ∷ []) ∷ (3 ∷ 3 ∷ 0 ∷ 1 ∷ []) ∷ []
unfolding merged component_below first_from ready_tick held has_room fits next_fit combinations_from move freeze shift resolve
    delete attach begun completed schedules every_below sum_below max_below gather
several_resources = refl

-- A resource of one unit and one of two: 3 holds one of each, after 2. In the second schedule it takes the unit that 1
-- has left.
pub a_unit_left :
    found
    (project (3 ∷ 3 ∷ 2 ∷ 1 ∷ [])
    ((0 ∷ 2 ∷ []) ∷ (0 ∷ 1 ∷ []) ∷ (1 ∷ 0 ∷ []) ∷ (1 ∷ 1 ∷ []) ∷ []) (1 ∷ 2 ∷ []) (pair 2 3) 0)
    ≡ (0 ∷ 3 ∷ 0 ∷ 3 ∷ []) ∷ (3 ∷ 0 ∷ 0 ∷ 2 ∷ []) ∷ []
unfolding merged component_below first_from ready_tick held has_room fits next_fit combinations_from move freeze shift resolve
    delete attach begun completed schedules every_below sum_below max_below gather
a_unit_left = refl
