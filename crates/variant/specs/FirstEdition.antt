-- The first edition: the time that a variant asks of a resource, and a plan spelt out in the second.
use Rattle.std.specs.Prelude.{ℕ, cond, ◌&&◌, map, eqb, length, replicate}
use Rattle.plan.specs.Plan.{Plan, one_unit, own_resource}
use Rattle.term.specs.Term.{Term}
use Rattle.term.specs.Variants.{activities, member}
use Rattle.base.specs.Below.{sum_below}
use Rattle.variant.specs.Project.{activity_at}
use Rattle.variant.specs.Words.{resource_of}

-- What the durations of the variant's activities on resource r add up to.
unfoldable pub time_on : Plan → Term → ℕ → ℕ
time_on p w r =
    sum_below (length p.activities) λ i.
    cond (member i (activities w) && eqb (resource_of p i) r) (activity_at p i).duration 0

-- The same plan as `plan=2`: every resource has one unit, and an activity takes one unit of its own resource and none
-- of the others.
unfoldable pub in_units : Plan → Plan
in_units p =
    let resources : ℕ = length p.capacities in
    record {
      edition = 2;
      capacities = replicate resources 1;
      activities =
          map (λ a. record { duration = a.duration; units = one_unit resources (own_resource a.units) })
          p.activities;
      nodes = p.nodes;
    }
