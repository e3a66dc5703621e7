-- What the tables of a plan hold: the capacities, the durations and the units of its activities.
use Prim.Native.Nat.{ℕ, ◌<◌}
use native.Mathlib.Omega.{arith}
use mathlib.Core.Path.{◌≡◌, ap, ◌∙◌}
use lib.ListN.{length, get_or, take}
use lib.Seq.{get_or-take, length-take-le}
use Rattle.std.proofs.lemmas.List.{get_or-map}
use Rattle.plan.specs.Limits.{most_resources, most_acts}
use Rattle.plan.specs.Plan.{Activity, activity_in, plan_of}
use Rattle.plan.specs.declared.Activity as Row
use Rattle.plan.specs.declared.Tables.{Tables}
use Rattle.variant.specs.Project.{no_activity, activity_at, units_at}

module _ (t : Tables) where
  pub resources_are : length t.capacity ≡ most_resources → length (plan_of t).capacities ≡ t.resources
  resources_are size = length-take-le t.resources t.capacity (omega (arith, size, t.resources_held))

  pub capacity_in : (r : ℕ) → r < t.resources → get_or (plan_of t).capacities r 0 ≡ get_or t.capacity r 0
  capacity_in r l = get_or-take t.resources t.capacity r 0 l

  module _ (size : length t.activity ≡ most_acts) (i : ℕ) (h : i < t.acts) (d : Row.Activity) where
    activity_is : activity_at (plan_of t) i ≡ activity_in t.resources (get_or t.activity i d)
    activity_is =
        get_or-map (activity_in t.resources) (take t.acts t.activity) i d no_activity
        (omega (arith, length-take-le t.acts t.activity (omega (arith, size, t.acts_held))))
        ∙ ap (activity_in t.resources) (get_or-take t.acts t.activity i d h)

    pub duration_in : (activity_at (plan_of t) i).duration ≡ (get_or t.activity i d).duration
    duration_in = ap (λ (a : Activity). a.duration) activity_is

    pub units_in : (r : ℕ) → r < t.resources
        → units_at (plan_of t) i r ≡ get_or (get_or t.activity i d).units r 0
    units_in r l =
        ap (λ (a : Activity). get_or a.units r 0) activity_is
        ∙ get_or-take t.resources (get_or t.activity i d).units r 0 l
