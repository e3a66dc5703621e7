-- One variant of a valid plan: its precedence is ranked and its project is short.
use Prim.Native.Nat.{ℕ, ◌≤◌, ◌<◌}
use native.Mathlib.Omega.{arith}
use mathlib.Core.Bool.{true, cond}
use mathlib.Core.Path.{◌≡◌}
use lib.ListN.{length}
use Rattle.plan.specs.Limits.{longest_duration, latest_possible}
use Rattle.plan.specs.Plan.{Plan, is_plan}
use Rattle.term.specs.Term.{Term}
use Rattle.term.specs.Variants.{variant_count, activities, member}
use Rattle.timetable.specs.Mark.{mark}
use Rattle.schedule.specs.Bounds.{work}
use Rattle.schedule.specs.Sessions.{horizon}
use Rattle.base.proofs.Bools.{by_bool, cond_true, cond_false}
use Rattle.base.proofs.Below.{sum_const}
use Rattle.schedule.proofs.Bounds.{plain_horizon}
use Rattle.branching.proofs.Room.{Ranked}
use Rattle.branching.proofs.Rank.{before, before_ranks}
use Rattle.variant.specs.Project.{activity_at, variant_at, project_of}
use Rattle.variant.proofs.Order.{precedes_irreflexive, precedes_transitive}
use Rattle.term.specs.Valid.{HasVariant, Valid}
use Rattle.variant.proofs.RoundTrip.{variant_once}
use Rattle.variant.proofs.Instance.{acts_between, duration_at_lem, unfixed, from_zero, gapless}

pub chosen : (p : Plan) (t : Term) (v : ℕ) → Valid p t → v < variant_count t → HasVariant p t v
chosen p t v valid l = record { valid = valid; below = l }

-- At most `most_acts` activities of at most `longest_duration` ticks each.
pub short_project : (p : Plan) (w : Term) → is_plan p ≡ true → work (project_of p w) ≤ latest_possible
unfolding work project_of
short_project p w valid =
    omega (
      arith,
      (acts_between p valid).1,
      sum_const
          (length p.activities)
          (λ i. cond (member i (activities w)) (activity_at p i).duration 0)
          longest_duration
          (λ i l.
          by_bool
          (member i (activities w))
          (λ y. omega (arith, cond_true (activity_at p i).duration 0 y, (duration_at_lem p valid i l).1))
          (λ z. omega (arith, cond_false (activity_at p i).duration 0 z))),
    )

-- No start of the box is the mark.
pub box_unmarked : (p : Plan) (w : Term) → is_plan p ≡ true → horizon (project_of p w) ≤ mark
box_unmarked p w valid =
    omega (arith, short_project p w valid, plain_horizon (project_of p w) (unfixed p w) (gapless p w), from_zero p w)

pub ranked : (p : Plan) (t : Term) (v : ℕ) → HasVariant p t v
    → Ranked (project_of p (variant_at t v)) (before (project_of p (variant_at t v)))
unfolding project_of
ranked p t v c =
    let w : Term = variant_at t v in
    before_ranks (project_of p w)
    (λ i h. precedes_irreflexive w (variant_once p t v c) i)
    (λ i j k hi hj hk. precedes_transitive w (variant_once p t v c) i j k)
