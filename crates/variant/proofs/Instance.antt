-- The project of a variant of a plan in range meets what the theory of schedules asks: each activity lasts a tick or
-- more, holds no more units than there are and is free, and there are no gaps. In the first edition each holds the one
-- unit of its own resource.
use Prim.Native.Nat.{ℕ, zero, suc, ◌≤◌, ◌<◌, zero-le}
use native.Mathlib.Nat.{not-suc-le-zero}
use native.Mathlib.Omega.{arith}
use mathlib.Core.Bool.{true, false, cond}
use mathlib.Core.List.{List, [], ◌∷◌}
use mathlib.Core.Path.{◌≡◌, refl, sym, ap, ◌∙◌}
use borrow.Author.Tests.{leb-true}
use lib.Dec.{leb, eqb, eqb-suc-suc, eqb-zero-suc, eqb-suc-zero}
use lib.ListN.{length, get_or}
use Rattle.plan.specs.Limits.{most_acts, longest_duration, says_units, most_units, is_capacity}
use Rattle.plan.specs.Plan.{Plan, one_unit, is_activity, is_within, is_plan}
use Rattle.format.proofs.Plans.{plan_sound, duration_between, own_below, units_own}
use Rattle.base.proofs.Bools.{and_left, and_right, cond_false}
use Rattle.base.proofs.Every.{every_at}
use Rattle.base.proofs.Lists.{zeros}
use Rattle.format.proofs.Tests.{between_facts}
use Rattle.term.specs.Term.{Term}
use Rattle.term.specs.Variants.{activities, member}
use Rattle.schedule.proofs.Load.{Has, Sound, Unfixed}
use Rattle.schedule.proofs.Bounds.{NoGaps}
use Rattle.schedule.proofs.OneUnit.{OneUnit, Bench}
use Rattle.variant.specs.Project.{no_activity, activity_at, units_at, project_of}
use Rattle.variant.specs.Words.{resource_of}

-- Units within capacities, and one unit, resource by resource.
within_at_lem : (bs us : List ℕ) (r : ℕ) → is_within bs us ≡ true → r < length bs → get_or us r 0 ≤ get_or bs r 0
within_at_lem [] us r e h = absurd (not-suc-le-zero h)
within_at_lem (b ∷ bs) [] r e h = zero-le
within_at_lem (b ∷ bs) (u ∷ us) zero e h = leb-true u b (and_left (leb u b) (is_within bs us) e)
within_at_lem (b ∷ bs) (u ∷ us) (suc r) e h = within_at_lem bs us r (and_right (leb u b) (is_within bs us) e) (omega arith)

one_at : (n own r : ℕ) → r < n → get_or (one_unit n own) r 0 ≡ cond (eqb own r) 1 0
one_at zero own r h = absurd (not-suc-le-zero h)
one_at (suc n) zero zero h = refl
one_at (suc n) zero (suc r) h = zeros n r ∙ sym (cond_false 1 0 (eqb-zero-suc r))
one_at (suc n) (suc own) zero h = sym (cond_false 1 0 (eqb-suc-zero own))
one_at (suc n) (suc own) (suc r) h = rw eqb-suc-suc (one_at n own r (omega arith))

module _ (p : Plan) (valid : is_plan p ≡ true) where
  pub acts_between : (1 ≤ length p.activities) × (length p.activities ≤ most_acts)
  acts_between = between_facts 1 most_acts (length p.activities) (plan_sound p valid).acts

  pub capacity_between : (r : ℕ) → r < length p.capacities
      → (1 ≤ get_or p.capacities r 0) × (get_or p.capacities r 0 ≤ most_units p.edition)
  capacity_between r h =
      between_facts 1 (most_units p.edition) (get_or p.capacities r 0)
      (every_at (is_capacity p.edition) p.capacities r 0 (plan_sound p valid).capacities h)

  is_activity_lem : (i : ℕ) → i < length p.activities
      → is_activity p.edition (length p.capacities) (activity_at p i) ≡ true
  is_activity_lem i h =
      every_at (is_activity p.edition (length p.capacities)) p.activities i no_activity
      (plan_sound p valid).activities h

  pub duration_at_lem : (i : ℕ) → i < length p.activities
      → (1 ≤ (activity_at p i).duration) × ((activity_at p i).duration ≤ longest_duration)
  duration_at_lem i h = duration_between p.edition (length p.capacities) (activity_at p i) (is_activity_lem i h)

  pub units_at_lem : (i r : ℕ) → i < length p.activities → r < length p.capacities
      → units_at p i r ≤ get_or p.capacities r 0
  units_at_lem i r h l =
      within_at_lem p.capacities (activity_at p i).units r
      (every_at (λ a. is_within p.capacities a.units) p.activities i no_activity (plan_sound p valid).within h)
      l

  pub sound : (w : Term) → Sound (project_of p w)
  unfolding project_of
  sound w = record { lasts = λ i h. (duration_at_lem i h.below).0 }

  module _ (first : says_units p.edition ≡ false) where
    pub own_at : (i : ℕ) → i < length p.activities → resource_of p i < length p.capacities
    own_at i h = own_below p.edition (length p.capacities) (activity_at p i) (is_activity_lem i h) first

    pub own_units : (i r : ℕ) → i < length p.activities → r < length p.capacities
        → units_at p i r ≡ cond (eqb (resource_of p i) r) 1 0
    own_units i r h l =
        ap (λ (us : List ℕ). get_or us r 0)
        (units_own p.edition (length p.capacities) (activity_at p i) (is_activity_lem i h) first)
        ∙ one_at (length p.capacities) (resource_of p i) r l

    one_unit_lem : (w : Term) → OneUnit (project_of p w) (resource_of p)
    unfolding project_of
    one_unit_lem w =
        record {
          on = λ i h. own_at i h.below;
          single = λ r l. omega (arith, capacity_between r l, cond_false {A = ℕ} 15 1 first);
          takes = λ i r h l. own_units i r h.below l;
        }

pub unfixed : (p : Plan) (w : Term) → Unfixed (project_of p w)
unfolding project_of
unfixed p w = record { all_free = λ i h. refl }

pub from_zero : (p : Plan) (w : Term) → (project_of p w).floor ≡ 0
unfolding project_of
from_zero p w = refl

pub gapless : (p : Plan) (w : Term) → NoGaps (project_of p w)
unfolding project_of
gapless p w i j hi hj o = refl

pub bench : (p : Plan) (w : Term) → is_plan p ≡ true → says_units p.edition ≡ false
    → Bench (project_of p w) (resource_of p)
bench p w valid first =
    record {
      sound = sound p valid w;
      unfixed = unfixed p w;
      from_zero = from_zero p w;
      gapless = gapless p w;
      one_unit_lem = one_unit_lem p valid first w;
    }

-- What is an activity of the project: one of the plan that the variant has.
pub has_of : (p : Plan) (w : Term) (i : ℕ) → i < length p.activities → member i (activities w) ≡ true
    → Has (project_of p w) i
unfolding project_of
has_of p w i h m = record { below = h; there = m }

pub has_below : (p : Plan) (w : Term) (i : ℕ) → Has (project_of p w) i → i < length p.activities
unfolding project_of
has_below p w i h = h.below

pub has_member : (p : Plan) (w : Term) (i : ℕ) → Has (project_of p w) i → member i (activities w) ≡ true
unfolding project_of
has_member p w i h = h.there
