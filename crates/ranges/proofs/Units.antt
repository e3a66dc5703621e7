-- The tests of an activity: one of the first edition, and counts of units against the capacities.
use Prim.Native.Nat.{ℕ, ◌≤◌, ◌<◌}
use mathlib.Core.Bool.{Bool, false, ◌&&◌, and-true, and-false}
use mathlib.Core.List.{List, [], ◌∷◌}
use mathlib.Core.Path.{◌≡◌, refl, ap, ◌∙◌}
use native.Mathlib.Omega.{arith}
use borrow.Author.Tests.{lt-ltb, le-ltb}
use lib.Dec.{leb}
use Rattle.std.specs.List.{zip, list_all}
use Rattle.base.proofs.Lists.{row_same}
use Rattle.plan.specs.Limits.{is_duration}
use Rattle.plan.specs.Plan.{one_unit, own_resource, activity_of, is_activity, is_within}
use Rattle.format.proofs.Units.{own_least}

module _ (resources resource duration : ℕ) where
  abbrev is_first : Bool
  is_first = is_activity 1 resources (activity_of 1 resources (resource ∷ duration ∷ []))

  -- The units of the activity, and the resource that they are of.
  abbrev units : List ℕ
  units = one_unit resources resource

  abbrev own : ℕ
  own = own_resource units

  pub own_there : resource < resources → is_first ≡ is_duration duration
  own_there h =
      let is : own ≡ resource = own_least resources resource ∙ omega arith in
      rw (lt-ltb own resources (omega arith), is, row_same units) (and-true (is_duration duration))

  pub own_past : resources ≤ resource → is_first ≡ false
  own_past h =
      rw (le-ltb own resources (omega (arith, own_least resources resource))) (and-false (is_duration duration))

-- Capacity by capacity, each beside its count.
pub within_pairs : (bs us : List ℕ) → list_all (λ (p : ℕ × ℕ). leb p.1 p.0) (zip bs us) ≡ is_within bs us
within_pairs [] us = refl
within_pairs (b ∷ bs) [] = refl
within_pairs (b ∷ bs) (u ∷ us) = ap (λ (t : Bool). leb u b && t) (within_pairs bs us)
