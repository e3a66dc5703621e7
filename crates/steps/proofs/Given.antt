-- What the scan is given by a table.
use Prim.Native.Nat.{ℕ}
use native.Mathlib.Omega.{arith}
use mathlib.Core.Bool.{true}
use mathlib.Core.List.{List}
use mathlib.Core.Path.{◌≡◌, refl}
use Rattle.sets.specs.Sets.{has}
use Rattle.schedule.proofs.Load.{Has, Sound}
use Rattle.branching.proofs.Room.{Ranked}
use Rattle.scan_exact.proofs.Standing.{Scannable, Begun}
use Rattle.scan_exact.proofs.Components.{components_few, components_joint}
use Rattle.scan_exact.proofs.Schedules.{none_begun}
use Rattle.instance.specs.Instance.{own_of, Instance}
use Rattle.instance.specs.Table.{present_of, resources_of, project_in}

module _ (t : List ℕ) (given : Instance t) where
  -- The activities of the project are those present.
  pub has_is : (i : ℕ) → Has (project_in t) i → has (present_of t) i ≡ true
  unfolding project_in
  has_is i h = h.there

  pub has_of : (i : ℕ) → has (present_of t) i ≡ true → Has (project_in t) i
  unfolding project_in
  has_of i y = record { below = given.present i y; there = y }

  sound : Sound (project_in t)
  unfolding project_in
  sound = record { lasts = λ i h. given.laid.long i h.below }

  pub scannable : Scannable (project_in t) (own_of t)
  unfolding project_in
  scannable =
      record {
        sound = sound;
        joint = components_joint (project_in t);
        few = λ i h. components_few (project_in t) (resources_of t) i h.below;
        beyond = λ i y. given.present i y;
        alone = λ i h r l. given.laid.alone i r h.below l;
      }

  pub ranked : Ranked (project_in t) given.rank
  unfolding project_in
  ranked i j hi hj o = given.ranked i j (omega (arith, hj.below, given.laid.acts)) o

  pub begun_none : Begun (project_in t)
  unfolding project_in
  begun_none = none_begun (project_in t) (record { all_free = λ i h. refl })
