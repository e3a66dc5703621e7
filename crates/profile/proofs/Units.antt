-- The units that a set holds, and those that are left.
use Prim.Native.Nat.{ℕ, ◌+◌, ◌*◌, ◌≤◌, ◌<◌}
use native.Mathlib.Decide.{ℕ_discrete}
use native.Mathlib.Omega.{arith}
use mathlib.Core.Bool.{Bool, true, false, cond}
use mathlib.Core.List.{List, foldl}
use mathlib.Core.Logic.{by_cases}
use mathlib.Core.Path.{◌≡◌, refl, ap, ◌∙◌}
use lib.Dec.{leb, ltb}
use borrow.Author.Tests.{ltb-true, lt-ltb, le-leb, lt-leb}
use Rattle.base.specs.Below.{every_below, ◌implies◌}
use Rattle.base.proofs.Bools.{by_bool, true_not_false}
use Rattle.base.proofs.Below.{cond_le, sum_const, every_at, every_of, implies_elim, implies_intro}
use Rattle.plan.specs.Limits.{most_resources}
use Rattle.sets.specs.Sets.{most, has}
use Rattle.sets.proofs.Members.{members}
use Rattle.instance.specs.Instance.{Laid}
use Rattle.instance.specs.Table.{most_count, units_at, capacity_at, resources_of}
use Rattle.profile.specs.Room.{units_of, is_left}
use Rattle.profile.proofs.Folds.{sum_fold}

pub units_fold : (t : List ℕ) (set r : ℕ) → foldl (λ a k. a + units_at t k r) 0 (members set) ≡ units_of t set r
unfolding units_of
units_fold t set r = sum_fold (λ k. units_at t k r) set

pub units_few : (t : List ℕ) (set r : ℕ) → Laid t → r < most_resources → units_of t set r ≤ most * most_count
unfolding units_of
units_few t set r laid low =
    sum_const most (λ k. cond (has set k) (units_at t k r) 0) most_count
    (λ k l. omega (arith, cond_le (has set k) (units_at t k r), laid.units k r l low))

-- ---- one resource after the other

module _ (t : List ℕ) (set i : ℕ) where
  abbrev pub suffices : ℕ → Bool
  suffices r = ltb 0 (units_at t i r) implies leb (units_of t set r + units_at t i r) (capacity_at t r)

  -- The units of the first r resources are left.
  pub record Left (r : ℕ) : Type 0 where
    pub upto : r ≤ resources_of t
    pub left : every_below r suffices ≡ true

  pub left_none : Left 0
  unfolding every_below
  left_none = record { upto = omega arith; left = refl }

  pub left_more : (r own : ℕ) → own ≡ units_at t i r → r < resources_of t
      → (0 < own → units_of t set r + own ≤ capacity_at t r)
      → Left r
      → Left (r + 1)
  left_more r own is low fits so_far =
      record {
        upto = omega arith;
        left =
            every_of (r + 1) suffices
            (λ j l.
            by_cases
            (ℕ_discrete j r)
            (λ e.
            ap suffices e
            ∙ implies_intro (ltb 0 (units_at t i r)) (leb (units_of t set r + units_at t i r) (capacity_at t r))
            (λ y.
            le-leb (units_of t set r + units_at t i r) (capacity_at t r)
            (omega (arith, is, fits (omega (arith, is, ltb-true 0 (units_at t i r) y))))))
            (λ ne. every_at r suffices so_far.left j (omega arith)));
      }

  pub left_all : (r : ℕ) → Left r → resources_of t ≤ r → is_left t set i ≡ true
  unfolding is_left
  left_all r so_far h =
      every_of (resources_of t) suffices (λ j l. every_at r suffices so_far.left j (omega arith))

  pub left_not : (r own : ℕ) → own ≡ units_at t i r → r < resources_of t → 0 < own
      → capacity_at t r < units_of t set r + own → is_left t set i ≡ false
  unfolding is_left
  left_not r own is low some over =
      by_bool
      (is_left t set i)
      (λ y.
      true_not_false
      (implies_elim (ltb 0 (units_at t i r)) (leb (units_of t set r + units_at t i r) (capacity_at t r))
      (every_at (resources_of t) suffices y r low)
      (lt-ltb 0 (units_at t i r) (omega arith)))
      (lt-leb (units_of t set r + units_at t i r) (capacity_at t r) (omega arith)))
      (λ n. n)
