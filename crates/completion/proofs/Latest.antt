-- The latest end of a set, and that of the nearest predecessors of an activity.
use Prim.Native.Nat.{ℕ, ◌+◌, ◌≤◌, ◌<◌}
use native.Mathlib.Decide.{dec_le}
use native.Mathlib.Omega.{arith}
use mathlib.Core.Bool.{Bool, true, cond}
use mathlib.Core.List.{List}
use mathlib.Core.Logic.{by_cases}
use mathlib.Core.Path.{◌≡◌, sym, ap, ◌∙◌}
use Rattle.base.proofs.Bools.{by_bool, cond_true, cond_false}
use Rattle.base.proofs.Below.{max_eq, max_term, max_least, max_reached}
use Rattle.sets.specs.Sets.{most, has}
use Rattle.schedule.specs.Schedule.{Starts}
use Rattle.schedule.proofs.Load.{Has}
use Rattle.branching.proofs.Node.{Node}
use Rattle.instance.specs.Instance.{Instance}
use Rattle.instance.specs.Table.{duration_at, preds_at, near_at, project_in}
use Rattle.profile.specs.Work.{end_at, latest_of}

-- By the ends of its members.
pub latest_same : (w w' : List ℕ) (set : ℕ) → ((k : ℕ) → k < most → has set k ≡ true → end_at w' k ≡ end_at w k)
    → latest_of w' set ≡ latest_of w set
latest_same w w' set same =
    max_eq most (λ k. cond (has set k) (end_at w' k) 0) (λ k. cond (has set k) (end_at w k) 0)
    (λ k b.
    by_bool (has set k) (λ y. ap (λ (x : ℕ). cond (has set k) x 0) (same k b y))
    (λ n. cond_false (end_at w' k) 0 n ∙ sym (cond_false (end_at w k) 0 n)))

pub latest_of_lem : (w : List ℕ) (set k : ℕ) → k < most → has set k ≡ true → end_at w k ≤ latest_of w set
latest_of_lem w set k b y =
    omega (arith, max_term most (λ j. cond (has set j) (end_at w j) 0) k b, cond_true (end_at w k) 0 y)

pub latest_least : (w : List ℕ) (set x : ℕ) → ((k : ℕ) → k < most → has set k ≡ true → end_at w k ≤ x)
    → latest_of w set ≤ x
latest_least w set x h =
    max_least most (λ j. cond (has set j) (end_at w j) 0) x
    (λ k b.
    by_bool (has set k) (λ y. omega (arith, cond_true (end_at w k) 0 y, h k b y))
    (λ n. omega (arith, cond_false (end_at w k) 0 n)))

-- Where all predecessors of j are frozen, no end of one is later than those of the nearest.
module _ (t : List ℕ) (given : Instance t) (F : ℕ → Bool) (S : Starts) (node : Node (project_in t) F S)
    (inside : (i : ℕ) → F i ≡ true → Has (project_in t) i) (w : List ℕ)
    (ended : (i : ℕ) → F i ≡ true → S i + duration_at t i ≡ end_at w i) (j : ℕ) (low : j < most)
    (frozen : (k : ℕ) → has (preds_at t j) k ≡ true → F k ≡ true) where
  below : (k : ℕ) → has (preds_at t j) k ≡ true → k < most
  unfolding project_in
  below k y = omega (arith, (inside k (frozen k y)).below, given.laid.acts)

  -- The one of the latest end is a nearest one.
  last_near : (k : ℕ) → has (preds_at t j) k ≡ true → latest_of w (preds_at t j) ≡ end_at w k
      → latest_of w (preds_at t j) ≤ latest_of w (near_at t j)
  unfolding project_in
  last_near k y e =
      by_bool (has (near_at t j) k) (λ near. omega (arith, e, latest_of_lem w (near_at t j) k (below k y) near))
      (λ far.
      let b = given.linked.far j k low y far in
      let m : ℕ = b.other in
      let g : F m ≡ true = frozen m b.after in
      let one : 1 ≤ duration_at t m = given.laid.long m (inside m g).below in
      omega (
        arith,
        e,
        one,
        ended k (frozen k y),
        ended m g,
        node.is_active.is_feasible.ordered k m
            (record { below = (inside k (frozen k y)).below; there = frozen k y })
            (record { below = (inside m g).below; there = g }) b.before,
        latest_of_lem w (preds_at t j) m b.below b.after,
      ))

  pub nearest : (k : ℕ) → has (preds_at t j) k ≡ true → end_at w k ≤ latest_of w (near_at t j)
  nearest k y =
      by_cases (dec_le (latest_of w (preds_at t j)) (latest_of w (near_at t j)))
      (λ le. omega (arith, le, latest_of_lem w (preds_at t j) k (below k y) y))
      (λ gt.
      let (m, b, e) = max_reached most (λ i. cond (has (preds_at t j) i) (end_at w i) 0) (omega (arith, gt)) in
      by_bool (has (preds_at t j) m)
      (λ z. absurd (omega (arith, gt, last_near m z (e ∙ cond_true (end_at w m) 0 z))))
      (λ n. absurd (omega (arith, gt, e, cond_false (end_at w m) 0 n))))
