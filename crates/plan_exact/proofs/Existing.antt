-- Where precedence is ranked, each activity fits alone and none has begun, there is an active schedule: an open
-- activity after another is frozen at its earliest start.
use Prim.Native.Nat.{ℕ, zero, suc, ◌+◌, ◌≤◌, ◌<◌}
use native.Mathlib.Omega.{arith}
use mathlib.Core.Bool.{Bool, false, cond}
use mathlib.Core.Path.{◌≡◌, ap}
use Rattle.base.specs.Below.{every_below, sum_below, ◌implies◌}
use Rattle.base.proofs.Bools.{by_bool, cond_true, cond_false}
use Rattle.base.proofs.Below.{every_at, every_fails, implies_elim, implies_fails, sum_le_but}
use Rattle.schedule.specs.Project.{Project}
use Rattle.schedule.specs.Schedule.{Starts, moved}
use Rattle.schedule.proofs.Load.{Has, Unfixed}
use Rattle.schedule.proofs.Reflect.{Active}
use Rattle.branching.proofs.Room.{Ranked, some_open, adding, adding_new, adding_other}
use Rattle.branching.proofs.Node.{Node, begun_of, root, leaf_active, soonest_some, child}
use Rattle.scan_exact.proofs.Schedules.{none_begun}

module _ (p : Project) (rank : ℕ → ℕ) (ranked : Ranked p rank)
    (alone : (i : ℕ) → Has p i → (r : ℕ) → r < p.resources → p.units i r ≤ p.capacity r) where
  one_left : Bool → ℕ
  one_left b = cond b 0 1

  left : (ℕ → Bool) → ℕ
  left F = sum_below p.size λ i. one_left (F i)

  fewer : (F : ℕ → Bool) (j : ℕ) → j < p.size → F j ≡ false → left (adding F j) + 1 ≤ left F
  unfolding left one_left
  fewer F j l z =
      omega (
        arith,
        sum_le_but p.size (λ i. one_left (adding F j i)) (λ i. one_left (F i)) j 1 0 l
            (λ i m ne. omega (arith, ap one_left (adding_other F j i ne)))
            (omega (
              arith,
              cond_true {A = ℕ} 0 1 (adding_new F j),
              cond_false {A = ℕ} 0 1 z,
            )),
      )

  active_below : (n : ℕ) (F : ℕ → Bool) (S : Starts) → Node p F S → left F < n → (T : Starts) × Active p T
  active_below zero F S node l = absurd (omega arith)
  active_below (suc n) F S node l =
      by_bool
      (every_below p.size λ i. p.present i implies F i)
      (λ y. (
        S,
        leaf_active p F S node
            (λ i h.
            implies_elim (p.present i) (F i)
            (every_at p.size (λ i. p.present i implies F i) y i h.below)
            h.there),
      ))
      (λ z.
      let (k, b, fails) = every_fails p.size (λ i. p.present i implies F i) z in
      let (there, waits) = implies_fails (p.present k) (F k) fails in
      let (j, open_j) = some_open p F rank ranked k (record { below = b; there = there }) waits in
      let (e, soon) = soonest_some p F S node j open_j (alone j open_j.has) in
      active_below n (adding F j) (moved S j e) (child p F S node j open_j e soon)
      (omega (arith, fewer F j open_j.has.below open_j.waits)))

  pub some_active : Unfixed p → (T : Starts) × Active p T
  some_active unfixed =
      let b = none_begun p unfixed in
      active_below (suc (left (begun_of p))) (begun_of p) p.begun (root p p.begun b.closed b.fits)
      (omega arith)
