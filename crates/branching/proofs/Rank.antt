-- Where precedence is irreflexive and transitive, the number of its predecessors ranks an activity.
use Prim.Native.Nat.{ℕ}
use native.Mathlib.Omega.{arith}
use mathlib.Core.Bool.{true, cond, ◌&&◌}
use mathlib.Core.Path.{◌≡◌}
use Rattle.base.specs.Below.{sum_below}
use Rattle.schedule.specs.Project.{Project}
use Rattle.base.proofs.Bools.{by_bool, both, and_left, and_right, cond_true, cond_false}
use Rattle.base.proofs.Below.{cond_mono, sum_le_but}
use Rattle.schedule.proofs.Load.{Has}
use Rattle.branching.proofs.Room.{Ranked}

abbrev pub before : Project → ℕ → ℕ
before p j = sum_below p.size λ k. cond (p.present k && p.precedes k j) 1 0

pub before_ranks : (p : Project)
    → ((i : ℕ) → Has p i → p.precedes i i ≡ true → ⊥)
    → ((i j k : ℕ) → Has p i → Has p j → Has p k → p.precedes i j ≡ true → p.precedes j k ≡ true → p.precedes i k
    ≡ true)
    → Ranked p (before p)
before_ranks p irreflexive transitive i j hi hj o =
    let one : ℕ = 1 in
    omega (
      arith,
      sum_le_but
          p.size
          (λ k. cond (p.present k && p.precedes k i) 1 0)
          (λ k. cond (p.present k && p.precedes k j) 1 0)
          i
          1
          0
          hi.below
          (λ k l ne.
          cond_mono (p.present k && p.precedes k i) (p.present k && p.precedes k j) 1
          (λ y.
          let hk : Has p k = record { below = l; there = and_left (p.present k) (p.precedes k i) y } in
          both hk.there (transitive k i j hk hi hj (and_right (p.present k) (p.precedes k i) y) o)))
          (by_bool
          (p.present i && p.precedes i i)
          (λ y. absurd (irreflexive i hi (and_right (p.present i) (p.precedes i i) y)))
          (λ z. omega (arith, cond_false one 0 z, cond_true one 0 (both hi.there o)))),
    )
