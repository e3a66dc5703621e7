-- Bounds of the makespan from below, by any chain of precedence and by what any resource has to carry; and from above
-- by the sum of the durations.
use Prim.Native.Nat.{ℕ, ◌+◌, ◌*◌, ◌-◌, ◌≤◌, ◌<◌}
use native.Mathlib.Nat.{le_of_suc-le-suc, lt-suc_self, div-lt_iff_lt-mul}
use native.Mathlib.Omega.{arith}
use mathlib.Core.Bool.{cond}
use mathlib.Core.List.{List, [], ◌∷◌}
use Rattle.base.specs.Below.{sum_below}
use Rattle.schedule.specs.Project.{Project}
use Rattle.schedule.specs.Bounds.{Chain, chain_length, demand, load_of}
use Rattle.schedule.specs.Schedule.{Starts, load, latest_end, makespan}
use Rattle.base.proofs.Bools.{by_bool, cond_true, cond_false}
use Rattle.base.proofs.Below.{sum_le, sum_const, sum_window, sum_swap}
use Rattle.schedule.proofs.Load.{Has, Sound, Unfixed, holds, holds_all, end_le}
use Rattle.schedule.proofs.Reflect.{Feasible, Active}
use Rattle.schedule.proofs.Makespan.{earliest, earliest_le, makespan_is}
use Rattle.schedule.proofs.Compact.{active_makespan}
use Rattle.schedule.proofs.Bounds.{NoGaps, work, latest_by_work}

chain_head : (p : Project) (i : ℕ) (js : List ℕ) → Chain p i js → Has p i
chain_head p i [] c = c
chain_head p i (j ∷ js) c = c.0

module _ (p : Project) (S : Starts) (f : Feasible p S) where
  chain_latest : (i : ℕ) (js : List ℕ) → Chain p i js → S i + chain_length p i js ≤ latest_end p S
  unfolding chain_length
  chain_latest i [] c = end_le p S i c
  chain_latest i (j ∷ js) c =
      omega (arith, f.ordered i j c.0 (chain_head p j js c.2) c.1, chain_latest j js c.2)

  pub chain_bound : (i : ℕ) (js : List ℕ) → Chain p i js → chain_length p i js ≤ makespan p S
  chain_bound i js c =
      omega (arith, chain_latest i js c, earliest_le p S i (chain_head p i js c), makespan_is p S)

-- On the ticks from the earliest start to the latest end each activity runs for its duration.
holds_over : (p : Project) (S : Starts) (r i : ℕ) → Has p i
    → p.duration i * p.units i r ≤ sum_below (makespan p S) (λ t. holds p S (earliest p S + t) r i)
holds_over p S r i h =
    let first : earliest p S ≤ S i = earliest_le p S i h in
    sum_window
    (makespan p S)
    (λ t. holds p S (earliest p S + t) r i)
    (S i - earliest p S)
    (p.duration i)
    (p.units i r)
    (omega (arith, makespan_is p S, end_le p S i h))
    (λ t a b. omega (arith, holds_all p S (earliest p S + t) r i h.there (omega arith)))

demand_over : (p : Project) (S : Starts) (r : ℕ)
    → demand p r ≤ sum_below (makespan p S) (λ t. load p S (earliest p S + t) r)
unfolding demand load
demand_over p S r =
    omega (
      arith,
      sum_swap (makespan p S) p.size (λ t i. holds p S (earliest p S + t) r i),
      sum_le
          p.size
          (λ i. cond (p.present i) (p.duration i * p.units i r) 0)
          (λ i. sum_below (makespan p S) (λ t. holds p S (earliest p S + t) r i))
          (λ i l.
          by_bool
          (p.present i)
          (λ y.
          omega
          (arith, cond_true (p.duration i * p.units i r) 0 y, holds_over p S r i (record { below = l; there = y })))
          (λ z. omega (arith, cond_false (p.duration i * p.units i r) 0 z))),
    )

pub demand_bound : (p : Project) (S : Starts) → Feasible p S → (r : ℕ) → r < p.resources
    → demand p r ≤ makespan p S * p.capacity r
demand_bound p S f r l =
    omega (
      arith,
      demand_over p S r,
      sum_const (makespan p S) (λ t. load p S (earliest p S + t) r) (p.capacity r)
          (λ t b. f.fits (earliest p S + t) r l),
    )

-- The load of r is the least number of ticks in which its units can carry what is asked of it.
pub load_covers : (p : Project) (r : ℕ) → 0 < p.capacity r → demand p r ≤ load_of p r * p.capacity r
unfolding load_of
load_covers p r some = omega (arith, (div-lt_iff_lt-mul some).0 (lt-suc_self (load_of p r)))

pub load_least : (p : Project) (r n : ℕ) → 0 < p.capacity r → demand p r ≤ n * p.capacity r → load_of p r ≤ n
unfolding load_of
load_least p r n some within = le_of_suc-le-suc ((div-lt_iff_lt-mul some).1 (omega arith))

-- So it is no more than the makespan.
pub load_bound : (p : Project) (S : Starts) → Feasible p S → (r : ℕ) → r < p.resources → 0 < p.capacity r
    → load_of p r ≤ makespan p S
load_bound p S f r l some = load_least p r (makespan p S) some (demand_bound p S f r l)

-- From above.
pub work_bound : (p : Project) (S : Starts) → Sound p → Unfixed p → NoGaps p → Active p S → makespan p S ≤ work p
work_bound p S sound unfixed none a =
    omega (arith, active_makespan p S sound unfixed a, latest_by_work p S sound unfixed none a)
