-- The earliest start and the makespan.
use Prim.Native.Nat.{ℕ, zero, suc, ◌+◌, ◌-◌, ◌≤◌, ◌<◌, min}
use native.Mathlib.Nat.{not-suc-le-zero}
use native.Mathlib.Decide.{ℕ_discrete, dec_le}
use native.Mathlib.Omega.{arith}
use mathlib.Core.Bool.{Bool, true, false, cond}
use mathlib.Core.Path.{◌≡◌, refl, ap, ap₂, ◌∙◌}
use mathlib.Core.Logic.{by_cases}
use Rattle.schedule.specs.Project.{Project}
use Rattle.schedule.specs.Schedule.{Starts, latest_end, earliest_start, makespan}
use Rattle.base.specs.Below.{max_below}
use Rattle.base.proofs.Below.{max_eq}
use Rattle.base.proofs.Bools.{by_bool, true_not_false, cond_true, cond_false}
use Rattle.schedule.proofs.Load.{Has, end_le, ends_least}

earliest_le_below : (p : Project) (S : Starts) (n : ℕ) (i : ℕ) → i < n → p.present i ≡ true
    → earliest_start p S n ≤ S i
unfolding earliest_start
earliest_le_below p S zero i l y = absurd (not-suc-le-zero l)
earliest_le_below p S (suc n) i l y =
    let first : ℕ = earliest_start p S n in
    by_cases
    (ℕ_discrete i n)
    (λ q. rw q (omega (arith, cond_true (min first (S n)) first (rw q at y))))
    (λ ne.
    let rest : first ≤ S i = earliest_le_below p S n i (omega arith) y in
    by_bool
    (p.present n)
    (λ b. omega (arith, cond_true (min first (S n)) first b))
    (λ b. omega (arith, cond_false (min first (S n)) first b)))

-- It is the start of an activity, or there is no activity.
data First (p : Project) (S : Starts) (n : ℕ) : Type 0 where
  starts : (i : ℕ) → i < n → p.present i ≡ true → earliest_start p S n ≡ S i → First p S n
  none : ((i : ℕ) → i < n → p.present i ≡ false) → earliest_start p S n ≡ latest_end p S → First p S n

first_next : (p : Project) (S : Starts) (n : ℕ) → n < p.size → First p S n → First p S (suc n)
unfolding earliest_start
first_next p S n l (starts i b y e) =
    let first : ℕ = earliest_start p S n in
    by_bool
    (p.present n)
    (λ c.
    let now : cond (p.present n) (min first (S n)) first ≡ min first (S n) = cond_true (min first (S n)) first c in
    by_cases
    (dec_le first (S n))
    (λ d. starts i (omega arith) y (omega arith))
    (λ d. starts n (omega arith) c (omega arith)))
    (λ c. starts i (omega arith) y (cond_false (min first (S n)) first c ∙ e))
first_next p S n l (none f e) =
    let first : ℕ = earliest_start p S n in
    by_bool
    (p.present n)
    (λ c.
    starts n (omega arith) c
    (omega (arith, cond_true (min first (S n)) first c, end_le p S n (record { below = l; there = c }))))
    (λ c.
    none
    (λ i b. by_cases (ℕ_discrete i n) (λ q. rw q c) (λ ne. f i (omega arith)))
    (cond_false (min first (S n)) first c ∙ e))

first_below : (p : Project) (S : Starts) (n : ℕ) → n ≤ p.size → First p S n
first_below p S zero l = none (λ i b. absurd (not-suc-le-zero b)) (unfold earliest_start in refl)
first_below p S (suc n) l = first_next p S n l (first_below p S n (omega arith))

abbrev pub earliest : Project → Starts → ℕ
earliest p S = earliest_start p S p.size

pub earliest_le : (p : Project) (S : Starts) (i : ℕ) → Has p i → earliest p S ≤ S i
earliest_le p S i h = earliest_le_below p S p.size i h.below h.there

pub makespan_is : (p : Project) (S : Starts) → makespan p S ≡ latest_end p S - earliest p S
unfolding makespan
makespan_is p S = refl

-- The first activity to start; with none the latest end is 0.
pub data Opening (p : Project) (S : Starts) : Type 0 where
  opens : (i : ℕ) → Has p i → earliest p S ≡ S i → Opening p S
  empty : ((i : ℕ) → Has p i → ⊥) → latest_end p S ≡ 0 → Opening p S

pub opening : (p : Project) (S : Starts) → Opening p S
opening p S = go (first_below p S p.size (omega arith))
  where
    go : First p S p.size → Opening p S
    go (starts i l y e) = opens i (record { below = l; there = y }) e
    go (none f e) =
        let no_one : (i : ℕ) → Has p i → ⊥ = λ i h. true_not_false h.there (f i h.below) in
        empty no_one (omega (arith, ends_least p S 0 (λ i h. absurd (no_one i h))))

-- Two projects with the same activities.
module _ (p p' : Project) (S : Starts) (size : p.size ≡ p'.size) (present : (i : ℕ) → p.present i ≡ p'.present i)
    (duration : (i : ℕ) → p.duration i ≡ p'.duration i) where
  latest_same : latest_end p S ≡ latest_end p' S
  unfolding latest_end
  latest_same =
      ap (λ (n : ℕ). max_below n λ i. cond (p.present i) (S i + p.duration i) 0) size
      ∙ max_eq p'.size (λ i. cond (p.present i) (S i + p.duration i) 0)
      (λ i. cond (p'.present i) (S i + p'.duration i) 0)
      (λ i l. ap₂ (λ (b : Bool) (d : ℕ). cond b (S i + d) 0) (present i) (duration i))

  earliest_same : (n : ℕ) → earliest_start p S n ≡ earliest_start p' S n
  unfolding earliest_start
  earliest_same zero = latest_same
  earliest_same (suc n) =
      ap₂ (λ (b : Bool) (first : ℕ). cond b (min first (S n)) first) (present n) (earliest_same n)

  pub makespan_same : makespan p S ≡ makespan p' S
  unfolding makespan
  makespan_same = ap₂ ◌-◌ latest_same (ap (earliest_start p S) size ∙ earliest_same p'.size)
