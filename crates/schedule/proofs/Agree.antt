-- Two schedules that agree on the project's activities have the same load, latest end and makespan, and are feasible
-- or active alike. A schedule of a project is one of any part of it.
use Prim.Native.Nat.{ℕ, zero, suc, ◌-◌, ◌≤◌, ◌<◌, min}
use native.Mathlib.Nat.{le_antisymm}
use native.Mathlib.Decide.{ℕ_discrete}
use native.Mathlib.Omega.{arith}
use mathlib.Core.Bool.{Bool, true}
use mathlib.Core.Path.{◌≡◌, sym, ◌∙◌, ap₂}
use mathlib.Core.Logic.{by_cases}
use Rattle.schedule.specs.Project.{Project}
use Rattle.schedule.specs.Schedule.{Starts, load, latest_end, moved, earliest_start, makespan}
use Rattle.base.proofs.Bools.{by_bool}
use Rattle.schedule.proofs.Load.{Has, among, load_mono, latest_mono, moved_same, moved_other}
use Rattle.schedule.proofs.Reflect.{Feasible, Active}
pub use Rattle.schedule.specs.Facts.{Agree}

pub agree_sym : (p : Project) (S S' : Starts) → Agree p S S' → Agree p S' S
agree_sym p S S' a i h = sym (a i h)

pub agree_moved : (p : Project) (S S' : Starts) (j t : ℕ) → Agree p S S' → Agree p (moved S j t) (moved S' j t)
agree_moved p S S' j t a i h =
    by_cases
    (ℕ_discrete i j)
    (λ q. rw q (moved_same S j t ∙ sym (moved_same S' j t)))
    (λ ne. moved_other S j t i ne ∙ a i h ∙ sym (moved_other S' j t i ne))

load_agree_le : (p : Project) (S S' : Starts) (t r : ℕ) → Agree p S S' → load p S t r ≤ load p S' t r
load_agree_le p S S' t r a =
    load_mono
    p
    p.present
    p.present
    S
    S'
    t
    t
    r
    (λ i l u y k. let e : S i ≡ S' i = a i (record { below = l; there = y }) in (y, omega arith))

pub load_agree : (p : Project) (S S' : Starts) (t r : ℕ) → Agree p S S' → load p S t r ≡ load p S' t r
load_agree p S S' t r a = le_antisymm (load_agree_le p S S' t r a) (load_agree_le p S' S t r (agree_sym p S S' a))

pub latest_agree : (p : Project) (S S' : Starts) → Agree p S S' → latest_end p S ≡ latest_end p S'
latest_agree p S S' a =
    le_antisymm
    (latest_mono p S S' (λ i h. omega (arith, a i h)))
    (latest_mono p S' S (λ i h. omega (arith, a i h)))

pub Feasible-agree : (p : Project) (S S' : Starts) → Agree p S S' → Feasible p S → Feasible p S'
Feasible-agree p S S' a f =
    record {
      from_floor = λ i h y. omega (arith, a i h, f.from_floor i h y);
      as_begun = λ i h z. sym (a i h) ∙ f.as_begun i h z;
      ordered = λ i j hi hj o. omega (arith, a i hi, a j hj, f.ordered i j hi hj o);
      fits = λ t r l. omega (arith, load_agree p S S' t r a, f.fits t r l);
    }

pub Active-agree : (p : Project) (S S' : Starts) → Agree p S S' → Active p S → Active p S'
Active-agree p S S' a v =
    record {
      is_feasible = Feasible-agree p S S' a v.is_feasible;
      least =
          λ j h y t l f.
          v.least j h y t (omega (arith, a j h))
          (Feasible-agree p (moved S' j t) (moved S j t) (agree_moved p S' S j t (agree_sym p S S' a)) f);
    }

earliest_agree : (p : Project) (S S' : Starts) (n : ℕ) → n ≤ p.size → Agree p S S'
    → earliest_start p S n ≡ earliest_start p S' n
unfolding earliest_start
earliest_agree p S S' zero l a = latest_agree p S S' a
earliest_agree p S S' (suc n) l a =
    let rest : earliest_start p S n ≡ earliest_start p S' n = earliest_agree p S S' n (omega arith) a in
    by_bool
    (p.present n)
    (λ y. rw y (ap₂ min rest (a n (record { below = l; there = y }))))
    (λ z. rw z rest)

pub makespan_agree : (p : Project) (S S' : Starts) → Agree p S S' → makespan p S ≡ makespan p S'
unfolding makespan
makespan_agree p S S' a = ap₂ ◌-◌ (latest_agree p S S' a) (earliest_agree p S S' p.size (omega arith) a)

-- A part of a project.

pub part_has : (p : Project) (F : ℕ → Bool) → ((i : ℕ) → i < p.size → F i ≡ true → p.present i ≡ true) → (i : ℕ)
    → Has (among p F) i → Has p i
part_has p F w i h = record { below = h.below; there = w i h.below h.there }

-- What is feasible with more activities is so without them.
pub part_feasible : (p : Project) (F G : ℕ → Bool) (S : Starts) → ((i : ℕ) → Has (among p F) i → G i ≡ true)
    → Feasible (among p G) S → Feasible (among p F) S
part_feasible p F G S w f =
    let up : (i : ℕ) → Has (among p F) i → Has (among p G) i = λ i h. record { below = h.below; there = w i h } in
    record {
      from_floor = λ i h y. f.from_floor i (up i h) y;
      as_begun = λ i h z. f.as_begun i (up i h) z;
      ordered = λ i j hi hj o. f.ordered i j (up i hi) (up j hj) o;
      fits =
          λ t r l.
          let less : load (among p F) S t r ≤ load (among p G) S t r =
          load_mono p F G S S t t r (λ i b u y k. (w i (record { below = b; there = y }), k))
          in
          omega (arith, f.fits t r l);
    }

-- Two sets with the same activities.
pub part_active : (p : Project) (F G : ℕ → Bool) (S : Starts) → ((i : ℕ) → Has (among p F) i → G i ≡ true)
    → ((i : ℕ) → Has (among p G) i → F i ≡ true) → Active (among p F) S → Active (among p G) S
part_active p F G S w v a =
    record {
      is_feasible = part_feasible p G F S v a.is_feasible;
      least =
          λ j h y t l f.
          a.least j (record { below = h.below; there = v j h }) y t l (part_feasible p F G (moved S j t) w f);
    }
