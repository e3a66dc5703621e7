-- The activities of a project, the units that they hold on a tick, and the latest end. Loads are compared activity by
-- activity, also between a project and the part of it that a set of its activities makes.
use Prim.Native.Nat.{ℕ, ◌+◌, ◌≤◌, ◌<◌}
use native.Mathlib.Decide.{ℕ_discrete, dec_lt}
use native.Mathlib.Omega.{arith}
use mathlib.Core.Bool.{Bool, true, false, cond, ◌&&◌}
use mathlib.Core.Path.{◌≡◌, refl}
use mathlib.Core.Logic.{◌≢◌, by_cases}
use lib.Dec.{leb, ltb}
use borrow.Author.Tests.{leb-true, ltb-true, le-leb, lt-ltb, eq-eqb, ne_eqb}
use Rattle.schedule.specs.Project.{Project}
pub use Rattle.schedule.specs.Bounds.{Has}
pub use Rattle.schedule.specs.Facts.{Sound, Unfixed, among}
use Rattle.schedule.specs.Schedule.{Starts, end_of, runs, load, latest_end, moved}
use Rattle.base.proofs.Bools.{by_bool, both, and_left, and_right, cond_true, cond_false}
use Rattle.base.proofs.Below.{cond_le, sum_le, sum_le_but, sum_zero, sum_term, sum_some, max_term, max_least}
use Rattle.base.proofs.Below.{max_reached}

-- i runs on tick t.
abbrev pub Runs : Project → Starts → ℕ → ℕ → Type 0
Runs p S t i = record { begins : S i ≤ t; ends : t < end_of p S i }

pub runs_of : (p : Project) (S : Starts) (t i : ℕ) → p.present i ≡ true → Runs p S t i → runs p S t i ≡ true
runs_of p S t i h k = both (both h (le-leb (S i) t k.begins)) (lt-ltb t (end_of p S i) k.ends)

pub runs_there : (p : Project) (S : Starts) (t i : ℕ) → runs p S t i ≡ true → p.present i ≡ true
runs_there p S t i e =
    and_left (p.present i) (leb (S i) t) (and_left (p.present i && leb (S i) t) (ltb t (end_of p S i)) e)

pub runs_is : (p : Project) (S : Starts) (t i : ℕ) → runs p S t i ≡ true → Runs p S t i
runs_is p S t i e =
    record {
      begins =
          leb-true (S i) t
          (and_right (p.present i) (leb (S i) t) (and_left (p.present i && leb (S i) t) (ltb t (end_of p S i)) e));
      ends = ltb-true t (end_of p S i) (and_right (p.present i && leb (S i) t) (ltb t (end_of p S i)) e);
    }

-- What i holds of r on tick t: the terms of a load.
abbrev pub holds : Project → Starts → ℕ → ℕ → ℕ → ℕ
holds p S t r i = cond (runs p S t i) (p.units i r) 0

pub holds_all : (p : Project) (S : Starts) (t r i : ℕ) → p.present i ≡ true → Runs p S t i
    → holds p S t r i ≡ p.units i r
holds_all p S t r i h k = cond_true (p.units i r) 0 (runs_of p S t i h k)

pub holds_some : (p : Project) (S : Starts) (t r i : ℕ) → 0 < holds p S t r i → runs p S t i ≡ true
holds_some p S t r i h =
    by_bool (runs p S t i) (λ y. y) (λ z. absurd (omega (arith, cond_false (p.units i r) 0 z)))

holds_none : (p : Project) (S : Starts) (t r i : ℕ) → p.present i ≡ false → holds p S t r i ≡ 0
holds_none p S t r i z = rw z

pub holds_le : (p : Project) (S : Starts) (t r i : ℕ) → holds p S t r i ≤ p.units i r
holds_le p S t r i = cond_le (runs p S t i) (p.units i r)

-- What holds units of r in one runs in the other too.
pub holds_mono : (p : Project) (F G : ℕ → Bool) (S S' : Starts) (t t' r i : ℕ)
    → (0 < p.units i r → F i ≡ true → Runs p S t i → (G i ≡ true) × Runs p S' t' i)
    → holds (among p F) S t r i ≤ holds (among p G) S' t' r i
holds_mono p F G S S' t t' r i f =
    by_cases
    (ℕ_discrete (holds (among p F) S t r i) 0)
    (λ z. omega arith)
    (λ ne.
    let some : 0 < holds (among p F) S t r i = omega arith in
    let y : runs (among p F) S t i ≡ true = holds_some (among p F) S t r i some in
    let le : holds (among p F) S t r i ≤ p.units i r = holds_le (among p F) S t r i in
    let (there, k) = f (omega arith) (runs_there (among p F) S t i y) (runs_is (among p F) S t i y) in
    omega (arith, holds_all (among p G) S' t' r i there k))

pub load_mono : (p : Project) (F G : ℕ → Bool) (S S' : Starts) (t t' r : ℕ)
    → ((i : ℕ) → i < p.size → 0 < p.units i r → F i ≡ true → Runs p S t i → (G i ≡ true) × Runs p S' t' i)
    → load (among p F) S t r ≤ load (among p G) S' t' r
unfolding load
load_mono p F G S S' t t' r f =
    sum_le p.size (holds (among p F) S t r) (holds (among p G) S' t' r)
    (λ i l. holds_mono p F G S S' t t' r i (f i l))

-- The same, but for what j may hold more.
pub load_mono_but : (p : Project) (F G : ℕ → Bool) (S S' : Starts) (t t' r j : ℕ) → j < p.size
    → ((i : ℕ) → i < p.size → i ≢ j → F i ≡ true → Runs p S t i → (G i ≡ true) × Runs p S' t' i)
    → load (among p F) S t r ≤ load (among p G) S' t' r + p.units j r
unfolding load
load_mono_but p F G S S' t t' r j l f =
    omega (
      arith,
      sum_le_but
          p.size
          (holds (among p F) S t r)
          (holds (among p G) S' t' r)
          j
          0
          (p.units j r)
          l
          (λ i l' ne. holds_mono p F G S S' t t' r i (λ u. f i l' ne))
          (omega (arith, holds_le (among p F) S t r j)),
    )

-- The same, where j runs besides.
pub load_with : (p : Project) (F G : ℕ → Bool) (S S' : Starts) (t t' r j : ℕ) → j < p.size → F j ≡ false
    → G j ≡ true → Runs p S' t' j
    → ((i : ℕ) → i < p.size → i ≢ j → F i ≡ true → Runs p S t i → (G i ≡ true) × Runs p S' t' i)
    → load (among p F) S t r + p.units j r ≤ load (among p G) S' t' r
unfolding load
load_with p F G S S' t t' r j l z y k f =
    omega (
      arith,
      sum_le_but
          p.size
          (holds (among p F) S t r)
          (holds (among p G) S' t' r)
          j
          (p.units j r)
          0
          l
          (λ i l' ne. holds_mono p F G S S' t t' r i (λ u. f i l' ne))
          (omega (
            arith,
            holds_all (among p G) S' t' r j y k,
            holds_none (among p F) S t r j z,
          )),
    )

pub units_in_load : (p : Project) (S : Starts) (t r i : ℕ) → Has p i → Runs p S t i → p.units i r ≤ load p S t r
unfolding load
units_in_load p S t r i h k =
    omega (arith, sum_term p.size (holds p S t r) i h.below, holds_all p S t r i h.there k)

-- A load comes from something that runs.
pub load_some : (p : Project) (S : Starts) (t r : ℕ) → 0 < load p S t r → (i : ℕ) × Has p i × Runs p S t i
unfolding load
load_some p S t r h =
    let (i, l, k) = sum_some p.size (holds p S t r) h in
    let e : runs p S t i ≡ true = holds_some p S t r i k in
    (i, record { below = l; there = runs_there p S t i e }, runs_is p S t i e)

pub load_none : (p : Project) (S : Starts) (t r : ℕ)
    → ((i : ℕ) → Has p i → 0 < p.units i r → Runs p S t i → ⊥) → load p S t r ≡ 0
unfolding load
load_none p S t r f =
    sum_zero
    p.size
    (holds p S t r)
    (λ i l.
    by_cases
    (ℕ_discrete (holds p S t r i) 0)
    (λ z. z)
    (λ ne.
    let y : runs p S t i ≡ true = holds_some p S t r i (omega arith) in
    absurd (f i (record { below = l; there = runs_there p S t i y }) (omega (arith, holds_le p S t r i))
    (runs_is p S t i y))))

-- Ends.

pub end_le : (p : Project) (S : Starts) (i : ℕ) → Has p i → end_of p S i ≤ latest_end p S
unfolding latest_end
end_le p S i h =
    let ends : ℕ → ℕ = λ k. cond (p.present k) (end_of p S k) 0 in
    omega (arith, max_term p.size ends i h.below, cond_true (end_of p S i) 0 h.there)

pub ends_least : (p : Project) (S : Starts) (b : ℕ) → ((i : ℕ) → Has p i → end_of p S i ≤ b) → latest_end p S ≤ b
unfolding latest_end
ends_least p S b f =
    max_least
    p.size
    (λ k. cond (p.present k) (end_of p S k) 0)
    b
    (λ i l.
    by_bool
    (p.present i)
    (λ y. omega (arith, f i (record { below = l; there = y }), cond_true (end_of p S i) 0 y))
    (λ z. omega (arith, cond_false (end_of p S i) 0 z)))

-- Where there is an activity, it is the end of one.
pub latest_reached : (p : Project) (S : Starts) (i : ℕ) → Has p i → (k : ℕ) × Has p k × (latest_end p S ≡ end_of p S k)
unfolding latest_end
latest_reached p S i h =
    let ends : ℕ → ℕ = λ k. cond (p.present k) (end_of p S k) 0 in
    by_cases
    (dec_lt 0 (latest_end p S))
    (λ l.
    let (k, b, e) = max_reached p.size ends l in
    by_bool
    (p.present k)
    (λ y. (k, record { below = b; there = y }, omega (arith, e, cond_true (end_of p S k) 0 y)))
    (λ z. absurd (omega (arith, e, l, cond_false (end_of p S k) 0 z))))
    (λ g. (i, h, omega (arith, end_le p S i h)))

pub latest_mono : (p : Project) (S S' : Starts) → ((i : ℕ) → Has p i → S i ≤ S' i) → latest_end p S ≤ latest_end p S'
latest_mono p S S' f = ends_least p S (latest_end p S') (λ i h. omega (arith, f i h, end_le p S' i h))

-- From the latest end on nothing runs.
pub load_after : (p : Project) (S : Starts) (t r : ℕ) → latest_end p S ≤ t → load p S t r ≡ 0
load_after p S t r h = load_none p S t r (λ i has u k. omega (arith, end_le p S i has))

-- One start changed.

pub moved_same : (S : Starts) (j t : ℕ) → moved S j t j ≡ t
moved_same S j t = cond_true t (S j) (eq-eqb j j refl)

pub moved_other : (S : Starts) (j t i : ℕ) → i ≢ j → moved S j t i ≡ S i
moved_other S j t i ne = cond_false t (S i) (ne_eqb i j ne)
