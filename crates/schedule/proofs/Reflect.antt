-- What the tests of specs/Schedule.antt say: feasible and active as records of facts, and that both, the latest end
-- and the makespan go by the starts of the project's activities alone.
use Prim.Native.Nat.{ℕ, ◌+◌, ◌≤◌, ◌<◌}
use native.Mathlib.Decide.{dec_lt}
use native.Mathlib.Omega.{arith}
use mathlib.Core.Bool.{Bool, true, false, not, cond, ◌&&◌}
use mathlib.Core.Path.{◌≡◌, refl, sym, ◌∙◌}
use mathlib.Core.Logic.{by_cases}
use lib.Dec.{leb, eqb}
use borrow.Author.Tests.{leb-true, le-leb, eqb-true, eq-eqb, not-true, not-false}
use Rattle.base.specs.Below.{every_below, ◌implies◌}
use Rattle.schedule.specs.Project.{Project}
use Rattle.schedule.specs.Schedule.{Starts, end_of, load, latest_end, placed, in_order, within_capacity, feasible}
use Rattle.schedule.specs.Schedule.{moved, active}
use Rattle.base.proofs.Bools.{by_bool, true_not_false, both, and_left, and_right, not_both, cond_true, cond_false}
use Rattle.base.proofs.Below.{implies_elim, implies_intro, implies_fails, every_at, every_of, every_fails}
use Rattle.schedule.proofs.Load.{Has, load_after}
pub use Rattle.schedule.specs.Facts.{Feasible, Active}

-- feasible

placed_test : Project → Starts → ℕ → Bool
placed_test p S i = cond (p.free i) (leb p.floor (S i)) (eqb (S i) (p.begun i))

placed_true : (p : Project) (S : Starts) → placed p S ≡ true → (i : ℕ) → Has p i → placed_test p S i ≡ true
unfolding placed placed_test
placed_true p S e i h =
    implies_elim (p.present i) (placed_test p S i)
    (every_at p.size (λ k. p.present k implies placed_test p S k) e i h.below) h.there

placed_of : (p : Project) (S : Starts) → ((i : ℕ) → Has p i → placed_test p S i ≡ true) → placed p S ≡ true
unfolding placed placed_test
placed_of p S f =
    every_of
    p.size
    (λ k. p.present k implies placed_test p S k)
    (λ i l. implies_intro (p.present i) (placed_test p S i) (λ y. f i (record { below = l; there = y })))

order_test : Project → Starts → ℕ → ℕ → Bool
order_test p S j i = (p.present i && p.present j && p.precedes i j) implies leb (end_of p S i + p.gap i j) (S j)

order_true : (p : Project) (S : Starts) → in_order p S ≡ true → (i j : ℕ) → Has p i → Has p j → p.precedes i j ≡ true
    → end_of p S i + p.gap i j ≤ S j
unfolding in_order order_test
order_true p S e i j hi hj o =
    let inner : every_below p.size (order_test p S j) ≡ true =
    every_at p.size (λ k. every_below p.size (order_test p S k)) e j hj.below
    in
    leb-true
    (end_of p S i + p.gap i j)
    (S j)
    (implies_elim
    (p.present i && p.present j && p.precedes i j)
    (leb (end_of p S i + p.gap i j) (S j))
    (every_at p.size (order_test p S j) inner i hi.below)
    (both (both hi.there hj.there) o))

order_of : (p : Project) (S : Starts)
    → ((i j : ℕ) → Has p i → Has p j → p.precedes i j ≡ true → end_of p S i + p.gap i j ≤ S j) → in_order p S ≡ true
unfolding in_order order_test
order_of p S f =
    every_of
    p.size
    (λ k. every_below p.size (order_test p S k))
    (λ j lj.
    every_of
    p.size
    (order_test p S j)
    (λ i li.
    implies_intro
    (p.present i && p.present j && p.precedes i j)
    (leb (end_of p S i + p.gap i j) (S j))
    (λ y.
    let two : (p.present i && p.present j) ≡ true = and_left (p.present i && p.present j) (p.precedes i j) y in
    le-leb
    (end_of p S i + p.gap i j)
    (S j)
    (f
    i
    j
    (record { below = li; there = and_left (p.present i) (p.present j) two })
    (record { below = lj; there = and_right (p.present i) (p.present j) two })
    (and_right (p.present i && p.present j) (p.precedes i j) y)))))

-- Ticks from the latest end on need no test.
fits_true : (p : Project) (S : Starts) → within_capacity p S ≡ true → (t r : ℕ) → r < p.resources
    → load p S t r ≤ p.capacity r
unfolding within_capacity
fits_true p S e t r l =
    by_cases
    (dec_lt t (latest_end p S))
    (λ b.
    leb-true
    (load p S t r)
    (p.capacity r)
    (every_at
    p.resources
    (λ k. leb (load p S t k) (p.capacity k))
    (every_at (latest_end p S) (λ u. every_below p.resources λ k. leb (load p S u k) (p.capacity k)) e t b)
    r
    l))
    (λ b. omega (arith, load_after p S t r (omega arith)))

fits_of : (p : Project) (S : Starts) → ((t r : ℕ) → r < p.resources → load p S t r ≤ p.capacity r)
    → within_capacity p S ≡ true
unfolding within_capacity
fits_of p S f =
    every_of
    (latest_end p S)
    (λ u. every_below p.resources λ k. leb (load p S u k) (p.capacity k))
    (λ t b.
    every_of
    p.resources
    (λ k. leb (load p S t k) (p.capacity k))
    (λ r l. le-leb (load p S t r) (p.capacity r) (f t r l)))

pub feasible_is : (p : Project) (S : Starts) → feasible p S ≡ true → Feasible p S
unfolding feasible placed_test
feasible_is p S e =
    let two : (placed p S && in_order p S) ≡ true = and_left (placed p S && in_order p S) (within_capacity p S) e in
    let place : (i : ℕ) → Has p i → placed_test p S i ≡ true =
    placed_true p S (and_left (placed p S) (in_order p S) two) in
    record {
      from_floor =
          λ i h y.
          leb-true p.floor (S i) (sym (cond_true (leb p.floor (S i)) (eqb (S i) (p.begun i)) y) ∙ place i h);
      as_begun =
          λ i h z.
          eqb-true (S i) (p.begun i)
          (sym (cond_false (leb p.floor (S i)) (eqb (S i) (p.begun i)) z) ∙ place i h);
      ordered = order_true p S (and_right (placed p S) (in_order p S) two);
      fits = fits_true p S (and_right (placed p S && in_order p S) (within_capacity p S) e);
    }

pub feasible_of : (p : Project) (S : Starts) → Feasible p S → feasible p S ≡ true
unfolding feasible placed_test
feasible_of p S f =
    both
    (both
    (placed_of
    p
    S
    (λ i h.
    by_bool
    (p.free i)
    (λ y. cond_true (leb p.floor (S i)) (eqb (S i) (p.begun i)) y ∙ le-leb p.floor (S i) (f.from_floor i h y))
    (λ z.
    cond_false (leb p.floor (S i)) (eqb (S i) (p.begun i)) z ∙ eq-eqb (S i) (p.begun i) (f.as_begun i h z))))
    (order_of p S f.ordered))
    (fits_of p S f.fits)

-- active

least_test : Project → Starts → ℕ → Bool
least_test p S j = (p.present j && p.free j) implies every_below (S j) λ t. not (feasible p (moved S j t))

pub active_is : (p : Project) (S : Starts) → active p S ≡ true → Active p S
unfolding active least_test
active_is p S e =
    record {
      is_feasible = feasible_is p S (and_left (feasible p S) (every_below p.size (least_test p S)) e);
      least =
          λ j h y t l f.
          let low : every_below (S j) (λ u. not (feasible p (moved S j u))) ≡ true =
          implies_elim
          (p.present j && p.free j)
          (every_below (S j) λ u. not (feasible p (moved S j u)))
          (every_at p.size (least_test p S) (and_right (feasible p S) (every_below p.size (least_test p S)) e) j
          h.below)
          (both h.there y)
          in
          true_not_false
          (feasible_of p (moved S j t) f)
          (not-true (feasible p (moved S j t)) (every_at (S j) (λ u. not (feasible p (moved S j u))) low t l));
    }

not_of : (b : Bool) → (b ≡ true → ⊥) → not b ≡ true
not_of true f = absurd (f refl)
not_of false f = refl

pub active_of : (p : Project) (S : Starts) → Active p S → active p S ≡ true
unfolding active least_test
active_of p S a =
    both
    (feasible_of p S a.is_feasible)
    (every_of
    p.size
    (least_test p S)
    (λ j l.
    implies_intro
    (p.present j && p.free j)
    (every_below (S j) λ u. not (feasible p (moved S j u)))
    (λ y.
    every_of
    (S j)
    (λ u. not (feasible p (moved S j u)))
    (λ t b.
    not_of
    (feasible p (moved S j t))
    (λ f.
    a.least
    j
    (record { below = l; there = and_left (p.present j) (p.free j) y })
    (and_right (p.present j) (p.free j) y)
    t
    b
    (feasible_is p (moved S j t) f))))))

-- A feasible schedule that is not active has a free activity that can start sooner.
pub record Sooner (p : Project) (S : Starts) : Type 0 where
  pub who : ℕ
  pub to : ℕ
  pub has : Has p who
  pub is_free_lem : p.free who ≡ true
  pub before : to < S who
  pub stays : Feasible p (moved S who to)

pub not_active : (p : Project) (S : Starts) → Feasible p S → active p S ≡ false → Sooner p S
unfolding active least_test
not_active p S f e =
    let (j, l, z) =
    every_fails p.size (least_test p S)
    (not_both (feasible p S) (every_below p.size (least_test p S)) e (feasible_of p S f))
    in
    let (y, low) =
    implies_fails (p.present j && p.free j) (every_below (S j) λ u. not (feasible p (moved S j u))) z in
    let (t, b, stays) = every_fails (S j) (λ u. not (feasible p (moved S j u))) low in
    record {
      who = j;
      to = t;
      has = record { below = l; there = and_left (p.present j) (p.free j) y };
      is_free_lem = and_right (p.present j) (p.free j) y;
      before = b;
      stays = feasible_is p (moved S j t) (not-false (feasible p (moved S j t)) stays);
    }
