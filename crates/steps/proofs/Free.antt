-- Where an activity is free to start: the tests of the code among the frozen ones of its component are those of the
-- scan.
use Prim.Native.Nat.{ℕ, ◌+◌, ◌≤◌, ◌<◌, max}
use native.Mathlib.Decide.{ℕ_discrete, dec_le}
use native.Mathlib.Omega.{arith}
use mathlib.Core.Bool.{Bool, true, false, not, cond, ◌&&◌, ◌||◌}
use mathlib.Core.List.{List}
use mathlib.Core.Logic.{◌≢◌, by_cases}
use mathlib.Core.Path.{◌≡◌, refl, sym, ap, ◌∙◌}
use lib.Dec.{leb, ltb, eqb}
use borrow.Author.Tests.{leb-true, le-leb, ltb-true, lt-ltb, eq-eqb, eqb-true, ne_eqb, not-true}
use Rattle.base.specs.Below.{every_below, ◌implies◌}
use Rattle.base.proofs.Bools.{by_bool, true_not_false, both, and_left, and_right, cond_true, cond_false}
use Rattle.base.proofs.Below.{every_at, every_of, every_fails, implies_elim, implies_intro, sum_le, sum_more, sum_stops}
use Rattle.sets.specs.Sets.{most, has}
use Rattle.schedule.specs.Schedule.{Starts, load}
use Rattle.schedule.proofs.Load.{Has, among, Runs, holds, holds_all, holds_some, holds_le, runs_there, runs_is}
use Rattle.schedule.proofs.Load.{units_in_load, load_none}
use Rattle.branching.proofs.Node.{Node}
use Rattle.branching.proofs.Fit.{FitsOn}
use Rattle.scan.specs.Scan.{Diagram}
use Rattle.scan.specs.Scan.{is_ahead, is_next}
use Rattle.scan_exact.proofs.Standing.{Standing, has_frozen, ends_late}
use Rattle.instance.specs.Instance.{own_of, fit_together, is_tight, Instance}
use Rattle.instance.specs.Table.{acts_of, duration_at, units_at, capacity_at, resources_of, tight_of, project_in}
use Rattle.profile.specs.Work.{end_at, start_at}
use Rattle.profile.specs.Room.{runs_at, held_at, has_room_at}
use Rattle.steps.proofs.Given.{scannable}

-- Where no two of its component can run together, an activity that is not frozen has room once none of it runs.
module _ (t : List ℕ) (given : Instance t) (F : ℕ → Bool) (S : Starts) (node : Node (project_in t) F S)
    (inside : (k : ℕ) → F k ≡ true → Has (project_in t) k) (i : ℕ) (h : Has (project_in t) i) (x : ℕ) where
  pub alone_in : ((k : ℕ) → F k ≡ true → own_of t k ≡ own_of t i → Runs (project_in t) S x k → ⊥)
      → FitsOn (project_in t) F S i x
  unfolding project_in
  alone_in none r b =
      by_cases (ℕ_discrete (units_at t i r) 0) (λ z. omega (arith, z, node.is_active.is_feasible.fits x r b))
      (λ ne.
      omega (
        arith,
        given.laid.alone i r h.below b,
        load_none (among (project_in t) F) S x r
            (λ k f u runs.
            none k f.there
            ((scannable t given).joint k i r (inside k f.there) h b u (omega (arith, ne)))
            runs),
      ))

  pub tight_in : has (tight_of t) i ≡ true → (k : ℕ) → F k ≡ true → own_of t k ≡ own_of t i → k ≢ i
      → Runs (project_in t) S x k
      → FitsOn (project_in t) F S i x
      → ⊥
  unfolding project_in is_tight fit_together
  tight_in tight k f on ne runs fits =
      let hk : Has (project_in t) k = inside k f in
      let together : ℕ → Bool = λ r. leb (units_at t k r + units_at t i r) (capacity_at t r) in
      let pair : ℕ → ℕ → Bool =
      λ a b. (eqb (own_of t a) (own_of t i) && eqb (own_of t b) (own_of t i) && not (eqb a b))
      implies not (fit_together t a b) in
      let all : is_tight t (own_of t i) ≡ true =
      and_right (ltb i (acts_of t)) (is_tight t (own_of t i)) (sym (given.laid.tight i) ∙ tight) in
      let apart : not (fit_together t k i) ≡ true =
      implies_elim (eqb (own_of t k) (own_of t i) && eqb (own_of t i) (own_of t i) && not (eqb k i))
      (not (fit_together t k i))
      (every_at (acts_of t) (pair k) (every_at (acts_of t) (λ a. every_below (acts_of t) (pair a)) all k hk.below) i
      h.below)
      (both (both (eq-eqb (own_of t k) (own_of t i) on) (eq-eqb (own_of t i) (own_of t i) refl))
      (ap not (ne_eqb k i ne))) in
      let (r, b, over) = every_fails (resources_of t) together (not-true (fit_together t k i) apart) in
      let le : units_at t k r ≤ load (among (project_in t) F) S x r =
      units_in_load (among (project_in t) F) S x r k (record { below = hk.below; there = f }) runs in
      true_not_false {b = leb (units_at t k r + units_at t i r) (capacity_at t r)}
      (le-leb (units_at t k r + units_at t i r) (capacity_at t r) (omega (arith, fits r b, le))) over

module _ (t : List ℕ) (given : Instance t) (d : Diagram) (line : ℕ) (standing : Standing (project_in t) d line) where
  module _ (i : ℕ) (h : Has (project_in t) i) (x : ℕ) where
    pub alone_fits :
        ((k : ℕ) → d.frozen k ≡ true → own_of t k ≡ own_of t i → Runs (project_in t) d.starts x k → ⊥)
        → FitsOn (project_in t) d.frozen d.starts i x
    alone_fits =
        alone_in t given d.frozen d.starts standing.node (has_frozen (project_in t) d line standing) i h x

    pub tight_alone : has (tight_of t) i ≡ true → (k : ℕ) → d.frozen k ≡ true → own_of t k ≡ own_of t i → k ≢ i
        → Runs (project_in t) d.starts x k
        → FitsOn (project_in t) d.frozen d.starts i x
        → ⊥
    tight_alone =
        tight_in t given d.frozen d.starts standing.node (has_frozen (project_in t) d line standing) i h x

  -- One that is placed and not frozen starts after all of such a component that is frozen.
  pub tight_after : (i : ℕ) → d.placed i ≡ true → d.frozen i ≡ false → has (tight_of t) i ≡ true
      → (k : ℕ) → d.frozen k ≡ true → own_of t k ≡ own_of t i
      → d.starts k + duration_at t k ≤ d.starts i
  unfolding project_in
  tight_after i there waits tight k f on =
      by_cases (dec_le (d.starts k + duration_at t k) (d.starts i)) (λ y. y)
      (λ gt.
      let h : Has (project_in t) i = standing.inside i there in
      let x : ℕ = max (d.starts k) (d.starts i) in
      let in_time : x < d.starts i + duration_at t i =
      omega (
        arith,
        standing.before k f,
        ends_late (project_in t) d line standing i there waits,
        given.laid.long i h.below,
      ) in
      absurd
      (tight_alone i h x tight k f on (λ e. true_not_false f (ap d.frozen e ∙ waits))
      (record {
        begins = omega arith;
        ends = omega (arith, gt, given.laid.long k (has_frozen (project_in t) d line standing k f).below);
      })
      (λ r b. (standing.at i there waits).room.fits x r b (omega arith) in_time)))

  -- So it comes next.
  pub tight_next : (i : ℕ) → d.placed i ≡ true → d.frozen i ≡ false → has (tight_of t) i ≡ true
      → is_next (project_in t) (own_of t) d i ≡ true
  unfolding project_in
  tight_next i there waits tight =
      every_of (acts_of t)
      (λ k.
      (d.frozen k && true && eqb (own_of t k) (own_of t i))
      implies is_ahead (project_in t) (own_of t) (d.starts k) k (d.starts i) i)
      (λ k lk.
      implies_intro (d.frozen k && true && eqb (own_of t k) (own_of t i))
      (is_ahead (project_in t) (own_of t) (d.starts k) k (d.starts i) i)
      (λ y.
      let f : d.frozen k ≡ true =
      and_left (d.frozen k) true (and_left (d.frozen k && true) (eqb (own_of t k) (own_of t i)) y) in
      let on : own_of t k ≡ own_of t i =
      eqb-true (own_of t k) (own_of t i) (and_right (d.frozen k && true) (eqb (own_of t k) (own_of t i)) y) in
      ap (λ (x : Bool). x || (eqb (d.starts k) (d.starts i) && ltb k i))
      (lt-ltb (d.starts k) (d.starts i)
      (omega (arith, tight_after i there waits tight k f on, given.laid.long k lk)))))

  -- The ends of the frozen ones stand in the working array.
  module _ (w : List ℕ) (ended : (k : ℕ) → d.frozen k ≡ true → d.starts k + duration_at t k ≡ end_at w k) where
    pub start_is : (k : ℕ) → d.frozen k ≡ true → start_at t w k ≡ d.starts k
    start_is k y = omega (arith, ended k y)

    -- Some of the frozen ones, all of the component of i that run on tick x among them.
    pub record Covers (set i x : ℕ) : Type 0 where
      pub inside : (k : ℕ) → has set k ≡ true → d.frozen k ≡ true
      pub all : (k : ℕ) → d.frozen k ≡ true → own_of t k ≡ own_of t i → d.starts k ≤ x → x < end_at w k
          → has set k ≡ true

    module _ (set i x : ℕ) (h : Has (project_in t) i) (covers : Covers set i x) where
      abbrev held_by : ℕ → ℕ → ℕ
      held_by r k = cond (runs_at t w set x k) (units_at t k r) 0

      abbrev held_of : ℕ → ℕ → ℕ
      held_of r k = holds (among (project_in t) d.frozen) d.starts x r k

      -- What runs in one runs in the other.
      runs_in_lem : (k : ℕ) → runs_at t w set x k ≡ true
          → (d.frozen k ≡ true) × Runs (project_in t) d.starts x k
      unfolding project_in
      runs_in_lem k y =
          let two : (has set k && leb (start_at t w k) x) ≡ true =
          and_left (has set k && leb (start_at t w k) x) (ltb x (end_at w k)) y in
          let f : d.frozen k ≡ true = covers.inside k (and_left (has set k) (leb (start_at t w k) x) two) in (
            f,
            record {
              begins =
                  omega (
                    arith,
                    start_is k f,
                    leb-true (start_at t w k) x (and_right (has set k) (leb (start_at t w k) x) two),
                  );
              ends =
                  omega (
                    arith,
                    ended k f,
                    ltb-true x (end_at w k) (and_right (has set k && leb (start_at t w k) x) (ltb x (end_at w k)) y),
                  );
            },
          )

      runs_of : (k : ℕ) → d.frozen k ≡ true → own_of t k ≡ own_of t i → Runs (project_in t) d.starts x k
          → runs_at t w set x k ≡ true
      unfolding project_in
      runs_of k f on runs =
          let end = ended k f in
          both
          (both (covers.all k f on runs.begins (omega (arith, end, runs.ends)))
          (le-leb (start_at t w k) x (omega (arith, start_is k f, runs.begins))))
          (lt-ltb x (end_at w k) (omega (arith, end, runs.ends)))

      -- What the component holds of a resource that i uses.
      load_le : (r : ℕ) → r < resources_of t → 0 < units_at t i r
          → load (among (project_in t) d.frozen) d.starts x r ≤ held_at t w set x r
      unfolding project_in load held_at
      load_le r b u =
          omega (
            arith,
            sum_le (acts_of t) (held_of r) (held_by r)
                (λ k lk.
                by_cases (ℕ_discrete (held_of r k) 0) (λ z. omega (arith, z))
                (λ ne.
                let y = holds_some (among (project_in t) d.frozen) d.starts x r k (omega (arith, ne)) in
                let f : d.frozen k ≡ true = runs_there (among (project_in t) d.frozen) d.starts x k y in
                let le : held_of r k ≤ units_at t k r = holds_le (among (project_in t) d.frozen) d.starts x r k in
                let on : own_of t k ≡ own_of t i =
                (scannable t given).joint k i r
                (record { below = lk; there = (standing.inside k (standing.within k f)).there }) h b
                (omega (arith, le, ne)) u in
                omega (
                  arith,
                  le,
                  cond_true (units_at t k r) 0
                      (runs_of k f on (runs_is (among (project_in t) d.frozen) d.starts x k y)),
                ))),
            sum_more (acts_of t) most (held_by r) given.laid.acts,
          )

      held_le : (r : ℕ) → held_at t w set x r ≤ load (among (project_in t) d.frozen) d.starts x r
      unfolding project_in load held_at
      held_le r =
          omega (
            arith,
            sum_stops (acts_of t) most (held_by r) given.laid.acts
                (λ k a b.
                cond_false (units_at t k r) 0
                (by_bool (runs_at t w set x k)
                (λ y.
                absurd (omega (arith, a, (standing.inside k (standing.within k (runs_in_lem k y).0)).below)))
                (λ z. z))),
            sum_le (acts_of t) (held_by r) (held_of r)
                (λ k lk.
                by_bool (runs_at t w set x k)
                (λ y.
                let (f, runs) = runs_in_lem k y in
                omega (
                  arith,
                  cond_true (units_at t k r) 0 y,
                  holds_all (among (project_in t) d.frozen) d.starts x r k f runs,
                ))
                (λ z. omega (arith, cond_false (units_at t k r) 0 z))),
          )

      abbrev left_for : ℕ → Bool
      left_for r = ltb 0 (units_at t i r) implies leb (held_at t w set x r + units_at t i r) (capacity_at t r)

      pub room_fits : has_room_at t w set i x ≡ true → FitsOn (project_in t) d.frozen d.starts i x
      unfolding project_in has_room_at
      room_fits y r b =
          by_cases (ℕ_discrete (units_at t i r) 0)
          (λ z. omega (arith, z, standing.node.is_active.is_feasible.fits x r b))
          (λ ne.
          omega (
            arith,
            load_le r b (omega (arith, ne)),
            leb-true (held_at t w set x r + units_at t i r) (capacity_at t r)
                (implies_elim (ltb 0 (units_at t i r)) (leb (held_at t w set x r + units_at t i r) (capacity_at t r))
                (every_at (resources_of t) left_for y r b) (lt-ltb 0 (units_at t i r) (omega (arith, ne)))),
          ))

      pub fits_room : FitsOn (project_in t) d.frozen d.starts i x → has_room_at t w set i x ≡ true
      unfolding project_in has_room_at
      fits_room f =
          every_of (resources_of t) left_for
          (λ r b.
          implies_intro (ltb 0 (units_at t i r)) (leb (held_at t w set x r + units_at t i r) (capacity_at t r))
          (λ _. le-leb (held_at t w set x r + units_at t i r) (capacity_at t r) (omega (arith, held_le r, f r b))))
