-- A load grows only where an activity starts, so capacities that are kept at every start are kept on every tick.
use Prim.Native.Nat.{ℕ, zero, suc, ◌≤◌}
use native.Mathlib.Omega.{arith}
use mathlib.Core.Bool.{Bool, true, not, ◌&&◌}
use mathlib.Core.Path.{◌≡◌, ap, subst}
use mathlib.Core.Logic.{◌≢◌, ◌⊎◌, inl, inr, ⊎_elim}
use lib.Dec.{eqb}
use borrow.Author.Tests.{eqb-true, eq-eqb, not-true}
use Rattle.base.specs.Below.{every_below}
use Rattle.base.proofs.Bools.{by_bool, true_not_false, both, and_left, and_right}
use Rattle.base.proofs.Below.{every_at, every_fails}
use Rattle.schedule.specs.Project.{Project}
use Rattle.schedule.specs.Schedule.{Starts, load}
use Rattle.schedule.proofs.Load.{Has, load_mono, load_none}

module _ (p : Project) where
  -- An activity with x for its start or its end, or none.
  pub found : (f : ℕ → ℕ) (x : ℕ) → ((k : ℕ) × Has p k × (f k ≡ x)) ⊎ ((k : ℕ) → Has p k → f k ≢ x)
  found f x =
      let test : ℕ → Bool = λ k. not (p.present k && eqb (f k) x) in
      by_bool (every_below p.size test)
      (λ y.
      inr (λ k h e.
      true_not_false (both h.there (eq-eqb (f k) x e))
      (not-true (p.present k && eqb (f k) x) (every_at p.size test y k h.below))))
      (λ z.
      let (k, b, fails) = every_fails p.size test z in
      let y : (p.present k && eqb (f k) x) ≡ true =
      by_bool (p.present k && eqb (f k) x) (λ h. h) (λ n. true_not_false (ap not n) fails) in
      inl (
        k,
        record { below = b; there = and_left (p.present k) (eqb (f k) x) y },
        eqb-true (f k) x (and_right (p.present k) (eqb (f k) x) y),
      ))

  module _ (S : Starts) where
    -- Between two starts no load grows.
    pub later_on : (v r : ℕ) → ((k : ℕ) → Has p k → S k ≢ suc v) → load p S (suc v) r ≤ load p S v r
    later_on v r none =
        load_mono p p.present p.present S S (suc v) v r
        (λ k b w y runs.
        let ne : S k ≢ suc v = none k (record { below = b; there = y }) in
        (y, record { begins = omega (arith, runs.begins, ne); ends = omega (arith, runs.ends) }))

    pub starts_enough : (r c : ℕ) → ((k : ℕ) → Has p k → load p S (S k) r ≤ c) → (t : ℕ) → load p S t r ≤ c
    starts_enough r c starts zero =
        ⊎_elim
        (λ (k, h, e). subst (λ (u : ℕ). load p S u r ≤ c) e (starts k h))
        (λ none.
        omega (arith, load_none p S 0 r (λ k h u runs. none k h (omega (arith, runs.begins)))))
        (found S 0)
    starts_enough r c starts (suc v) =
        ⊎_elim
        (λ (k, h, e). subst (λ (u : ℕ). load p S u r ≤ c) e (starts k h))
        (λ none. omega (arith, later_on v r none, starts_enough r c starts v))
        (found S (suc v))
