-- What the editions say differently: whether a plan has units.
use Prim.Native.Nat.{ℕ, zero, suc, ◌≤◌, ◌<◌}
use mathlib.Core.Bool.{Bool, true, false, cond, ◌&&◌}
use mathlib.Core.List.{[], ◌∷◌, ◌++◌}
use mathlib.Core.Path.{◌≡◌, refl, ap, ◌∙◌}
use native.Mathlib.Omega.{arith}
use lib.Dec.{leb, ltb, eqb}
use lib.ListN.{length, get_or, drop, take, set, replicate}
use Rattle.base.specs.Lists.{every, same_row}
use Rattle.plan.specs.declared.Refusal.TheVariants.{Range}
use Rattle.base.proofs.Bools.{elim_true, elim_false}
use Rattle.base.proofs.Lists.{take_replicate}
use Rattle.plan.specs.Limits.{bytes, counts_form, is_duration, between, says_units, most_units, is_capacity, capacity_form}
use Rattle.plan.specs.Plan.{Activity, one_unit, own_resource, activity_of, is_activity}
use Rattle.format.specs.Parse.{Reader, return, a_line, tested, the_lines, a_count, the_capacities}
use Rattle.format.proofs.Plans.{own_below}
use Rattle.format.proofs.Units.{own_least}
use Rattle.parser.specs.Steps.{ranged_activity}

-- An activity, by whether the edition says units.
abbrev by_units : ℕ → Bool → Reader Activity
by_units n says =
    tested
    (λ a.
    is_duration a.duration
    && cond says (eqb (length a.units) n && every (λ k. leb k (cond says 15 1)) a.units)
    (ltb (own_resource a.units) n && same_row a.units (one_unit n (own_resource a.units))))
    Range
    (a_line (cond says (bytes "act=#" ++ (counts_form n ++ bytes "\n")) (bytes "act=#,#\n"))
    (λ vs.
    cond says (record { duration = get_or vs 0 0; units = drop 1 vs })
    (record { duration = get_or vs 1 0; units = one_unit n (get_or vs 0 0) })))

module _ (edition n : ℕ) where
  pub later_capacities : says_units edition ≡ true
      → the_capacities edition n ≡ the_lines n (a_count capacity_form (is_capacity 2))
  unfolding the_capacities
  later_capacities says =
      elim_true _ _ _ says
      ∙ ap (λ (b : Bool). the_lines n (a_count capacity_form (between 1 (cond b (most_units 2) (most_units 1))))) says

  pub first_capacities : says_units edition ≡ false → the_capacities edition n ≡ return (replicate n 1)
  unfolding the_capacities
  first_capacities says = elim_false _ _ _ says

  pub later_activity : says_units edition ≡ true → ranged_activity edition n ≡ ranged_activity 2 n
  later_activity says = ap (by_units n) says

  pub first_activity : says_units edition ≡ false → ranged_activity edition n ≡ ranged_activity 1 n
  first_activity says = ap (by_units n) says

-- A row with a unit of one resource, and the resource of an activity in its range.
pub one_row : (n m r : ℕ) → n ≤ m → r < n → take n (set (replicate {A = ℕ} m 0) r 1) ≡ one_unit n r
one_row zero m r h k = absurd (omega arith)
one_row (suc n) zero r h k = absurd (omega arith)
one_row (suc n) (suc m) zero h k = ap (λ row. 1 ∷ row) (take_replicate 0 n m (omega arith))
one_row (suc n) (suc m) (suc r) h k = ap (λ row. 0 ∷ row) (one_row n m r (omega arith) (omega arith))

pub own_there : (resources r d : ℕ) → is_activity 1 resources (activity_of 1 resources (r ∷ d ∷ [])) ≡ true
    → r < resources
own_there resources r d e =
    omega (arith, own_below 1 resources (activity_of 1 resources (r ∷ d ∷ [])) e refl, own_least resources r)
